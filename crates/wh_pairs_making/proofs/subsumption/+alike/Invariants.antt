use Rattle.std.proofs.Common.{◌≡◌, ℕ, take, slice_get}
use Rattle.wh_terms.specs.Erase.{tms, declared_metas}
use Rattle.wh_terms.specs.Sight.{OccursIn}
use Rattle.wh_pairs_making.proofs.subsumption.+alike.Given as goal

abbrev pub invariant-all_declared_alike-loop-item : goal.invariant-all_declared_alike-loop-item
invariant-all_declared_alike-loop-item l =
    (z : ℕ) → OccursIn z (tms (take l.item-index l.item-items)) → slice_get (declared_metas l.a) z ≡ slice_get (declared_metas l.b) z
