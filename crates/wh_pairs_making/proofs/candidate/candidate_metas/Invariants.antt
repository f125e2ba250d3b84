use Rattle.std.proofs.Common.{◌≡◌, ◌++◌, take, map}
use Rattle.wh_types.specs.Erase.{ty}
use Rattle.wh_terms.specs.Erase.{declared_metas}
use Rattle.wh_pairs.specs.Candidates.{nullary}
use Rattle.wh_pairs_making.proofs.candidate.candidate_metas.Given as goal

abbrev pub invariant-loop-kind : goal.invariant-loop-kind
invariant-loop-kind l = declared_metas l.all ≡ declared_metas l.metas ++ map (λ a. nullary (ty a.now)) (take l.kind-index l.kinds)
