use Rattle.std.proofs.Common.{◌≡◌, map, take}
use Rattle.wh_types.specs.Erase.{ty}
use Rattle.wh_polycheck.proofs.Pushes.{meta_type}
use Rattle.wh_intern_pairs.proofs.scopes.scope_of.Given as goal

abbrev pub invariant-loop-meta : goal.invariant-loop-meta
invariant-loop-meta l = map ty l.kinds.items ≡ map meta_type (take l.meta-index l.meta-items)
