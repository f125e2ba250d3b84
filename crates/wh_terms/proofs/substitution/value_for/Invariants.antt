use Rattle.std.proofs.Common.{◌≡◌, drop}
use Rattle.wh_types.specs.Erase.{ty}
use Rattle.wh_terms.specs.Entries.{replacement}
use Rattle.wh_terms.proofs.substitution.value_for.Given as goal

abbrev pub invariant-loop-entry : goal.invariant-loop-entry
invariant-loop-entry l = replacement l.by l.number (ty l.kind) ≡ replacement (drop l.entry-index l.entry-items) l.number (ty l.kind)
