use Rattle.std.proofs.Common.{◌≡◌, drop, take}
use Rattle.std.specs.Prelude.{All}
use Rattle.wh_terms.specs.Entries.{bodies}
use Rattle.wh_terms.proofs.BodyLemmas.{IsForAnother}
use Rattle.wh_terms.proofs.bodies.body_for.Given as goal

abbrev pub invariant-loop-body : goal.invariant-loop-body
invariant-loop-body l =
    record { same : bodies l.by l.meta ≡ bodies (drop l.body-index l.body-items) l.meta; others : All (IsForAnother l.meta) (take l.body-index l.body-items) }
