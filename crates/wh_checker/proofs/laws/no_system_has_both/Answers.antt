use Rattle.wh_checker.proofs.Bounded.{valid_yes-bounded}
use Rattle.wh_checker.proofs.laws.no_system_has_both.Goals as goal

pub returns : goal.returns
returns c d ps ranks pairs lines loop made has valid =
    λ (claim, says, holds). c.bounded_or_unbounded.ensures d.rules claim.term
    (valid_yes-bounded d ps ranks pairs lines made has valid claim.term holds.typed)
    (c.valid_claims_are_unbounded.ensures d.symbols d.rules claim made.rules holds)
