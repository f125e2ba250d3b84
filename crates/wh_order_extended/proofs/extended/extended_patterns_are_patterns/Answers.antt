-- By induction on the pattern.
use Rattle.wh_order_extended.proofs.LongPatterns.{long_pattern}
use Rattle.wh_order_extended.proofs.extended.extended_patterns_are_patterns.Goals as goal

pub returns : goal.returns
returns c S M Γ k t p = long_pattern S M k Γ t p
