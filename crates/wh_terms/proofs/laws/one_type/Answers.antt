-- Two derivations for one tree end with the same rule.
use Rattle.wh_terms.proofs.TypingLaws.{typed_one}
use Rattle.wh_terms.proofs.laws.one_type.Goals as goal

pub returns : goal.returns
returns c S M Γ t a b p q = typed_one p q
