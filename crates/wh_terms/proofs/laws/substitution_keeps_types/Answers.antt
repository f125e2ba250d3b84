-- An instance of the typing law of simultaneous substitution.
use Rattle.wh_terms.specs.Tree.{bound}
use Rattle.wh_terms.proofs.TypingLaws.{typed-act, fits-bound}
use Rattle.wh_terms.proofs.laws.substitution_keeps_types.Goals as goal

pub returns : goal.returns
returns c S M Γ φ t a typed fits = typed-act Γ bound φ (fits-bound Γ) fits typed
