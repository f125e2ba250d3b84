-- Steps and direct subterms lead to finitely many terms, and end.
use Rattle.wh_step_laws.proofs.SystemSteps.{bounded-parts}
use Rattle.wh_step_laws.proofs.bounds.longest_of_bounded_terms.Goals as goal

pub returns : goal.returns
returns c S rules t w l p b = bounded-parts w t (l, p) b
