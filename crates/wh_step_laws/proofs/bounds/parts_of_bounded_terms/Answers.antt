-- A step of the part is one of the term.
use Rattle.wh_step_laws.proofs.SystemSteps.{part-bounded}
use Rattle.wh_step_laws.proofs.bounds.parts_of_bounded_terms.Goals as goal

pub returns : goal.returns
returns c S rules t u w l p b h = part-bounded w t u (l, p) b h
