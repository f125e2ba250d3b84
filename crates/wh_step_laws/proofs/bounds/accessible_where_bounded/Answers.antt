-- One way by the finite list of reducts, the other by induction on the bound.
use Rattle.wh_step_laws.proofs.SystemSteps.{ends-bounded, bounded-ends}
use Rattle.wh_step_laws.proofs.bounds.accessible_where_bounded.Goals as goal

pub returns : goal.returns
returns c S rules t w l p = (λ e. ends-bounded w t (l, p) e, λ b. bounded-ends t b)
