use Rattle.std.proofs.Common.{◌≡◌, ◌∙◌, ap}
use Rattle.wh_types.specs.Erase.{ty}
use Rattle.wh_terms.specs.Tree.{Tm, lam, app}
use Rattle.wh_terms.specs.Erase.{tm}
use Rattle.wh_step.specs.Roots.{BetaStep}
use Rattle.wh_step_outermost.proofs.RootSearch.{it_is, beta_there}
use Rattle.wh_step_outermost.proofs.redexes.steps_by_beta.Goals as goal

pub returns-in-Lam : goal.returns-in-Lam
returns-in-Lam c =
    let w = tm c.args.term.now in
    let t = tm c.in-Lam.field-1.value in
    let u = tm c.in-App.field-1.value in
    let a = ty c.in-Lam.field-0 in
    let is : w ≡ app (lam a t) u = ap tm c.in-App.is ∙ cc (ap tm c.deref.ensures, ap tm c.in-Lam.is) in
    it_is ((v : Tm) × BetaStep w v) (beta_there w t u a is)
