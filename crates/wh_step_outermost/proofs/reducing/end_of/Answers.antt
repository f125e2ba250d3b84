use Rattle.std.proofs.Common.{refl, sym, subst}
use Rattle.std.specs.Prelude.{MatchOption}
use Rattle.wh_terms.specs.Erase.{tm, rewrite_rules}
use Rattle.wh_step_outermost.specs.Leftmost.{IsNormal, StepsFirstBy}
use Rattle.wh_step_outermost.specs.Reducing.{EndsBy}
use Rattle.wh_step_outermost.proofs.FirstSteps.{first_has_reduct}
use Rattle.wh_step_outermost.proofs.reducing.end_of.Goals as goal
use Rattle.wh_step_outermost.proofs.reducing.end_of.Goals.{in-Some, in-None}

pub returns : goal.returns
returns c =
    let rules = rewrite_rules c.args.rules.now in
    let u = tm c.args.last in
    let n = c.args.steps in
    let ends : EndsBy rules n n u c.match-branch-2.end = elim c.match-branch-2.branch [
      | in-Some w ↦ subst (EndsBy rules n n u) (sym w.end-is) (refl, first_has_reduct _ _ (subst (λ o. MatchOption o (IsNormal rules u) (λ s. StepsFirstBy rules u s.rule s.path)) w.in-Some.is c.in_ok-next_step.ensures))
      | in-None w ↦ subst (EndsBy rules n n u) (sym w.end-is) (subst (λ o. MatchOption o (IsNormal rules u) (λ s. StepsFirstBy rules u s.rule s.path)) w.in-None.is c.in_ok-next_step.ensures)
    ] in
    (refl, refl, ends)
