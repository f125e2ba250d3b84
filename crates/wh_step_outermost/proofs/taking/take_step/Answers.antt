use Rattle.std.proofs.Common.{◌≡◌, ap, sym, ◌∙◌, subst}
use Rattle.wh_terms.specs.Erase.{tm, rewrite_rules}
use Rattle.wh_step.specs.Roots.{put_at}
use Rattle.wh_step.specs.Stepping.{TakesTo}
use Rattle.wh_step_outermost.specs.Taking.{Replaces}
use Rattle.wh_step_outermost.proofs.taking.take_step.Goals as goal

pub returns-in-Some : goal.returns-in-Some
returns-in-Some c =
    let rules = rewrite_rules c.args.rules.now in
    let t = tm c.args.term.now in
    let s = c.args.step.now in
    let r = c.in-Some.replacement in
    let whole : TakesTo rules s t (put_at s.path (tm r.part) t) r.total = subst (Replaces rules s t) c.in-Some.is c.in_ok-replacement.ensures in
    let same : put_at s.path (tm r.part) t ≡ tm c.put.new.term = ap (λ p. put_at p (tm r.part) t) (sym c.as_slice.ensures.steps) ∙ sym c.put.ensures in
    subst (λ u. TakesTo rules s t u r.total) same whole
