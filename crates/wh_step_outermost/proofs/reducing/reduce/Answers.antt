use Rattle.std.proofs.Common.{length, ap, sym, subst, List, Option, None}
use Rattle.std.specs.Prelude.{MatchOption}
use Rattle.wh_terms.specs.Tree.{Tm}
use Rattle.wh_terms.specs.Rules.{RewriteRule}
use Rattle.wh_terms.specs.Erase.{tm, rewrite_rules}
use Rattle.wh_terms.specs.declared.path.Step as taken
use Rattle.wh_step.specs.Stepping.{TakesTo}
use Rattle.wh_step_outermost.specs.Leftmost.{IsNormal, StepsFirstBy}
use Rattle.wh_step_outermost.specs.Reducing.{Reduces}
use Rattle.wh_step_outermost.specs.Taking.{Takes}
use Rattle.wh_step_outermost.specs.declared.reducing.End.TheVariants.{TooBig}
use Rattle.wh_step_outermost.proofs.Chains.{stands_first, stands_next, stands_past, ends_big}
use Rattle.wh_step_outermost.proofs.reducing.reduce.Goals as goal

abbrev First : List RewriteRule → Tm → Option taken.Step → Type 0
First rules t o = MatchOption o (IsNormal rules t) (λ s. StepsFirstBy rules t s.rule s.path)

pub loop-taken-init : goal.loop-taken-init
loop-taken-init c =
    stands_first (rewrite_rules c.args.rules.now) (tm c.args.term.now) (tm c.in_ok-here.here) c.new-place.result c.size-total.result c.in_ok-here.ensures c.requires.fits c.requires.shut c.requires.plain
    (ap length c.new-place.ensures) c.size-total.ensures

pub loop-taken-preserved : goal.loop-taken-preserved
loop-taken-preserved c =
    let (S, made) = c.requires.well_made in
    let rules = rewrite_rules c.args.rules.now in
    let here = tm c.loop-taken.here in
    let next = tm c.take_step.new.term in
    let step = c.in-Some.step in
    let first : StepsFirstBy rules here step.rule step.path = subst (First rules here) c.in-Some.is c.in_ok-step.ensures in
    let takes : TakesTo rules step here next c.in-Some-2.next = subst (Takes rules step here next) c.in-Some-2.is c.in_ok-next.ensures in
    stands_next S rules made (tm c.args.term.now) here next c.loop-taken.taken c.loop-taken.place c.loop-taken.total c.in-Some-2.next step c.loop-taken.invariant first takes

pub returns-in-None : goal.returns-in-None
returns-in-None c =
    let rules = rewrite_rules c.args.rules.now in
    let t = tm c.args.term.now in
    let here = tm c.loop-taken.here in
    let next = tm c.take_step.new.term in
    let step = c.in-Some.step in
    let n = c.loop-taken.taken in
    let first : StepsFirstBy rules here step.rule step.path = subst (First rules here) c.in-Some.is c.in_ok-step.ensures in
    let last : Takes rules step here next None = subst (Takes rules step here next) c.in-None.is c.in_ok-next.ensures in
    subst (λ (u : Tm). Reduces rules t c.args.steps n u TooBig) (sym last.1)
    (ends_big rules t here c.args.steps n c.loop-taken.place c.loop-taken.total c.loop-taken.invariant c.loop-taken-test.true (stands_past rules here step first last.0))
