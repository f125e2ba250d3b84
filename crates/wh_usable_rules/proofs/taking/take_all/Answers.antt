use Rattle.std.proofs.Common.{ℕ, sym, subst}
use Rattle.std.proofs.lemmas.List.{length-map}
use Rattle.wh_terms.specs.Erase.{rewrite_rule, rewrite_rules}
use Rattle.wh_usable_rules.specs.Taken.{AreTakenBefore}
use Rattle.wh_usable_rules.proofs.Takings.{takes_none, takes_on}
use Rattle.wh_usable_rules.proofs.taking.take_all.Goals as goal

pub loop-init : goal.loop-init
loop-init c = takes_none (rewrite_rules c.args.rules.now) c.args.called.now c.args.taken.now

pub loop-preserved : goal.loop-preserved
loop-preserved c =
    takes_on (rewrite_rules c.args.rules.now) c.args.called.now c.args.taken.now c.loop.called c.loop.taken c.take_some.new.called c.take_some.new.taken
    c.loop.invariant c.take_some.ensures.takes

pub loop-smaller : goal.loop-smaller
loop-smaller c = c.take_some.ensures.fewer c.loop-test.true

pub returns : goal.returns
returns c =
    let rs = rewrite_rules c.args.rules.now in
    record {
      takes = takes_on rs c.args.called.now c.args.taken.now c.loop.called c.loop.taken c.take_some.new.called c.take_some.new.taken
          c.loop.invariant c.take_some.ensures.takes;
      all = subst (λ (n : ℕ). AreTakenBefore rs c.take_some.new.called c.take_some.new.taken n) (sym (length-map c.args.rules.now rewrite_rule))
          (c.take_some.ensures.ended c.loop-test.false);
    }
