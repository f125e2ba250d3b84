use Rattle.std.proofs.Common.{◌+◌, drop, subst}
use Rattle.wh_terms.specs.Erase.{rewrite_rule, rewrite_rules}
use Rattle.wh_text.specs.Pushes.{Pushes}
use Rattle.wh_system.specs.SystemView.{system_data}
use Rattle.wh_system_print.specs.SystemText.{put_rule, put_rules}
use Rattle.wh_system_print.proofs.ListPrinting.{begins, ends, goes_on}
use Rattle.wh_system_print.proofs.RulePrinting.{rules_next, rules_none}
use Rattle.wh_system_print.proofs.rules.print_rules.Goals as goal

pub loop-k-init : goal.loop-k-init
loop-k-init c = begins c.args.out.now (put_rules (system_data c.args.system.now) 0 (rewrite_rules c.rules-rule-items.result.now))

pub loop-k-preserved : goal.loop-k-preserved
loop-k-preserved c =
    let d = system_data c.args.system.now in
    let xs = c.rules-rule-items.result.now in
    goes_on c.args.out.now c.loop-k.out c.print_rule.new.out (put_rules d c.loop-k.k (rewrite_rules (drop c.loop-k.k xs))) (put_rule d c.loop-k.k (rewrite_rule c.rule-item.result))
    (put_rules d (c.loop-k.k + 1) (rewrite_rules (drop (c.loop-k.k + 1) xs))) (put_rules d 0 (rewrite_rules xs))
    (rules_next d xs c.loop-k.k c.rule-item.result c.loop-k-test.true c.rule-item.is) c.loop-k.invariant c.in_ok-print_rule.ensures

pub returns : goal.returns
returns c =
    let d = system_data c.args.system.now in
    let xs = c.rules-rule-items.result.now in
    subst (λ rs. Pushes c.args.out.now c.loop-k.out (put_rules d 0 rs)) c.rules-rule-items.ensures
    (ends c.args.out.now c.loop-k.out (put_rules d c.loop-k.k (rewrite_rules (drop c.loop-k.k xs))) (put_rules d 0 (rewrite_rules xs)) (rules_none d xs c.loop-k.k c.loop-k.k c.loop-k-test.false) c.loop-k.invariant)
