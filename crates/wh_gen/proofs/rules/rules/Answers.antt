use Rattle.std.proofs.Common.{◌++◌, sym, ap, ◌∙◌}
use Rattle.wh_gen.specs.RawFamily.{raw_rules_of_map}
use Rattle.wh_gen.proofs.RangeLists.{joined_next}
use Rattle.wh_gen.proofs.rules.rules.Goals as goal

pub loop-number-preserved : goal.loop-number-preserved
loop-number-preserved c =
    let n = c.loop-number.number in
    c.in_ok-add_rules.ensures ∙ ap (λ rs. rs ++ raw_rules_of_map n) c.loop-number.invariant ∙ sym (joined_next raw_rules_of_map n)
