use Rattle.std.proofs.Common.{◌+◌, drop, ap, sym, ◌∙◌}
use Rattle.std.specs.Prelude.{◌&&◌}
use Rattle.wh_text.specs.Erase.{rtms}
use Rattle.wh_system_parts.proofs.RawTerms.{left_next, left_none}
use Rattle.wh_system_resolve.specs.Form.{are_names}
use Rattle.wh_system_resolve.proofs.form.are_names.Goals as goal

pub returns-then-not-is_name : goal.returns-then-not-is_name
returns-then-not-is_name c =
    let xs = c.args.items.now in
    sym (c.loop-item.invariant ∙ ap are_names (left_next xs c.loop-item.item-index c.item-item.result c.loop-item-test.true c.item-item.is)
    ∙ ap (λ b. b && are_names (rtms (drop (c.loop-item.item-index + 1) xs))) (sym c.is_name.ensures ∙ c.if-not-is_name.true))

pub loop-item-preserved : goal.loop-item-preserved
loop-item-preserved c =
    let xs = c.args.items.now in
    c.loop-item.invariant ∙ ap are_names (left_next xs c.loop-item.item-index c.item-item.result c.loop-item-test.true c.item-item.is)
    ∙ ap (λ b. b && are_names (rtms (drop (c.loop-item.item-index + 1) xs))) (sym c.is_name.ensures ∙ c.if-not-is_name.false)

pub returns : goal.returns
returns c = sym (c.loop-item.invariant ∙ ap are_names (left_none c.args.items.now c.loop-item.item-index c.loop-item-test.false))
