use Rattle.std.proofs.Common.{sym, ◌∙◌}
use Rattle.wh_text.proofs.PrintLemmas.{on_ok}
use Rattle.wh_order_inference.specs.InferenceText.{form}
use Rattle.wh_order_inference.specs.Said.{letter}
use Rattle.wh_order_text.proofs.PrintCode.{inference_pushes, not_alone, list_full}
use Rattle.wh_order_text.proofs.printer.+print_inference.Goals as goal

pub print_inference-returns : goal.print_inference-returns
print_inference-returns t c =
    on_ok c.print_list.result _ _ (inference_pushes c.args.i.now c.args.out.now c.push.new.self c.print_place.new.out c.print_list.new.out c.sign_of.result c.sign_of.ensures c.in_ok-push.ensures.ok c.in_ok-print_place.ensures) c.print_list.ensures

pub print_list-returns : goal.print_list-returns
print_list-returns t c =
    let f = form (letter c.args.letter) in
    on_ok c.push.result _ _ (list_full f c.args.parts.now c.as_slice.result.now c.args.out.now c.print_each.new.out c.push.new.self (not_alone c.is_alone.result f c.is_alone.ensures c.if-is_alone.false) c.as_slice.ensures (sym c.is_empty.ensures ∙ c.if-is_empty.false) c.in_ok-print_each.ensures) c.push.ensures.ok
