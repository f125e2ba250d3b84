use Rattle.std.proofs.Common.{◌∙◌, sym}
use Rattle.wh_text.proofs.PrintLemmas.{on_ok, part_alone_put, part_enclosed_put}
use Rattle.wh_text.proofs.print.+print_part.Goals as goal

pub print_part-returns-then-is_empty : goal.print_part-returns-then-is_empty
print_part-returns-then-is_empty t c =
    on_ok c.append.result _ _ (part_alone_put c.args.raw.now c.args.out.now c.append.new.self c.bytes.result.now c.as_slice.result.now c.as_slice.ensures (sym c.is_empty.ensures ∙ c.if-is_empty.true) c.bytes.ensures.value) c.append.ensures.ok

pub print_part-returns : goal.print_part-returns
print_part-returns t c =
    on_ok c.push-2.result _ _ (part_enclosed_put c.args.raw.now c.args.out.now c.push.new.self c.print_types.new.out c.append-2.new.self c.push-2.new.self c.bytes-2.result.now c.as_slice.result.now c.as_slice.ensures (sym c.is_empty.ensures ∙ c.if-is_empty.false) c.in_ok-push.ensures.ok c.in_ok-print_types.ensures c.bytes-2.ensures.value c.in_ok-append.ensures.ok) c.push-2.ensures.ok
