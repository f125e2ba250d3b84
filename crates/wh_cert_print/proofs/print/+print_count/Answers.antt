use Rattle.std.proofs.Common.{◌≡◌, ◌++◌, ◌%◌, ◌+◌, [], ◌∷◌, ◌∙◌, arith}
use Rattle.std.specs.Fmt.{decimal}
use Rattle.wh_text.proofs.PrintLemmas.{on_ok, number_digit, number_more}
use Rattle.wh_cert_print.proofs.print.+print_count.Goals as goal
use Rattle.wh_cert_print.proofs.print.+print_count.Goals.{then-count-ge10+in_ok-print_count, else-count-ge10}

pub returns : goal.returns
returns t c =
    let all = c.push.new.self ≡ c.args.out.now ++ decimal c.args.count in
    let last = c.push.new.self ≡ c.if-count-ge10.out ++ (48 + c.args.count % 10) ∷ [] in
    let ends : last → all = elim c.if-count-ge10.branch [
      | then-count-ge10+in_ok-print_count w ↦ number_more c.args.out.now c.if-count-ge10.out c.push.new.self c.args.count w.if-count-ge10.true (omega arith) (w.out-is ∙ w.in_ok-print_count.ensures)
      | else-count-ge10 w ↦ number_digit c.args.out.now c.if-count-ge10.out c.push.new.self c.args.count w.if-count-ge10.false w.out-is
    ] in
    on_ok c.push.result last all ends c.push.ensures.ok
