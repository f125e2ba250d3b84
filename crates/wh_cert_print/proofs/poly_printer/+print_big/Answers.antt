use Rattle.std.proofs.Common.{◌≡◌, ◌++◌, ◌%◌, ◌+◌, [], ◌∷◌, ◌∙◌, arith}
use Rattle.std.specs.Fmt.{decimal}
use Rattle.wh_text.proofs.PrintLemmas.{on_ok, number_digit}
use Rattle.wh_cert_print.proofs.PrintPolyCode.{big_more}
use Rattle.wh_cert_print.proofs.poly_printer.+print_big.Goals as goal
use Rattle.wh_cert_print.proofs.poly_printer.+print_big.Goals.{then-number-ge10+in_ok-print_big, else-number-ge10}

pub returns : goal.returns
returns t c =
    let all = c.push.new.self ≡ c.args.out.now ++ decimal c.args.number in
    let last = c.push.new.self ≡ c.if-number-ge10.out ++ (48 + c.args.number % 10) ∷ [] in
    let ends : last → all = elim c.if-number-ge10.branch [
      | then-number-ge10+in_ok-print_big w ↦ big_more c.args.out.now c.if-number-ge10.out c.push.new.self c.args.number w.if-number-ge10.true (omega arith) (w.out-is ∙ w.in_ok-print_big.ensures)
      | else-number-ge10 w ↦ number_digit c.args.out.now c.if-number-ge10.out c.push.new.self c.args.number w.if-number-ge10.false w.out-is
    ] in
    on_ok c.push.result last all ends c.push.ensures.ok
