use Rattle.std.proofs.Common.{◌≡◌, ◌++◌, ◌%◌, ◌+◌, [], ◌∷◌, ◌∙◌, arith}
use Rattle.std.specs.Fmt.{decimal}
use Rattle.wh_text.proofs.PrintLemmas.{on_ok, number_digit, number_more}
use Rattle.wh_text.proofs.print.+print_number.Goals as goal
use Rattle.wh_text.proofs.print.+print_number.Goals.{then-n-ge10+in_ok-print_number, else-n-ge10}

pub returns : goal.returns
returns t c =
    let all = c.push.new.self ≡ c.args.out.now ++ decimal c.args.n in
    let last = c.push.new.self ≡ c.if-n-ge10.out ++ (48 + c.args.n % 10) ∷ [] in
    let ends : last → all = elim c.if-n-ge10.branch [
      | then-n-ge10+in_ok-print_number w ↦ number_more c.args.out.now c.if-n-ge10.out c.push.new.self c.args.n w.if-n-ge10.true (omega arith) (w.out-is ∙ w.in_ok-print_number.ensures)
      | else-n-ge10 w ↦ number_digit c.args.out.now c.if-n-ge10.out c.push.new.self c.args.n w.if-n-ge10.false w.out-is
    ] in
    on_ok c.push.result last all ends c.push.ensures.ok
