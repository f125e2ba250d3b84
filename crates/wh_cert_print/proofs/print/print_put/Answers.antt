use Rattle.wh_text.proofs.PrintLemmas.{on_ok}
use Rattle.wh_cert.specs.Said.{said_put}
use Rattle.wh_cert_print.proofs.PrintCode.{put_pushes}
use Rattle.wh_cert_print.proofs.print.print_put.Goals as goal

pub returns : goal.returns
returns c =
    on_ok c.push-3.result _ _
    (put_pushes (said_put c.args.put.now) c.args.out.now c.append.new.self c.print_number.new.out c.push.new.self c.print_part.new.out c.push-2.new.self c.print_term.new.out c.push-3.new.self c.in_ok-append.ensures.ok c.in_ok-print_number.ensures c.in_ok-push.ensures.ok c.in_ok-print_part.ensures c.in_ok-push-2.ensures.ok c.in_ok-print_term.ensures)
    c.push-3.ensures.ok
