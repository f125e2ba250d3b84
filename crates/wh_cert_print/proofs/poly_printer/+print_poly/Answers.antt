use Rattle.wh_text.proofs.PrintLemmas.{on_ok}
use Rattle.wh_cert_print.proofs.PrintPolyCode.{zero_pushes, poly_pushes, no_polys_push, polys_push, factors_end}
use Rattle.wh_cert_print.proofs.poly_printer.+print_poly.Goals as goal

pub print_factors-returns : goal.print_factors-returns
print_factors-returns t c =
    factors_end c.args.us.now c.args.out.now c.loop-item.out c.as_slice-item-items.result.now c.loop-item.item-index c.loop-item.invariant c.as_slice-item-items.ensures c.loop-item-test.false

pub print_poly-returns-in-None : goal.print_poly-returns-in-None
print_poly-returns-in-None t c =
    on_ok c.push.result _ _ (zero_pushes c.args.p.now c.args.out.now c.push.new.self c.as_slice.result.now c.as_slice.ensures c.in-None.ensures.cases) c.push.ensures.ok

pub print_poly-returns-in_ok-print_factors-in-Some :
    goal.print_poly-returns-in_ok-print_factors-in-Some
print_poly-returns-in_ok-print_factors-in-Some t c =
    on_ok c.print_sum.result _ _ (poly_pushes c.args.p.now c.args.out.now c.print_big.new.out c.print_factors.new.out c.print_sum.new.out c.as_slice.result.now c.in-Some.first.now c.in-Some.rest.now c.as_slice.ensures c.in-Some.ensures.cases.0 c.in_ok-print_big-in-Some.ensures c.in_ok-print_factors-in-Some.ensures) c.print_sum.ensures

pub print_polys-returns-in-None : goal.print_polys-returns-in-None
print_polys-returns-in-None t c = no_polys_push c.args.ps.now c.args.out.now c.as_slice.result.now c.as_slice.ensures c.in-None.ensures.cases

pub print_polys-returns-in_ok-print_poly-in-Some :
    goal.print_polys-returns-in_ok-print_poly-in-Some
print_polys-returns-in_ok-print_poly-in-Some t c =
    on_ok c.print_more.result _ _ (polys_push c.args.ps.now c.args.out.now c.push.new.self c.print_poly.new.out c.print_more.new.out c.as_slice.result.now c.in-Some.first.now c.in-Some.rest.now c.as_slice.ensures c.in-Some.ensures.cases.0 c.in_ok-push-in-Some.ensures.ok c.in_ok-print_poly-in-Some.ensures) c.print_more.ensures
