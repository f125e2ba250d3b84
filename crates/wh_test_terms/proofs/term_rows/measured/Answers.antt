use Rattle.std.proofs.Common.{◌≤◌, arith}
use Rattle.wh_terms.specs.Erase.{tm}
use Rattle.wh_terms.specs.Measures.{nesting, size, Fits}
use Rattle.wh_step.proofs.RedexLemmas.{nesting-size}
use Rattle.wh_test_terms.proofs.term_rows.measured.Goals as goal

pub height-requires : goal.height-requires
height-requires c =
    let f : Fits (tm c.in_ok-term.term) = c.fits.ensures.0 c.if-not-fits.false in
    let small : size (tm c.in_ok-term.term) ≤ 65536 = f.small in
    let here : nesting (tm c.in_ok-term.term) ≤ size (tm c.in_ok-term.term) = nesting-size (tm c.in_ok-term.term) in
    omega (arith, small, here)
