use Rattle.std.proofs.Common.{get_or, arith}
use Rattle.std.proofs.lemmas.Option.{slice_get-get_or}
use Rattle.wh_poly_space.proofs.PlaceLemmas.{coefficient_there, coefficient_past}
use Rattle.wh_poly_space.proofs.space.coefficient_at.Goals as goal

pub returns-then-place-count : goal.returns-then-place-count
returns-then-place-count c exact up =
    let cs = c.args.coefficients.now in
    coefficient_there cs c.args.place exact (get_or cs c.args.place 0) c.min.result (omega (arith, c.length_of-count.type_inv, c.length_of-count.ensures)) up
    (slice_get-get_or cs c.args.place 0 (omega (arith, c.if-place-count.true, c.length_of-count.ensures))) c.min.ensures

pub returns-else-place-count : goal.returns-else-place-count
returns-else-place-count c exact up =
    coefficient_past c.args.coefficients.now c.args.place exact (omega (arith, c.length_of-count.type_inv, c.length_of-count.ensures)) up (omega (arith, c.if-place-count.false, c.length_of-count.ensures))
