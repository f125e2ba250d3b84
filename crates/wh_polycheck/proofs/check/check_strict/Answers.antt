-- A cover, and what is left of the constant.
use Rattle.std.proofs.Common.{refl}
use Rattle.wh_poly.specs.Erase.{poly}
use Rattle.wh_hopoly.specs.Erase.{transfers}
use Rattle.wh_polycheck.specs.CoverFaults.{LeavesConstant}
use Rattle.wh_polycheck.proofs.Checked.{to_list, by_list, fault_is_strict, strict_cover, not_true}
use Rattle.wh_polycheck.proofs.check.check_strict.Goals as goal

pub returns-in-Err : goal.returns-in-Err
returns-in-Err c = fault_is_strict (poly c.args.left.now) (poly c.args.right.now) (transfers c.args.moves.now) c.in-Err.fault c.in-Err.ensures

pub returns-then-leaves_constant : goal.returns-then-leaves_constant
returns-then-leaves_constant c =
    strict_cover (poly c.args.left.now) (poly c.args.right.now) (transfers c.args.moves.now) c.in-Ok.ensures
    (by_list (λ left. LeavesConstant left (transfers c.args.moves.now)) c.args.left.now c.as_slice.result.now c.as_slice.ensures (c.if-leaves_constant.ensures.0 refl))

pub returns-else-leaves_constant : goal.returns-else-leaves_constant
returns-else-leaves_constant c =
    (c.in-Ok.ensures, λ leaves. not_true (c.if-leaves_constant.ensures.1 (to_list (λ left. LeavesConstant left (transfers c.args.moves.now)) c.args.left.now c.as_slice.result.now c.as_slice.ensures leaves)))
