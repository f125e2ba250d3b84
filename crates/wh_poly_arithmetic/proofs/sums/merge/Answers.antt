-- Step by step.
use Rattle.std.proofs.Common.{subst}
use Rattle.wh_poly.specs.Arithmetic.{sum_poly}
use Rattle.wh_poly.specs.Excesses.{ExceedsAs}
use Rattle.wh_poly.specs.Merges.{FirstOfSum}
use Rattle.wh_poly.specs.Erase.{poly, monomials, sum_of}
use Rattle.wh_poly.proofs.FaultLaws.{passed_on}
use Rattle.wh_poly_arithmetic.proofs.MergeWalk.{merging_starts, merging_steps, merging_ends, merging_exceeds}
use Rattle.wh_poly_arithmetic.proofs.sums.merge.Goals as goal

pub loop-ys-init : goal.loop-ys-init
loop-ys-init c = merging_starts c.args.a c.args.b (monomials c.in_ok-out.out) c.into_queue-xs.result.items c.into_queue-ys.result.items
    c.in_ok-out.ensures c.into_queue-xs.ensures c.into_queue-ys.ensures c.requires.left

pub loop-ys-preserved : goal.loop-ys-preserved
loop-ys-preserved c =
    merging_steps (sum_poly (poly c.args.a) (poly c.args.b)) (monomials c.loop-ys.out) (monomials c.push.new.self) c.loop-ys.xs.items c.loop-ys.ys.items c.next_of_sum.new.xs.items c.next_of_sum.new.ys.items
    c.in-Some.item c.loop-ys.invariant
    (subst (FirstOfSum c.loop-ys.xs.items c.loop-ys.ys.items c.next_of_sum.new.xs.items c.next_of_sum.new.ys.items) c.in-Some.is c.in_ok-item.ensures.ok) c.in_ok-push.ensures.ok

pub returns-in_err-item-clause-fault : goal.returns-in_err-item-clause-fault
returns-in_err-item-clause-fault c =
    passed_on c.next_of_sum.result c.from_residual-in_err-item.result c.in_err-item.field-0.0 (λ e. ExceedsAs e (sum_poly (sum_of c.loop-ys.xs.items) (sum_of c.loop-ys.ys.items)))
    (λ e. ExceedsAs e (sum_poly (poly c.args.a) (poly c.args.b))) c.from_residual-in_err-item.ensures.1 c.in_err-item.ensures.fault
    (λ e h. merging_exceeds e (sum_poly (poly c.args.a) (poly c.args.b)) (monomials c.loop-ys.out) c.loop-ys.xs.items c.loop-ys.ys.items c.loop-ys.invariant h)

pub returns-clause-ok : goal.returns-clause-ok
returns-clause-ok c =
    merging_ends (sum_poly (poly c.args.a) (poly c.args.b)) c.loop-ys.out c.loop-ys.xs.items c.loop-ys.ys.items c.next_of_sum.new.xs.items c.next_of_sum.new.ys.items c.loop-ys.invariant
    (subst (FirstOfSum c.loop-ys.xs.items c.loop-ys.ys.items c.next_of_sum.new.xs.items c.next_of_sum.new.ys.items) c.in_default.is c.in_ok-item.ensures.ok)
