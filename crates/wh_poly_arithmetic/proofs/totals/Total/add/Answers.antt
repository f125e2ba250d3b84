-- What is carried becomes the last part.
use Rattle.std.proofs.Common.{refl, sym, subst}
use Rattle.wh_poly.specs.Arithmetic.{sum_poly}
use Rattle.wh_poly.specs.Excesses.{ExceedsAs}
use Rattle.wh_poly_arithmetic.specs.Totals.{total}
use Rattle.wh_poly.specs.Erase.{poly}
use Rattle.wh_poly.proofs.FaultLaws.{passed_on}
use Rattle.wh_poly_arithmetic.proofs.TotalLaws.{carrying_steps, carried_is_pushed, taken_leaves, parts_leave, pushed_leaves}
use Rattle.wh_poly_arithmetic.proofs.totals.Total.add.Goals as goal

pub loop-left-init : goal.loop-left-init
loop-left-init c = record {
  carrying = record { same = refl; value_ordered = c.requires.value; parts_ordered = c.requires.parts.0 };
  weighed = taken_leaves c.args.self.now.left c.left_without-self.result (poly c.args.value) c.args.self.now.parts.items c.left_without-self.ensures c.requires.parts.1;
}

pub add_last-requires-clause-parts : goal.add_last-requires-clause-parts
add_last-requires-clause-parts c =
    (c.loop-left.invariant.carrying.parts_ordered, parts_leave c.loop-left.self.left (poly c.loop-left.carried) c.loop-left.self.parts.items c.loop-left.invariant.weighed)

pub returns-in_err-carried-clause-fault : goal.returns-in_err-carried-clause-fault
returns-in_err-carried-clause-fault c =
    passed_on c.add_last.result c.from_residual.result c.in_err-carried.field-0.0 (λ e. ExceedsAs e (sum_poly (poly c.loop-left.carried) (total c.loop-left.self)))
    (λ e. ExceedsAs e (sum_poly (poly c.args.value) (total c.args.self.now))) c.from_residual.ensures.1 c.in_err-carried.ensures.fault
    (λ e h. subst (ExceedsAs e) (sym c.loop-left.invariant.carrying.same) h)

pub loop-left-preserved : goal.loop-left-preserved
loop-left-preserved c =
    let taken = c.in_ok-carried.ensures.ok in
    record {
      carrying = carrying_steps (sum_poly (poly c.args.value) (total c.args.self.now)) (poly c.loop-left.carried) (poly c.in_ok-carried.carried) c.loop-left.self.parts.items c.add_last.new.self.parts.items
          c.loop-left.invariant.carrying taken.0 taken.1 taken.2.0;
      weighed = taken.5;
    }

pub returns-clause-ok : goal.returns-clause-ok
returns-clause-ok c =
    let pushed = carried_is_pushed (sum_poly (poly c.args.value) (total c.args.self.now)) c.loop-left.carried c.loop-left.self.parts.items c.push.new.self.items c.loop-left.invariant.carrying c.in_ok-push.ensures.items in
    (pushed.0, (pushed.1, pushed_leaves c.loop-left.self.left c.loop-left.self.parts.items c.push.new.self.items c.loop-left.carried c.in_ok-push.ensures.items c.loop-left.invariant.weighed))
