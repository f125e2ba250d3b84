-- From the last part on, until no part is left.
use Rattle.std.proofs.Common.{rules, ◌≤◌, sym, subst, refl, length}
use Rattle.wh_poly.specs.Arithmetic.{sum_poly}
use Rattle.wh_poly.specs.Excesses.{ExceedsAs}
use Rattle.wh_poly_arithmetic.specs.Totals.{total, Leaves}
use Rattle.wh_poly.specs.Erase.{poly}
use Rattle.wh_poly.proofs.FaultLaws.{passed_on}
use Rattle.wh_poly_arithmetic.proofs.TotalLaws.{carrying_steps, finishing_starts, last_alone_exceeds, nothing_added, carried_is_whole, last_leaves, value_leaves, parts_leave}
use Rattle.wh_poly_arithmetic.proofs.totals.Total.finish.Goals as goal

pub returns-in_default-clause-ok : goal.returns-in_default-clause-ok
returns-in_default-clause-ok c = let none : length c.args.self.parts.items ≤ 0 = search rules in
    nothing_added c.new.result c.args.self.parts.items c.new.ensures none

pub within-requires : goal.within-requires
within-requires c =
    value_leaves c.args.self.left (poly c.in-Some.last) (poly c.in-Some.last) c.pop.new.self.items refl
    (last_leaves c.args.self.left c.args.self.parts.items c.pop.new.self.items c.in-Some.last c.in-Some.ensures.items c.requires.1)

pub returns-in_err-value-clause-fault : goal.returns-in_err-value-clause-fault
returns-in_err-value-clause-fault c =
    passed_on c.within.result c.from_residual.result c.in_err-value.field-0.0 (λ e. ExceedsAs e (poly c.in-Some.last)) (λ e. ExceedsAs e (total c.args.self))
    c.from_residual.ensures.1 c.in_err-value.ensures.fault
    (λ e h. last_alone_exceeds e c.args.self.parts.items c.pop.new.self.items c.in-Some.last c.in-Some.ensures.items c.requires.0 h)

pub loop-alloc-init : goal.loop-alloc-init
loop-alloc-init c = record {
  carrying = finishing_starts c.args.self.parts.items c.pop.new.self.items c.in-Some.last c.in_ok-value.value c.in-Some.ensures.items c.requires.0 c.in_ok-value.ensures.ok.0;
  weighed = subst (λ p. Leaves c.args.self.left p c.pop.new.self.items) (sym c.in_ok-value.ensures.ok.0)
      (last_leaves c.args.self.left c.args.self.parts.items c.pop.new.self.items c.in-Some.last c.in-Some.ensures.items c.requires.1);
  within = c.in_ok-value.ensures.ok.1;
}

pub add_last-requires-clause-parts : goal.add_last-requires-clause-parts
add_last-requires-clause-parts c =
    (c.loop-alloc.invariant.carrying.parts_ordered, parts_leave c.loop-alloc.rest.left (poly c.loop-alloc.value) c.loop-alloc.rest.parts.items c.loop-alloc.invariant.weighed)

pub returns-in_err-value-2-clause-fault : goal.returns-in_err-value-2-clause-fault
returns-in_err-value-2-clause-fault c =
    passed_on c.add_last.result c.from_residual-in_err-value-2.result c.in_err-value-2.field-0.0 (λ e. ExceedsAs e (sum_poly (poly c.loop-alloc.value) (total c.loop-alloc.rest))) (λ e. ExceedsAs e (total c.args.self))
    c.from_residual-in_err-value-2.ensures.1 c.in_err-value-2.ensures.fault (λ e h. subst (ExceedsAs e) (sym c.loop-alloc.invariant.carrying.same) h)

pub loop-alloc-preserved : goal.loop-alloc-preserved
loop-alloc-preserved c =
    let taken = c.in_ok-value-2.ensures.ok in
    record {
      carrying = carrying_steps (total c.args.self) (poly c.loop-alloc.value) (poly c.in_ok-value-2.value) c.loop-alloc.rest.parts.items c.add_last.new.self.parts.items c.loop-alloc.invariant.carrying taken.0 taken.1 taken.2.0;
      weighed = taken.5;
      within = taken.3 c.loop-alloc.invariant.within;
    }

pub returns-clause-ok : goal.returns-clause-ok
returns-clause-ok c = let none : length c.loop-alloc.rest.parts.items ≤ 0 = search rules in
    (carried_is_whole (total c.args.self) (poly c.loop-alloc.value) c.loop-alloc.rest.parts.items c.loop-alloc.invariant.carrying none, c.loop-alloc.invariant.within)
