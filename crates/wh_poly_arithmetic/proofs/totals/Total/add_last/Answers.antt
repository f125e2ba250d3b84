-- The value and the last part are added before the others.
use Rattle.std.proofs.Common.{◌≡◌, sym, subst, ◌∙◌}
use Rattle.wh_poly.specs.Arithmetic.{sum_poly}
use Rattle.wh_poly.specs.Limits.{Exceeds}
use Rattle.wh_poly.specs.Excesses.{ExceedsAs}
use Rattle.wh_poly_arithmetic.specs.Totals.{total, TakesLast}
use Rattle.wh_poly.specs.Erase.{poly}
use Rattle.wh_poly.proofs.FaultLaws.{ok_so, because_so, passed_on}
use Rattle.wh_poly_arithmetic.proofs.TotalLaws.{part_ordered, sum_leaves, value_leaves, last_taken, last_exceeds}
use Rattle.wh_poly_arithmetic.proofs.totals.Total.add_last.Goals as goal

pub sum_of_ordered-requires-clause-right : goal.sum_of_ordered-requires-clause-right
sum_of_ordered-requires-clause-right c = part_ordered c.args.self.now.parts.items c.pop.new.self.items c.in-Some.part c.in-Some.ensures.items c.requires.parts.0

pub returns-in_err-sum-clause-fault : goal.returns-in_err-sum-clause-fault
returns-in_err-sum-clause-fault c =
    passed_on c.sum_of_ordered.result c.from_residual.result c.in_err-sum.field-0.0 (λ e. ExceedsAs e (sum_poly (poly c.args.value) (poly c.in-Some.part))) (λ e. ExceedsAs e (sum_poly (poly c.args.value) (total c.args.self.now)))
    c.from_residual.ensures.1 c.in_err-sum.ensures.fault
    (λ e h. last_exceeds e (poly c.args.value) c.args.self.now.parts.items c.pop.new.self.items c.in-Some.part c.in-Some.ensures.items c.requires.value c.requires.parts.0 h)

pub within-requires : goal.within-requires
within-requires c =
    value_leaves c.args.self.now.left (sum_poly (poly c.args.value) (poly c.in-Some.part)) (poly c.in_ok-sum.sum) c.pop.new.self.items (sym c.in_ok-sum.ensures.ok)
    (sum_leaves c.args.self.now.left (poly c.args.value) c.args.self.now.parts.items c.pop.new.self.items c.in-Some.part c.in-Some.ensures.items c.requires.weighed)

pub returns-clause-ok : goal.returns-clause-ok
returns-clause-ok c =
    let sum = c.in_ok-sum.sum in
    ok_so c.within.result (λ r. (poly r ≡ poly sum) × (Exceeds (poly r) → ⊥))
    (λ r. TakesLast c.args.self.now record { parts = c.pop.new.self; count = c.args.self.now.count; left = c.args.self.now.left } (poly c.args.value) (poly r))
    (λ r h. last_taken c.args.self.now.left (poly c.args.value) c.args.self.now.parts.items c.pop.new.self.items c.in-Some.part r c.in-Some.ensures.items c.requires.value c.requires.parts.0 c.requires.weighed
    (h.0 ∙ c.in_ok-sum.ensures.ok) h.1)
    c.within.ensures.ok

pub returns-clause-fault : goal.returns-clause-fault
returns-clause-fault c =
    because_so c.within.result (λ e. ExceedsAs e (poly c.in_ok-sum.sum)) (λ e. ExceedsAs e (sum_poly (poly c.args.value) (total c.args.self.now)))
    (λ e h. last_exceeds e (poly c.args.value) c.args.self.now.parts.items c.pop.new.self.items c.in-Some.part c.in-Some.ensures.items c.requires.value c.requires.parts.0
    (subst (ExceedsAs e) c.in_ok-sum.ensures.ok h))
    c.within.ensures.fault
