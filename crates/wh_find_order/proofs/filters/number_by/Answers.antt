use Rattle.std.proofs.Common.{◌≡◌, ◌+◌, ◌-◌, ◌*◌, ◌<◌, if◌then◌else◌, refl, ap, sym, ◌∙◌, arith}
use Rattle.wh_poly_blocking.specs.Sizes.{value_of}
use Rattle.wh_order_space.specs.Bits.{number_from}
use Rattle.wh_find_order.proofs.BitLemmas.{number_start, number_small, number_put, number_end}
use Rattle.wh_find_order.proofs.filters.number_by.Goals.{then-bit, else-bit}
use Rattle.wh_find_order.proofs.filters.number_by.Goals as goal

pub loop-left-init : goal.loop-left-init
loop-left-init c = record {
  within = omega arith;
  number = sym (number_start (value_of c.args.values.now) c.args.from c.args.count);
}

pub overflow_mul-number : goal.overflow_mul-number
overflow_mul-number c =
    let v = value_of c.args.values.now in
    omega (arith, c.loop-left.invariant.number, number_small v (c.args.from + c.loop-left.left) (c.args.count - c.loop-left.left) (omega (arith, c.requires.bits)))

pub overflow_add-number : goal.overflow_add-number
overflow_add-number c =
    let v = value_of c.args.values.now in
    let next = c.loop-left.left - 1 in
    let some : 0 < c.loop-left.left = omega (arith, c.loop-left-test.true) in
    let low : c.if-bit.low ≡ (if v (c.args.from + next) then 1 else 0) = elim c.if-bit.branch [
      | then-bit w ↦ w.low-is ∙ ap (λ b. if b then 1 else 0) (sym (sym c.bit.ensures ∙ w.if-bit.true))
      | else-bit w ↦ w.low-is ∙ ap (λ b. if b then 1 else 0) (sym (sym c.bit.ensures ∙ w.if-bit.false))
    ] in
    let is = number_put v c.args.from c.args.count c.loop-left.left next c.if-bit.low c.loop-left.number (c.if-bit.low + 2 * c.loop-left.number)
    (omega (arith, some)) c.loop-left.invariant.within low c.loop-left.invariant.number refl in
    omega (arith, is, number_small v (c.args.from + next) (c.args.count - next) (omega (arith, c.requires.bits)))

pub loop-left-preserved : goal.loop-left-preserved
loop-left-preserved c =
    let v = value_of c.args.values.now in
    let next = c.loop-left.left - 1 in
    let some : 0 < c.loop-left.left = omega (arith, c.loop-left-test.true) in
    let low : c.if-bit.low ≡ (if v (c.args.from + next) then 1 else 0) = elim c.if-bit.branch [
      | then-bit w ↦ w.low-is ∙ ap (λ b. if b then 1 else 0) (sym (sym c.bit.ensures ∙ w.if-bit.true))
      | else-bit w ↦ w.low-is ∙ ap (λ b. if b then 1 else 0) (sym (sym c.bit.ensures ∙ w.if-bit.false))
    ] in
    record {
      within = omega (arith, c.loop-left.invariant.within);
      number = number_put v c.args.from c.args.count c.loop-left.left next c.if-bit.low c.loop-left.number (c.if-bit.low + 2 * c.loop-left.number)
          (omega (arith, some)) c.loop-left.invariant.within low c.loop-left.invariant.number refl;
    }

pub returns : goal.returns
returns c =
    let v = value_of c.args.values.now in
    let none : c.loop-left.left ≡ 0 = omega (arith, c.loop-left-test.false) in
    c.loop-left.invariant.number ∙ ap (λ n. number_from v (c.args.from + n) (c.args.count - n)) none ∙ number_end v c.args.from c.args.count
