use Rattle.std.proofs.Common.{◌≡◌, ◌+◌, ◌-◌, ◌++◌, ℕ, List, suc, ap, sym, subst, ◌∙◌}
use Rattle.wh_poly_blocking.specs.Sizes.{value_of}
use Rattle.wh_order_space.specs.Bits.{places_from}
use Rattle.wh_find_order.proofs.BitLemmas.{places_start, places_put, places_pass, places_end}
use Rattle.wh_find_order.proofs.filters.places_by.Goals.{then-bit+in_ok-push, else-bit}
use Rattle.wh_find_order.proofs.filters.places_by.Goals as goal

pub loop-place-init : goal.loop-place-init
loop-place-init c =
    let v = value_of c.args.values.now in
    ap (λ (l : List ℕ). l ++ places_from v (c.args.from + 0) 1 (c.args.count - 0)) c.new-made.ensures ∙ places_start v c.args.from c.args.count

pub loop-place-preserved : goal.loop-place-preserved
loop-place-preserved c =
    let v = value_of c.args.values.now in
    let x = c.args.from in
    let k = c.args.count in
    let i = c.loop-place.place in
    let made = c.loop-place.made in
    let IsNext = λ (l : List ℕ). l ++ places_from v (x + (i + 1)) (suc (i + 1)) (k - (i + 1)) ≡ places_from v x 1 k in
    elim c.if-bit.branch [
      | then-bit+in_ok-push w ↦
          subst IsNext (sym w.made-is)
          (places_put v x k i made w.push.new.self c.loop-place-test.true (sym c.bit.ensures ∙ w.if-bit.true) w.in_ok-push.ensures.ok c.loop-place.invariant)
      | else-bit w ↦
          subst IsNext (sym w.made-is)
          (places_pass v x k i made c.loop-place-test.true (sym c.bit.ensures ∙ w.if-bit.false) c.loop-place.invariant)
    ]

pub returns : goal.returns
returns c =
    let v = value_of c.args.values.now in
    let past = c.loop-place-test.false in
    sym (places_end v c.args.from c.args.count c.loop-place.place c.loop-place.made past) ∙ c.loop-place.invariant
