use Rattle.std.proofs.Common.{arith, ◌≡◌, ◌+◌, length, ap, sym, subst, refl, ◌∙◌, List, Some, slice_get}
use Rattle.std.specs.List.{flat_map}
use Rattle.std.proofs.lemmas.List.{length_push, take_rest}
use Rattle.std.proofs.lemmas.Option.{same_Some, slice_get_read}
use Rattle.wh_poly_guesses.specs.declared.uses.Uses.{Uses}
use Rattle.wh_poly_space.proofs.PushLemmas.{each_push}
use Rattle.wh_poly_blocking.specs.Numbers.{HaveSame, on_sides}
use Rattle.wh_poly_blocking.proofs.NumberLemmas.{OfUses, numbers_end}
use Rattle.wh_poly_blocking.proofs.numbers.numbers_of_conditions.Goals as goal

pub loop-uses-preserved : goal.loop-uses-preserved
loop-uses-preserved c =
    let all = c.args.all.now in
    let made = c.loop-uses.made.items in
    let i = c.loop-uses.uses-index in
    let new = c.in_ok-numbers_of.field-0 in
    let count = c.loop-uses.invariant.count in
    let at : slice_get all i ≡ Some c.uses-item.result = slice_get_read all (length all) i c.uses-item.result refl c.loop-uses-test.true c.uses-item.is in
    record {
      count = ap length c.in_ok-push.ensures.items ∙ length_push made new ∙ ap (λ n. n + 1) count;
      each = each_push (OfUses all) made c.push.new.self.items new c.in_ok-push.ensures.items c.loop-uses.invariant.each (λ r read.
          let same = same_Some c.uses-item.result r (sym at ∙ ap (slice_get all) (sym count) ∙ read) in
          subst (λ (x : Uses). HaveSame new.items (on_sides x)) same c.in_ok-numbers_of.ensures);
    }

pub returns : goal.returns
returns c =
    let all = c.args.all.now in
    let end : c.loop-uses.uses-index ≡ length all = omega (arith, c.loop-uses-test.false, c.loop-uses.auto.uses-index-end) in
    numbers_end c.args.rules all c.loop-uses.made.items c.push-2.new.self.items c.in_ok-numbers_of_all.field-0 c.in_ok-push-2.ensures.items
    (c.loop-uses.invariant.count ∙ end) c.loop-uses.invariant.each
    (subst (λ (l : List Uses). HaveSame c.in_ok-numbers_of_all.field-0.items (flat_map on_sides l)) (take_rest all c.args.rules) c.in_ok-numbers_of_all.ensures)
