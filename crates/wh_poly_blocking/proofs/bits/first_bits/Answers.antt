use Rattle.std.proofs.Common.{arith, ◌≡◌, ◌+◌, [], ◌∷◌, ◌++◌, suc, length, ap, sym, ◌∙◌}
use Rattle.std.proofs.lemmas.List.{length_push}
use Rattle.wh_poly_blocking.specs.Sizes.{first_of}
use Rattle.wh_poly_blocking.proofs.BitLemmas.{first_next, first_zero, firsts_next, firsts_start}
use Rattle.wh_poly_blocking.proofs.bits.first_bits.Goals as goal

pub loop-size-init : goal.loop-size-init
loop-size-init c =
    let is : c.push.new.self.items ≡ 0 ∷ [] = c.in_ok-push.ensures.items ∙ ap (λ l. l ++ 0 ∷ []) c.new-made.ensures.items in
    record {
      count = ap length is;
      each = firsts_start c.args.sizes.now c.push.new.self.items is;
      total = sym (first_zero c.args.sizes.now);
      few = omega arith;
    }

pub loop-size-preserved : goal.loop-size-preserved
loop-size-preserved c =
    let sizes = c.args.sizes.now in
    let i = c.loop-size.size-index in
    let before = c.loop-size.invariant in
    let total = c.in_ok-total.total in
    let is = c.in_ok-push-2.ensures.items in
    let sum : total ≡ first_of sizes (suc i) = omega (arith, c.in_ok-total.ensures.sum, before.total, first_next sizes i 0 c.loop-size-test.true) in
    let next : suc i ≡ i + 1 = omega arith in
    record {
      count = ap length is ∙ length_push c.loop-size.made.items total ∙ ap (λ n. n + 1) before.count;
      each = firsts_next sizes c.loop-size.made.items c.push-in-loop-size.new.self.items i total is before.count sum before.each;
      total = sum ∙ ap (first_of sizes) next;
      few = c.in_ok-total.ensures.few;
    }

pub returns-clause-few : goal.returns-clause-few
returns-clause-few c =
    let end : c.loop-size.size-index ≡ length c.args.sizes.now = omega (arith, c.loop-size-test.false, c.loop-size.auto.size-index-end) in
    omega (arith, c.loop-size.invariant.few, c.loop-size.invariant.total, ap (first_of c.args.sizes.now) end)
