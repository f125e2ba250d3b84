use Rattle.std.proofs.Common.{arith, ◌≡◌, ◌+◌, [], ◌∷◌, ◌++◌, suc, length, ap, sym, ◌∙◌}
use Rattle.std.proofs.lemmas.List.{length_push}
use Rattle.wh_order_space.specs.Bits.{first_bit}
use Rattle.wh_order_space.specs.Spotted.{types_in}
use Rattle.wh_order_space.proofs.FirstLemmas.{first_zero, first_after, firsts_next, firsts_start}
use Rattle.wh_order_space.proofs.firsts.first_bits.Goals as goal

pub loop-scope-init : goal.loop-scope-init
loop-scope-init c =
    let is : c.push.new.self.items ≡ 0 ∷ [] = c.in_ok-push.ensures.items ∙ ap (λ l. l ++ 0 ∷ []) c.new-made.ensures.items in
    record {
      count = ap length is;
      each = firsts_start c.args.width c.args.scopes.now c.push.new.self.items is;
      total = sym (first_zero c.args.width (types_in c.args.scopes.now));
      few = omega arith;
    }

pub loop-scope-preserved : goal.loop-scope-preserved
loop-scope-preserved c =
    let b = c.args.width in
    let scopes = c.args.scopes.now in
    let i = c.loop-scope.scope-index in
    let before = c.loop-scope.invariant in
    let total = c.in_ok-total.total in
    let is = c.in_ok-push-2.ensures.items in
    let places : c.len.result ≡ length c.scope-item.result.items = omega (arith, c.len.ensures, c.scope-item.result.ok.0) in
    let sum : total ≡ first_bit b (types_in scopes) (suc i) =
    first_after b scopes i c.loop-scope.total total c.len.result c.scope-item.result c.loop-scope-test.true c.scope-item.is places before.total c.in_ok-total.ensures.sum in
    let next : suc i ≡ i + 1 = omega arith in
    record {
      count = ap length is ∙ length_push c.loop-scope.made.items total ∙ ap (λ n. n + 1) before.count;
      each = firsts_next b scopes c.loop-scope.made.items c.push-in-loop-scope.new.self.items i total is before.count sum before.each;
      total = sum ∙ ap (first_bit b (types_in scopes)) next;
      few = c.in_ok-total.ensures.few;
    }

pub returns-clause-few : goal.returns-clause-few
returns-clause-few c =
    let end : c.loop-scope.scope-index ≡ length c.args.scopes.now = omega (arith, c.loop-scope-test.false, c.loop-scope.auto.scope-index-end) in
    omega (arith, c.loop-scope.invariant.few, c.loop-scope.invariant.total, ap (first_bit c.args.width (types_in c.args.scopes.now)) end)
