use Rattle.std.proofs.Common.{◌≡◌, ◌⊎◌, inl, inr, ℕ, map, get_or, Some, slice_get, refl, ap, sym, subst, ◌∙◌, arith}
use Rattle.wh_pairs.specs.PairData.{PairData, pair_data}
use Rattle.wh_pairs.proofs.ByPlace.{read_map, number_at, contains_number, some_one}
use Rattle.wh_poly_guesses.specs.Conditions.{StandsInPair}
use Rattle.wh_poly_guesses.specs.Uses.{UsesAll, IsMarkOf}
use Rattle.wh_poly_space.proofs.CountLemmas.{pushed_one}
use Rattle.wh_poly_space.proofs.PushLemmas.{each_push}
use Rattle.wh_poly_guesses.proofs.uses.uses_in_pairs.Goals as goal

pub uses_in_pair-requires-clause-left : goal.uses_in_pair-requires-clause-left
uses_in_pair-requires-clause-left c =
    let pairs = c.args.pairs.now in
    let set = c.args.set.now in
    let i = c.loop-number.number-index in
    let n = get_or set i 0 in
    let p = pair_data c.index-pairs-number.result in
    let below = c.requires.within i 0 c.loop-number-test.true in
    let at = read_map pair_data pairs n c.index-pairs-number.result below c.index-pairs-number.is in
    (c.requires.marked.each p.left_fun).1 (n, contains_number set i c.loop-number-test.true, (p, at, inl refl))

pub uses_in_pair-requires-clause-right : goal.uses_in_pair-requires-clause-right
uses_in_pair-requires-clause-right c =
    let pairs = c.args.pairs.now in
    let set = c.args.set.now in
    let i = c.loop-number.number-index in
    let n = get_or set i 0 in
    let p = pair_data c.index-pairs-number.result in
    let below = c.requires.within i 0 c.loop-number-test.true in
    let at = read_map pair_data pairs n c.index-pairs-number.result below c.index-pairs-number.is in
    (c.requires.marked.each p.right_fun).1 (n, contains_number set i c.loop-number-test.true, (p, at, inr refl))

pub loop-number-preserved : goal.loop-number-preserved
loop-number-preserved c =
    let pairs = c.args.pairs.now in
    let set = c.args.set.now in
    let i = c.loop-number.number-index in
    let n = get_or set i 0 in
    let first = c.args.first in
    let marked = c.args.marked.now in
    let uses = c.loop-number.uses.items in
    let below = c.requires.within i 0 c.loop-number-test.true in
    let at = read_map pair_data pairs n c.index-pairs-number.result below c.index-pairs-number.is in
    record {
      count = pushed_one uses c.push.new.self.items i _ c.in_ok-push.ensures.items c.loop-number.invariant.count;
      each = each_push (λ i u. (n : ℕ) (p : PairData) → slice_get set i ≡ Some n → slice_get (map pair_data pairs) n ≡ Some p
          → UsesAll (λ m. StandsInPair m p ⊎ IsMarkOf first marked p m) u) uses c.push.new.self.items c.in_ok-uses_in_pair.field-0 c.in_ok-push.ensures.items c.loop-number.invariant.each
          (λ m p place there.
          let same = some_one (number_at set i c.loop-number-test.true) (ap (slice_get set) (sym c.loop-number.invariant.count) ∙ place) in
          subst (λ (p : PairData). UsesAll (λ m. StandsInPair m p ⊎ IsMarkOf first marked p m) c.in_ok-uses_in_pair.field-0) (some_one at (ap (slice_get (map pair_data pairs)) same ∙ there))
          c.in_ok-uses_in_pair.ensures);
    }

pub returns : goal.returns
returns c = record {
  count = omega (arith, c.loop-number.invariant.count, c.loop-number-test.false, c.loop-number.auto.number-index-end);
  each = λ i n p u place at there. c.loop-number.invariant.each i u there n p place at;
}
