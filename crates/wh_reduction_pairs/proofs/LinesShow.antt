-- What the lines of a reduction pair show of each rule and of each pair.
use Rattle.std.proofs.Common.{◌≡◌, ℕ, zero, suc, ◌+◌, Bool, List, [], ◌∷◌, length, Some, slice_get, Contains, refl, ap, ◌∙◌, arith}
use Rattle.std.proofs.lemmas.Option.{none-some, slice_get_within}
use Rattle.wh_terms.specs.Rules.{RewriteRule}
use Rattle.wh_pairs.specs.PairData.{PairData}
use Rattle.wh_pairs.specs.Drops.{IsDropped}
use Rattle.wh_pairs.proofs.ByPlace.{place_of}
use Rattle.wh_reduction_pairs.specs.TaskData.{TaskData, CoversAll}
use Rattle.wh_reduction_pairs.specs.ReductionPair.{Evidence, Showing, IsReductionPair}
use Rattle.wh_reduction_pairs.proofs.Numbers.{numbers_at}
use Rattle.wh_reduction_pairs.proofs.Lines.{dropped_or_not}

-- lists of one length have elements at the same places
line_at : {A B : Type 0} (xs : List A) (ys : List B) (i : ℕ) (x : A) → length ys ≡ length xs → slice_get xs i ≡ Some x
    → (y : B) × (slice_get ys i ≡ Some y)
line_at [] ys i x same e = absurd (none-some x e)
line_at (x' ∷ xs) [] i x same e = absurd (cc)
line_at (x' ∷ xs) (y ∷ ys) zero x same e = (y, refl)
line_at (x' ∷ xs) (y ∷ ys) (suc i) x same e = line_at xs ys i x (cc) e

module _ {Line : Type 0} (shows : Showing Line) (T : TaskData) (E : Evidence Line) (is : IsReductionPair shows T E) where
  -- where all rules are to be covered, a line shows it of each
  pub rule_shown : CoversAll T → (r : RewriteRule) → Contains T.rules r → (l : Line) × shows.rule r l
  rule_shown all r there =
      let (i, at) = place_of T.rules r there in
      let same : 0 + i ≡ i = omega arith in
      let number : slice_get T.covered i ≡ Some i =
      ap (λ ns. slice_get ns i) all ∙ numbers_at 0 (length T.rules) i (slice_get_within T.rules i r at) ∙ ap (λ n. Some n) same in
      let (l, line) = line_at T.covered E.of_rules i i is.rule_count number in
      (l, is.rules i i r l number at line)

  -- a line shows of each pair of the set that it does not grow, and that it shrinks where it is dropped
  pub pair_shown : (n : ℕ) (p : PairData) → Contains T.set n → slice_get T.pairs n ≡ Some p
      → (l : Line) × (strict : Bool) × IsDropped E.drop n strict × shows.pair p strict l
  pair_shown n p inside at =
      let (i, here) = place_of T.set n inside in
      let (l, line) = line_at T.set E.of_pairs i n is.pair_count here in
      let (strict, dropped) = dropped_or_not E.drop n in
      (l, strict, dropped, is.pairs i n p l strict here at line dropped)
