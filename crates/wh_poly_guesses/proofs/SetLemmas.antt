-- That no pair of the set is covered strictly.
use Rattle.std.proofs.Common.{◌≡◌, ◌<◌, ◌+◌, ℕ, true, Some, slice_get, length, inl, inr, ap, sym, subst, ◌∙◌, arith}
use Rattle.std.proofs.lemmas.Bool.{cases_lt}
use Rattle.std.proofs.lemmas.Option.{slice_get_within}
use Rattle.wh_pairs.specs.PairData.{PairData}
use Rattle.wh_pairs.proofs.ByPlace.{some_one, place_of}
use Rattle.wh_reduction_pairs.specs.TaskData.{TaskData}
use Rattle.wh_polycheck.specs.Readings.{ReadingsData}
use Rattle.wh_poly_guesses.specs.Conditions.{some_strictly, IsMetBy, Meets}

module _ (T : TaskData) (R : ReadingsData) where
  -- none of the first i pairs of the set is covered strictly
  abbrev pub NoneStrict : ℕ → Type 0
  NoneStrict i = (k n : ℕ) (p : PairData) → k < i → slice_get T.set k ≡ Some n → slice_get T.pairs n ≡ Some p → IsMetBy T R p true → ⊥

  pub none_strict_more : (i n : ℕ) (p : PairData) → NoneStrict i → slice_get T.set i ≡ Some n → slice_get T.pairs n ≡ Some p
      → (IsMetBy T R p true → ⊥) → NoneStrict (i + 1)
  none_strict_more i n p before place at never k m q less there also met = elim (cases_lt k i) [
    | inl earlier ↦ before k m q earlier there also met
    | inr last ↦
        let same : k ≡ i = omega (arith, less, last) in
        let one : m ≡ n = some_one (ap (slice_get T.set) (sym same) ∙ there) place in
        let pair : q ≡ p = some_one (ap (slice_get T.pairs) (sym one) ∙ also) at in
        never (subst (λ (q : PairData). IsMetBy T R q true) pair met)
  ]

  pub none_strict_all : (i : ℕ) → NoneStrict i → i ≡ length T.set → Meets T R some_strictly → ⊥
  none_strict_all i none all (p, (n, found, at), met) =
      let place = place_of T.set n found in
      let within = slice_get_within T.set place.0 n place.1 in
      none place.0 n p (omega (arith, within, all)) place.1 at met
