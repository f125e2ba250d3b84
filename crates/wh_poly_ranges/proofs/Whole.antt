-- Readings of the space that let a pair of a set go fit, and have coefficients in the ranges from 0 to 3.
use Rattle.std.proofs.Common.{◌≡◌, ℕ, ◌+◌, ◌<◌, List, map, length, replicate, Some, slice_get, Contains, ap, sym, subst, ◌∙◌, arith, true, false}
use Rattle.std.proofs.lemmas.Option.{same_Some, slice_get_within}
use Rattle.wh_terms.specs.Rules.{RewriteRule}
use Rattle.wh_pairs.specs.PairData.{PairData}
use Rattle.wh_pairs.specs.Marked.{AreMarked}
use Rattle.wh_pairs.specs.Sets.{InSet}
use Rattle.wh_pairs.proofs.ByPlace.{place_of}
use Rattle.wh_reduction_pairs.specs.TaskData.{TaskData}
use Rattle.wh_polycheck.specs.Marks.{Mark}
use Rattle.wh_polycheck.specs.Readings.{ReadingsData}
use Rattle.wh_proof.proofs.InterpretationLemmas.{marked_one}
use Rattle.wh_poly_space.specs.Space.{space_of}
use Rattle.wh_poly_guesses.specs.Coefficients.{scopes_of, HaveCoefficients, AreOfSpace}
use Rattle.wh_poly_guesses.specs.Conditions.{Meets, IsMetBy, LetsGo, HasNoInterpretation, covers_rule, covers_pair, some_strictly, of_rule, of_pair, of_set}
use Rattle.wh_poly_ranges.specs.Excluded.{LieIn, Fit, IsExcluded, AreKept}
use Rattle.wh_poly_ranges.proofs.Lists.{all_lie}

module _ (T : TaskData) (R : ReadingsData) (lists : List (List ℕ)) (of : AreOfSpace T R) (lets : LetsGo T R) (have : HaveCoefficients T lists R) where
  rules_met : (n : ℕ) (r : RewriteRule) → Contains T.covered n → slice_get T.rules n ≡ Some r → Meets T R (covers_rule r)
  rules_met n r found at = let (k, here) = place_of T.covered n found in lets k (covers_rule r) (of_rule k n r here at)

  pairs_met : (p : PairData) → InSet T.pairs T.set p → IsMetBy T R p false
  pairs_met p (n, inside, at) = let (i, here) = place_of T.set n inside in lets (length T.covered + i) (covers_pair p) (of_pair i n p here at)

  -- no pair is asked to be covered strictly
  pub letting_fits : Fit T (length T.set) lists R
  letting_fits = record {
    readings = of.readings;
    coefficients = have;
    rules_met = rules_met;
    pairs_met = pairs_met;
    strictly = λ n p past at. absurd (let l = slice_get_within T.set (length T.set) n past in omega (arith, l));
  }

  -- one of them is
  pub letting_fits_strictly : (i : ℕ) × (i < length T.set) × Fit T i lists R
  letting_fits_strictly =
      let (p, (n, inside, at), met) = lets (length T.covered + length T.set) some_strictly of_set in
      let (i, here) = place_of T.set n inside in (
        i,
        slice_get_within T.set i n here,
        record {
          readings = of.readings;
          coefficients = have;
          rules_met = rules_met;
          pairs_met = pairs_met;
          strictly = λ m q there found.
              let same : n ≡ m = same_Some n m (sym here ∙ there) in
              let also : p ≡ q = same_Some p q (sym at ∙ ap (slice_get T.pairs) same ∙ found) in
              subst (λ q. IsMetBy T R q true) also met;
        },
      )

module _ (T : TaskData) (marked sizes : List ℕ) (low high : List (List ℕ))
    (are : AreMarked T.pairs T.set marked) (sizes_are : sizes ≡ map (λ Γ. length (space_of Γ)) (scopes_of T marked))
    (low_is : low ≡ map (λ size. replicate size 0) sizes) (high_is : high ≡ map (λ size. replicate size 3) sizes) where
  -- readings of the space have coefficients in these ranges
  all_in : (R : ReadingsData) → AreOfSpace T R → (lists : List (List ℕ)) × HaveCoefficients T lists R × LieIn low high lists
  all_in R of =
      let (lists, have, lie) = all_lie T R of in
      let same = marked_one T.pairs T.set marked (map (λ (m : Mark). m.symbol) R.marks) are of.readings.marked in
      let sized : sizes ≡ map (λ Γ. length (space_of Γ)) (scopes_of T (map (λ (m : Mark). m.symbol) R.marks)) =
      sizes_are ∙ ap (λ l. map (λ Γ. length (space_of Γ)) (scopes_of T l)) same in (
        lists,
        have,
        subst (λ l. LieIn l high lists) (sym (low_is ∙ ap (map (λ size. replicate size 0)) sized))
            (subst (λ h. LieIn (map (λ size. replicate size 0) (map (λ Γ. length (space_of Γ)) (scopes_of T (map (λ (m : Mark). m.symbol) R.marks)))) h lists)
            (sym (high_is ∙ ap (map (λ size. replicate size 3)) sized)) lie),
      )

  pub whole_out : IsExcluded T (length T.set) low high → HasNoInterpretation T
  whole_out out R of lets =
      let (lists, have, lie) = all_in R of in
      out lists R (letting_fits T R lists of lets have) lie

  pub each_out : (low' high' : List (List ℕ)) → AreKept T (length T.set) low high low' high'
      → ((i : ℕ) → i < length T.set → IsExcluded T i low' high') → HasNoInterpretation T
  each_out low' high' kept out R of lets =
      let (lists, have, lie) = all_in R of in
      let (i, within, fit) = letting_fits_strictly T R lists of lets have in
      out i within lists R fit (kept lists R (letting_fits T R lists of lets have) lie)
