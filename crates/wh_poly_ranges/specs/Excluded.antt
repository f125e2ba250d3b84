-- Ranges of coefficients, and that no readings in them let a pair of a set go.
use Rattle.std.specs.Prelude.{ℕ, ◌≤◌, ◌≡◌, List, [], Some, get_or, slice_get, Contains, false, true}
use Rattle.wh_terms.specs.Rules.{RewriteRule}
use Rattle.wh_pairs.specs.PairData.{PairData}
use Rattle.wh_pairs.specs.Sets.{InSet}
use Rattle.wh_reduction_pairs.specs.TaskData.{TaskData}
use Rattle.wh_polycheck.specs.Readings.{ReadingsData, AreReadingsFor}
use Rattle.wh_poly_guesses.specs.Coefficients.{HaveCoefficients}
use Rattle.wh_poly_guesses.specs.Conditions.{Meets, IsMetBy, covers_rule}

-- the coefficient in lists with the number of a list and a place in it; one that is missing is 0
abbrev pub coefficient_in : List (List ℕ) → ℕ → ℕ → ℕ
coefficient_in lists n j = get_or (get_or lists n []) j 0

-- each coefficient of the lists is at most the one at its place in the others (ours)
abbrev pub AreAtMost : List (List ℕ) → List (List ℕ) → Type 0
AreAtMost low high = (n j : ℕ) → coefficient_in low n j ≤ coefficient_in high n j

-- the lists lie in the ranges between two others (ours)
pub record LieIn (low high lists : List (List ℕ)) : Type 0 where
  pub above : AreAtMost low lists
  pub below : AreAtMost lists high

module _ (T : TaskData) where
  -- readings with these coefficients cover all rules that are to be covered and all pairs of the set, and the pair with
  -- this place in the set strictly; past the end of the set no pair is asked to be (ours)
  pub record Fit (strict : ℕ) (lists : List (List ℕ)) (R : ReadingsData) : Type 0 where
    pub readings : AreReadingsFor T R
    pub coefficients : HaveCoefficients T lists R
    pub rules_met : (n : ℕ) (r : RewriteRule) → Contains T.covered n → slice_get T.rules n ≡ Some r → Meets T R (covers_rule r)
    pub pairs_met : (p : PairData) → InSet T.pairs T.set p → IsMetBy T R p false
    pub strictly : (n : ℕ) (p : PairData) → slice_get T.set strict ≡ Some n → slice_get T.pairs n ≡ Some p → IsMetBy T R p true

  -- no readings with coefficients in the ranges fit (ours)
  abbrev pub IsExcluded : ℕ → List (List ℕ) → List (List ℕ) → Type 0
  IsExcluded strict low high =
      (lists : List (List ℕ)) (R : ReadingsData) → Fit strict lists R → LieIn low high lists → ⊥

  -- all that do and have coefficients in the first ranges have them in the second ones (ours)
  abbrev pub AreKept : ℕ → List (List ℕ) → List (List ℕ) → List (List ℕ) → List (List ℕ) → Type 0
  AreKept strict low high low' high' =
      (lists : List (List ℕ)) (R : ReadingsData) → Fit strict lists R → LieIn low high lists → LieIn low' high' lists
