-- Projected sides and what is asked of them.
use Rattle.std.proofs.Common.{◌≡◌, ◌↔◌, IsTrue, ℕ, ◌+◌, ◌<◌, ◌≤◌, ◌⊎◌, inl, inr, Bool, true, false, List, length, Some, slice_get, Contains, refl, ap, sym, subst, ◌∙◌, arith}
use Rattle.std.proofs.lemmas.Option.{slice_get_within}
use Rattle.wh_terms.specs.Tree.{Tm}
use Rattle.wh_pairs.specs.PairData.{PairData, IsIncreasing}
use Rattle.wh_subterm.specs.ProperParts.{Part}
use Rattle.wh_subterm.specs.Projections.{Chosen, IsProjected, Equal, Below, Decreasing}
use Rattle.wh_subterm.specs.SubtermRows.{chosen_symbols, IsDecreasing, IsNotDecreasing}
use Rattle.wh_pairs.proofs.ByPlace.{some_one}
use Rattle.wh_subterm.proofs.ChoiceLemmas.{one_choice, symbol_chosen}

pub project_unchosen : (args : List Chosen) (f : ℕ) (ts : List Tm) (t : Tm) → (Contains (chosen_symbols args) f → ⊥) → IsProjected args f ts t → ⊥
project_unchosen args f ts t none (i, found, at) = none (symbol_chosen args (record { symbol = f; argument = i + 1 }) found)

pub project_zero : (args : List Chosen) (f a : ℕ) (ts : List Tm) (t : Tm) → IsIncreasing (chosen_symbols args) → Contains args (record { symbol = f; argument = a }) → (1 ≤ a → ⊥) → IsProjected args f ts t → ⊥
project_zero args f a ts t up here small (i, found, at) =
    let same = one_choice args f a (i + 1) up here found in small (omega arith)

pub project_past : (args : List Chosen) (f a : ℕ) (ts : List Tm) (t : Tm) → IsIncreasing (chosen_symbols args) → Contains args (record { symbol = f; argument = a }) → length ts < a → IsProjected args f ts t → ⊥
project_past args f a ts t up here past (i, found, at) =
    let same = one_choice args f a (i + 1) up here found in
    let within = slice_get_within ts i t at in omega arith

pub project_at : (args : List Chosen) (f a : ℕ) (ts : List Tm) (i : ℕ) (t : Tm) → Contains args (record { symbol = f; argument = a }) → a ≡ i + 1 → slice_get ts i ≡ Some t → IsProjected args f ts t
project_at args f a ts i t here is at = (i, subst (λ b. Contains args (record { symbol = f; argument = b })) is here, at)

pub project_one : (args : List Chosen) (f : ℕ) (ts : List Tm) (t u : Tm) → IsIncreasing (chosen_symbols args) → IsProjected args f ts t → IsProjected args f ts u → t ≡ u
project_one args f ts t u up (i, found, at) (j, also, there) =
    let same = one_choice args f (i + 1) (j + 1) up found also in
    let one : i ≡ j = omega arith in
    some_one (sym (ap (slice_get ts) one) ∙ at) there

-- the sides that a pair has under the choices

pub unprojected : (args : List Chosen) (a : PairData) (dropped : Bool) → ((t u : Tm) → IsProjected args a.left_fun a.left t → IsProjected args a.right_fun a.right u → ⊥) → Decreasing args dropped a → ⊥
unprojected args a true none (t, u, left, right, part) = none t u left right
unprojected args a false none (inl (t, left, right)) = none t t left right
unprojected args a false none (inr (t, u, left, right, part)) = none t u left right

below_part : (args : List Chosen) (a : PairData) (t u : Tm) → IsIncreasing (chosen_symbols args) → IsProjected args a.left_fun a.left t → IsProjected args a.right_fun a.right u → Below args a → Part u t
below_part args a t u up left right (v, w, also, there, part) =
    subst (λ x. Part x t) (project_one args a.right_fun a.right w u up there right) (subst (Part w) (project_one args a.left_fun a.left v t up also left) part)

equal_same : (args : List Chosen) (a : PairData) (t u : Tm) → IsIncreasing (chosen_symbols args) → IsProjected args a.left_fun a.left t → IsProjected args a.right_fun a.right u → Equal args a → t ≡ u
equal_same args a t u up left right (v, also, there) =
    sym (project_one args a.left_fun a.left v t up also left) ∙ project_one args a.right_fun a.right v u up there right

-- the tests on the two sides

pub decreasing_part : (args : List Chosen) (a : PairData) (t u : Tm) (dropped : Bool) → IsProjected args a.left_fun a.left t → IsProjected args a.right_fun a.right u → Part u t → Decreasing args dropped a
decreasing_part args a t u true left right part = (t, u, left, right, part)
decreasing_part args a t u false left right part = inr (t, u, left, right, part)

pub decreasing_same : (args : List Chosen) (a : PairData) (t u : Tm) (dropped : Bool) → dropped ≡ false → IsProjected args a.left_fun a.left t → IsProjected args a.right_fun a.right u → t ≡ u → Decreasing args dropped a
decreasing_same args a t u true never left right same = cc
decreasing_same args a t u false free left right same = inl (u, subst (IsProjected args a.left_fun a.left) same left, right)

pub decreasing_cases : (args : List Chosen) (a : PairData) (t u : Tm) (dropped : Bool) → IsIncreasing (chosen_symbols args) → IsProjected args a.left_fun a.left t → IsProjected args a.right_fun a.right u
    → Decreasing args dropped a → Part u t ⊎ ((dropped ≡ false) × (t ≡ u))
decreasing_cases args a t u true up left right below = inl (below_part args a t u up left right below)
decreasing_cases args a t u false up left right (inl equal) = inr (refl, equal_same args a t u up left right equal)
decreasing_cases args a t u false up left right (inr below) = inl (below_part args a t u up left right below)

-- a pair of the list decreases exactly where nothing is wrong with it

pub decreasing_right : (pairs : List PairData) (args : List Chosen) (drop : List ℕ) (n : ℕ) (a : PairData) (dropped : Bool) → slice_get pairs n ≡ Some a → (IsTrue dropped ↔ Contains drop n)
    → Decreasing args dropped a → IsDecreasing pairs args drop n
decreasing_right pairs args drop n a true at is below b also = let here = subst (Below args) (some_one at also) below in (inr here, λ _. here)
decreasing_right pairs args drop n a false at is right b also = (
  subst (λ d. Equal args d ⊎ Below args d) (some_one at also) right,
  λ found. let never : false ≡ true = is.1 found in cc,
)

pub decreasing_wrong : (pairs : List PairData) (args : List Chosen) (drop : List ℕ) (n : ℕ) (a : PairData) (dropped : Bool) → slice_get pairs n ≡ Some a → (IsTrue dropped ↔ Contains drop n)
    → (Decreasing args dropped a → ⊥) → IsNotDecreasing pairs args drop n
decreasing_wrong pairs args drop n a true at is wrong = (a, at, inr (is.0 refl, wrong))
decreasing_wrong pairs args drop n a false at is wrong = (a, at, inl wrong)

pub not_both : (pairs : List PairData) (args : List Chosen) (drop : List ℕ) (n : ℕ) → IsDecreasing pairs args drop n → IsNotDecreasing pairs args drop n → ⊥
not_both pairs args drop n right (a, at, inl neither) = neither (right a at).0
not_both pairs args drop n right (a, at, inr bad) = bad.1 ((right a at).1 bad.0)
