-- Increasing lists of numbers.
use Rattle.std.proofs.Common.{◌≡◌, ℕ, zero, suc, ◌+◌, ◌<◌, ◌≤◌, inl, inr, List, [], ◌∷◌, length, get_or, Some, Result, Ok, Err, slice_get, Contains, ap, sym, subst, ◌∙◌, add-one, eq-or-lt_of_le, arith, true, false}
use Rattle.std.specs.Result.{is_err}
use Rattle.std.specs.Ordering.{nat_cmp}
use Rattle.std.specs.List.Sorted.{IsBinarySearchResult}
use Rattle.std.proofs.lemmas.Option.{slice_get_within, get_or_from_slice_get, slice_get-get_or}
use Rattle.std.proofs.lemmas.List.Sorted.{searched}
use Rattle.wh_pairs.specs.PairData.{IsIncreasing}

pub increasing_rest : (n : ℕ) (ns : List ℕ) → IsIncreasing (n ∷ ns) → IsIncreasing ns
increasing_rest n [] up = tt
increasing_rest n (m ∷ rest) up = up.1

increasing_first : (n : ℕ) (ns : List ℕ) (j : ℕ) → IsIncreasing (n ∷ ns) → j < length ns → n < get_or ns j 0
increasing_first n [] j up within = absurd (omega arith)
increasing_first n (m ∷ rest) zero up within = up.0
increasing_first n (m ∷ rest) (suc j) up within =
    let next = increasing_first m rest j up.1 (omega arith) in omega (arith, up.0)

pub increasing_at : (ns : List ℕ) (i j : ℕ) → IsIncreasing ns → i < j → j < length ns → get_or ns i 0 < get_or ns j 0
increasing_at [] i j up less within = absurd (omega arith)
increasing_at (n ∷ ns) zero zero up less within = absurd (omega arith)
increasing_at (n ∷ ns) zero (suc j) up less within = increasing_first n ns j up (omega arith)
increasing_at (n ∷ ns) (suc i) zero up less within = absurd (omega arith)
increasing_at (n ∷ ns) (suc i) (suc j) up less within = increasing_at ns i j (increasing_rest n ns up) (omega arith) (omega arith)

-- a smaller number stands earlier
pub smaller_earlier : (ns : List ℕ) (i j m n : ℕ) → IsIncreasing ns → slice_get ns i ≡ Some m → slice_get ns j ≡ Some n → m < n → i < j
smaller_earlier ns i j m n up at_i at_j less =
    let within = slice_get_within ns i m at_i in
    let below = slice_get_within ns j n at_j in
    let m_is = get_or_from_slice_get ns i m 0 at_i in
    let n_is = get_or_from_slice_get ns j n 0 at_j in
    let up_at : j < i → get_or ns j 0 < get_or ns i 0 = λ h. increasing_at ns j i up h within in
    let same : i ≡ j → m ≡ n = λ h. sym m_is ∙ ap (λ k. get_or ns k 0) h ∙ n_is in
    grind (arith, up_at, same, m_is, n_is)

-- one number stands at one place
pub one_place : (ns : List ℕ) (i j n : ℕ) → IsIncreasing ns → slice_get ns i ≡ Some n → slice_get ns j ≡ Some n → i ≡ j
one_place ns i j n up at_i at_j =
    let within = slice_get_within ns i n at_i in
    let below = slice_get_within ns j n at_j in
    let m_is = get_or_from_slice_get ns i n 0 at_i in
    let n_is = get_or_from_slice_get ns j n 0 at_j in
    let above : j < i → get_or ns j 0 < get_or ns i 0 = λ h. increasing_at ns j i up h within in
    let under : i < j → get_or ns i 0 < get_or ns j 0 = λ h. increasing_at ns i j up h below in
    grind (arith, above, under, m_is, n_is)

pub increasing_from_adjacent : (ns : List ℕ) → ((k : ℕ) → k + 1 < length ns → get_or ns k 0 < get_or ns (k + 1) 0) → IsIncreasing ns
increasing_from_adjacent [] next = tt
increasing_from_adjacent (n ∷ []) next = tt
increasing_from_adjacent (n ∷ m ∷ rest) next = (
  next 0 (omega arith),
  increasing_from_adjacent (m ∷ rest) (λ k h. rw (add-one k) (let here : get_or (n ∷ m ∷ rest) (suc k) 0 < get_or (n ∷ m ∷ rest) (suc (suc k)) 0 = subst (λ j. get_or (n ∷ m ∷ rest) (suc k) 0 < get_or (n ∷ m ∷ rest) j 0) (add-one (suc k)) (next (suc k) (omega arith)) in here)),
)

-- numbers do not fall
pub not_falling : (ns : List ℕ) → IsIncreasing ns → (i j : ℕ) → i ≤ j → j < length ns → get_or ns i 0 ≤ get_or ns j 0
not_falling ns up i j le within = elim (eq-or-lt_of_le le) [
  | inl same ↦ omega (arith, ap (λ k. get_or ns k 0) same)
  | inr less ↦ let next = increasing_at ns i j up less within in omega arith
]

-- a binary search tells whether the number is there
pub search_misses : (ns : List ℕ) (n : ℕ) (r : Result ℕ ℕ) → IsIncreasing ns → IsBinarySearchResult (λ m. nat_cmp m n) ns r → is_err r ≡ true → Contains ns n → ⊥
search_misses ns n (Ok i) up result is found = cc
search_misses ns n (Err i) up result is (k, within, at) =
    let said = searched ns n (Err i) result (not_falling ns up) in
    let at_zero : get_or ns k 0 ≡ n = get_or_from_slice_get ns k n 0 (slice_get-get_or ns k n within ∙ ap Some at) in
    let below = said.1 k in
    let above = said.2 k in
    grind (arith, below, above, at_zero, within)

pub search_finds : (ns : List ℕ) (n : ℕ) (r : Result ℕ ℕ) → IsIncreasing ns → IsBinarySearchResult (λ m. nat_cmp m n) ns r → is_err r ≡ false → Contains ns n
search_finds ns n (Ok i) up result is =
    let said = searched ns n (Ok i) result (not_falling ns up) in
    (i, said.0, get_or_from_slice_get ns i n n (slice_get-get_or ns i 0 said.0 ∙ ap Some said.1))
search_finds ns n (Err i) up result is = cc
