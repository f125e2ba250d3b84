-- What is decided, and searches for the least number and for the first element of which something holds.
use Rattle.std.proofs.Common.{◌≡◌, ℕ, zero, suc, ◌+◌, ◌<◌, ◌≤◌, ◌⊎◌, inl, inr, List, [], ◌∷◌, get_or, Bool, true, false, Some, slice_get, All, Contains, refl, ap, sym, subst, ◌∙◌, arith}
use Rattle.std.proofs.lemmas.Bool.{cases_eq, cases_lt}
use Rattle.std.proofs.lemmas.Option.{slice_get-get_or}
use Rattle.std.proofs.lemmas.List.Elements.{All-contains}
use Rattle.wh_system.proofs.TypedDecided.{Decided, below_decided, decided_by, both_decided}
use Rattle.wh_pairs.proofs.ByPlace.{some_one, contains_at}
use Rattle.wh_pairs.proofs.MemberLemmas.{none_there, head_or_behind}

pub not_decided : {A : Type 0} → Decided A → Decided (A → ⊥)
not_decided (inl a) = inr (λ n. n a)
not_decided (inr n) = inl n

pub either_decided : {A B : Type 0} → Decided A → Decided B → Decided (A ⊎ B)
either_decided (inl a) d = inl (inl a)
either_decided (inr f) (inl b) = inl (inr b)
either_decided (inr f) (inr g) = inr (λ e. elim e [ inl a ↦ f a | inr b ↦ g b ])

-- what is decided and not refuted holds
pub not_refuted : {A : Type 0} → Decided A → ((A → ⊥) → ⊥) → A
not_refuted (inl a) known = a
not_refuted (inr f) known = absurd (known f)

pub equal_decided : (m n : ℕ) → Decided (m ≡ n)
equal_decided m n = elim (cases_eq m n) [ inl same ↦ inl same | inr other ↦ inr other ]

pub at_most_decided : (m n : ℕ) → Decided (m ≤ n)
at_most_decided m n = decided_by (λ less. omega arith) (λ le. omega arith) (below_decided m (n + 1))

pub false_decided : (b : Bool) → Decided (b ≡ false)
false_decided true = inr (λ e. cc)
false_decided false = inl refl

-- P holds of something, or of nothing
abbrev pub SomeOrNone : {A : Type 0} → (A → Type 0) → Type 0
SomeOrNone {A} P = ((x : A) × P x) ⊎ ((x : A) → P x → ⊥)

-- equal lists, where equal elements are decided
pub list_decided : {A : Type 0} → ((x y : A) → Decided (x ≡ y)) → (xs ys : List A) → Decided (xs ≡ ys)
list_decided same [] [] = inl refl
list_decided same [] (y ∷ ys) = inr (λ e. cc)
list_decided same (x ∷ xs) [] = inr (λ e. cc)
list_decided same (x ∷ xs) (y ∷ ys) = decided_by (λ (here, rest). cc (here, rest)) (λ e. (cc, cc)) (both_decided (same x y) (list_decided same xs ys))

-- the least number of which P holds
abbrev pub IsLeast : (ℕ → Type 0) → ℕ → Type 0
IsLeast P n = P n × ((m : ℕ) → m < n → P m → ⊥)

pub least_below : (P : ℕ → Type 0) → ((n : ℕ) → Decided (P n)) → (k : ℕ) → ((n : ℕ) × (n < k) × IsLeast P n) ⊎ ((n : ℕ) → n < k → P n → ⊥)
least_below P decided zero = inr (λ n less p. omega arith)
least_below P decided (suc k) = go (least_below P decided k) (decided k)
  where
    go : ((n : ℕ) × (n < k) × IsLeast P n) ⊎ ((n : ℕ) → n < k → P n → ⊥) → Decided (P k) → ((n : ℕ) × (n < suc k) × IsLeast P n) ⊎ ((n : ℕ) → n < suc k → P n → ⊥)
    go (inl (n, less, least)) d = inl (n, omega arith, least)
    go (inr none) (inl p) = inl (k, omega arith, (p, none))
    go (inr none) (inr not) = inr (λ n less p. elim (cases_lt n k) [
      | inl below ↦ none n below p
      | inr le ↦ let same : n ≡ k = omega arith in not (subst P same p)
    ])

pub least_of : (P : ℕ → Type 0) → ((n : ℕ) → Decided (P n)) → (n : ℕ) → P n → (m : ℕ) × IsLeast P m
least_of P decided n p = elim (least_below P decided (suc n)) [
  | inl (m, less, least) ↦ (m, least)
  | inr none ↦ absurd (none n (omega arith) p)
]

pub some_below : (P : ℕ → Type 0) → ((n : ℕ) → Decided (P n)) → (k : ℕ) → Decided ((n : ℕ) × (n < k) × P n)
some_below P decided k = elim (least_below P decided k) [
  | inl (n, less, least) ↦ inl (n, less, least.0)
  | inr none ↦ inr (λ (n, less, p). none n less p)
]

-- P holds of the element at a place and of none before it
abbrev pub HasFirst : {A : Type 0} → (A → Type 0) → List A → Type 0
HasFirst {A} P xs = (i : ℕ) × (x : A) × (slice_get xs i ≡ Some x) × P x × ((j : ℕ) (y : A) → j < i → slice_get xs j ≡ Some y → P y → ⊥)

-- P holds of no element
abbrev pub HasNoneOf : {A : Type 0} → (A → Type 0) → List A → Type 0
HasNoneOf {A} P xs = (x : A) → Contains xs x → P x → ⊥

none_earlier : {A : Type 0} (P : A → Type 0) (x : A) (xs : List A) (i : ℕ) → (P x → ⊥) → ((j : ℕ) (y : A) → j < i → slice_get xs j ≡ Some y → P y → ⊥)
    → (j : ℕ) (y : A) → j < suc i → slice_get (x ∷ xs) j ≡ Some y → P y → ⊥
none_earlier P x xs i not before zero y less at p = not (subst P (some_one at refl) p)
none_earlier P x xs i not before (suc j) y less at p = before j y (omega arith) at p

pub first_place : {A : Type 0} (P : A → Type 0) → ((x : A) → Decided (P x)) → (xs : List A) → HasFirst P xs ⊎ HasNoneOf P xs
first_place P decided [] = inr (λ x found p. none_there x found)
first_place {A = A} P decided (y ∷ ys) = go (decided y) (first_place P decided ys)
  where
    go : Decided (P y) → HasFirst P ys ⊎ HasNoneOf P ys → HasFirst P (y ∷ ys) ⊎ HasNoneOf P (y ∷ ys)
    go (inl p) rest = inl (0, y, refl, p, λ j z less at q. omega arith)
    go (inr not) (inl (i, x, at, p, before)) = inl (suc i, x, at, p, none_earlier P y ys i not before)
    go (inr not) (inr none) = inr (λ x found p. elim (head_or_behind ys y x found) [
      | inl same ↦ not (subst P (sym same) p)
      | inr later ↦ none x later p
    ])

-- each number of a list is below some number
pub bound_of : (ns : List ℕ) → (k : ℕ) × ((n : ℕ) → Contains ns n → n < k)
bound_of [] = (0, λ n found. absurd (none_there n found))
bound_of (m ∷ ns) =
    let (k, below) = bound_of ns in (
      m + k + 1,
      λ n found. elim (head_or_behind ns m n found) [
        | inl same ↦ omega (arith, same)
        | inr later ↦ let less = below n later in omega (arith, less)
      ],
    )

-- whether an element is in a list, where equal elements are decided
pub member_decided : {A : Type 0} → ((x y : A) → Decided (x ≡ y)) → (xs : List A) (x : A) → Decided (Contains xs x)
member_decided same xs x = elim (first_place (λ y. y ≡ x) (λ y. same y x) xs) [
  | inl (i, y, at, is, before) ↦ inl (contains_at xs i x (at ∙ ap (λ z. Some z) is))
  | inr none ↦ inr (λ found. none x found refl)
]

-- where what is decided is refuted of no element, it holds of all
pub all_unless : {A : Type 0} (P : A → Type 0) → ((x : A) → Decided (P x)) → (xs : List A) → HasNoneOf (λ x. P x → ⊥) xs → All P xs
all_unless P decided xs none k d within = not_refuted (decided (get_or xs k d)) (none (get_or xs k d) (contains_at xs k (get_or xs k d) (slice_get-get_or xs k d within)))

pub all_decided : {A : Type 0} (P : A → Type 0) → ((x : A) → Decided (P x)) → (xs : List A) → Decided (All P xs)
all_decided P decided xs = elim (first_place (λ x. P x → ⊥) (λ x. not_decided (decided x)) xs) [
  | inl (i, x, at, not, before) ↦ inr (λ all. not (All-contains P xs x all (contains_at xs i x at)))
  | inr none ↦ inl (all_unless P decided xs none)
]
