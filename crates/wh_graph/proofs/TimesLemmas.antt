-- How often a number is listed, list by list.
use Rattle.std.proofs.Common.{◌≡◌, ℕ, zero, suc, ◌+◌, ◌<◌, ◌⊎◌, inl, inr, List, [], ◌∷◌, length, Some, slice_get, Contains, refl, ap, sym, ◌∙◌, arith}
use Rattle.std.proofs.lemmas.Bool.{cases_eq}
use Rattle.std.proofs.lemmas.Option.{slice_get_within}
use Rattle.wh_graph.specs.Components.{StandsAt, Partition}
use Rattle.wh_graph.specs.Blocks.{IsListed, IsMisplaced}
use Rattle.wh_graph.specs.Times.{plus, TimesIn, TimesListed, IsStray, IsUneven}
use Rattle.wh_graph.specs.declared.places.Times.{Times}
use Rattle.wh_graph.specs.declared.places.Times.TheVariants.{Never, Once, Often}
use Rattle.wh_pairs.proofs.DropLemmas.{contains_or_not}
use Rattle.wh_pairs.proofs.ByPlace.{some_one, contains_at, place_of, same_or_below}

pub times_skip : (list : List ℕ) (n i m : ℕ) (t : Times) → TimesIn list n i t → slice_get list i ≡ Some m → (m ≡ n → ⊥) → TimesIn list n (i + 1) t
times_skip list n i m Never none here other = λ k below at. elim (same_or_below k i below) [
  | inl same ↦ other (some_one here (sym (ap (slice_get list) same) ∙ at))
  | inr less ↦ none k less at
]
times_skip list n i m Once (k, below, at, one) here other = (
  k,
  omega arith,
  at,
  λ j under there. elim (same_or_below j i under) [
    | inl same ↦ absurd (other (some_one here (sym (ap (slice_get list) same) ∙ there)))
    | inr less ↦ one j less there
  ],
)
times_skip list n i m Often twice here other = twice

pub times_more : (list : List ℕ) (n i m : ℕ) (t : Times) → TimesIn list n i t → slice_get list i ≡ Some m → m ≡ n → TimesIn list n (i + 1) (plus t Once)
times_more list n i m Never none here same = (
  i,
  omega arith,
  here ∙ ap Some same,
  λ j under there. elim (same_or_below j i under) [
    | inl is ↦ is
    | inr less ↦ absurd (none j less there)
  ],
)
times_more list n i m Once (k, below, at, one) here same = (k, i, below, at, here ∙ ap Some same)
times_more list n i m Often twice here same = twice

-- block by block

listed_later : (blocks : List (List ℕ)) (n i : ℕ) (block : List ℕ) → TimesListed blocks n i Never → slice_get blocks i ≡ Some block → (j k : ℕ) → j < i + 1 → StandsAt blocks j k n → (j ≡ i) × (slice_get block k ≡ Some n)
listed_later blocks n i block none here j k below (list, at, stands) = elim (same_or_below j i below) [
  | inl same ↦
      let one : list ≡ block = some_one (sym (ap (slice_get blocks) same) ∙ at) here in
      (same, ap (λ l. slice_get l k) (sym one) ∙ stands)
  | inr less ↦ absurd (none j k less (list, at, stands))
]

pub listed_more : (blocks : List (List ℕ)) (n i : ℕ) (block : List ℕ) (a b : Times) → TimesListed blocks n i a → slice_get blocks i ≡ Some block → TimesIn block n (length block) b → TimesListed blocks n (i + 1) (plus a b)
listed_more blocks n i block Never Never none here empty = λ j k below stands.
    let found = listed_later blocks n i block none here j k below stands in
    empty k (slice_get_within block k n found.1) found.1
listed_more blocks n i block Never Once none here (k, within, at, one) = (
  i,
  k,
  omega arith,
  (block, here, at),
  λ l m below stands.
      let found = listed_later blocks n i block none here l m below stands in
      (found.0, one m (slice_get_within block m n found.1) found.1),
)
listed_more blocks n i block Never Often none here (j, k, less, at, also) = (
  i,
  i,
  j,
  k,
  (block, here, at),
  (block, here, also),
  λ (same, equal). omega arith,
)
listed_more blocks n i block Once Never (j, k, below, stands, one) here empty = (
  j,
  k,
  omega arith,
  stands,
  λ l m under (list, at, there). elim (same_or_below l i under) [
    | inl same ↦
        let is : list ≡ block = some_one (sym (ap (slice_get blocks) same) ∙ at) here in
        let found = ap (λ u. slice_get u m) (sym is) ∙ there in
        absurd (empty m (slice_get_within block m n found) found)
    | inr less ↦ one l m less (list, at, there)
  ],
)
listed_more blocks n i block Once Once (j, k, below, stands, one) here (m, within, at, also) = (
  j,
  i,
  k,
  m,
  stands,
  (block, here, at),
  λ (same, equal). omega arith,
)
listed_more blocks n i block Once Often (j, k, below, stands, one) here (l, m, less, at, also) = (
  i,
  i,
  l,
  m,
  (block, here, at),
  (block, here, also),
  λ (same, equal). omega arith,
)
listed_more blocks n i block Often Never twice here b = twice
listed_more blocks n i block Often Once twice here b = twice
listed_more blocks n i block Often Often twice here b = twice

-- what the number of times says of a number of the set

pub never_uneven : (set : List ℕ) (blocks : List (List ℕ)) (n : ℕ) → Contains set n → TimesListed blocks n (length blocks) Never → IsUneven set blocks n
never_uneven set blocks n found none = (found, inr (λ (i, (k, (list, at, stands))). none i k (slice_get_within blocks i list at) (list, at, stands)))

pub often_uneven : (set : List ℕ) (blocks : List (List ℕ)) (n : ℕ) → Contains set n → TimesListed blocks n (length blocks) Often → IsUneven set blocks n
often_uneven set blocks n found twice = (found, inl twice)

pub once_even : (set : List ℕ) (blocks : List (List ℕ)) (n : ℕ) → TimesListed blocks n (length blocks) Once → IsUneven set blocks n → ⊥
once_even set blocks n (j, k, below, stands, one) (found, inl (a, b, c, d, (list, at, here), (other, also, there), apart)) =
    let first = one a c (slice_get_within blocks a list at) (list, at, here) in
    let second = one b d (slice_get_within blocks b other also) (other, also, there) in
    apart (first.0 ∙ sym second.0, first.1 ∙ sym second.1)
once_even set blocks n (j, k, below, stands, one) (found, inr missing) = missing (j, (k, stands))

-- a number stands in a list or does not

listed_cons : (block : List ℕ) (blocks : List (List ℕ)) (n : ℕ) → (Contains block n → ⊥) → (IsListed blocks n → ⊥) → (i k : ℕ) → StandsAt (block ∷ blocks) i k n → ⊥
listed_cons block blocks n first rest zero k (list, at, stands) =
    let one : block ≡ list = cc in first (contains_at block k n (ap (λ l. slice_get l k) one ∙ stands))
listed_cons block blocks n first rest (suc i) k (list, at, stands) = rest (i, (k, (list, at, stands)))

pub listed_or_not : (blocks : List (List ℕ)) (n : ℕ) → IsListed blocks n ⊎ (IsListed blocks n → ⊥)
listed_or_not [] n = inr (λ (i, (k, (list, at, stands))). cc)
listed_or_not (block ∷ blocks) n = elim (contains_or_not block n) [
  | inl found ↦ let at = place_of block n found in inl (0, (at.0, (block, refl, at.1)))
  | inr first ↦ elim (listed_or_not blocks n) [
    | inl (i, (k, stands)) ↦ inl (suc i, (k, stands))
    | inr rest ↦ inr (λ (i, (k, stands)). listed_cons block blocks n first rest i k stands)
  ]
]

-- blocks without a misplaced number are a partition, and the other way round

pub partition_from : (set : List ℕ) (blocks : List (List ℕ)) → ((n : ℕ) → IsMisplaced set blocks n → ⊥) → Partition set blocks
partition_from set blocks right = record {
  within = λ i n (k, stands). elim (contains_or_not set n) [
    | inl found ↦ found
    | inr missing ↦ absurd (right n (inr (inl ((i, (k, stands)), missing))))
  ];
  whole = λ n found. elim (listed_or_not blocks n) [
    | inl listed ↦ listed
    | inr missing ↦ absurd (right n (inr (inr (found, missing))))
  ];
  once = λ i j k m n here there. elim (cases_eq i j) [
    | inl same ↦ elim (cases_eq k m) [
      | inl equal ↦ (same, equal)
      | inr other ↦ absurd (right n (inl (i, j, k, m, here, there, λ (p, q). other q)))
    ]
    | inr other ↦ absurd (right n (inl (i, j, k, m, here, there, λ (p, q). other p)))
  ];
}

pub partition_right : (set : List ℕ) (blocks : List (List ℕ)) → Partition set blocks → (n : ℕ) → IsMisplaced set blocks n → ⊥
partition_right set blocks p n (inl (i, j, k, m, here, there, apart)) = apart (p.once i j k m n here there)
partition_right set blocks p n (inr (inl ((i, listed), missing))) = missing (p.within i n listed)
partition_right set blocks p n (inr (inr (found, missing))) = missing (p.whole n found)

-- a misplaced number is a stray one or one of the set that is not listed once

pub stray_misplaced : (set : List ℕ) (blocks : List (List ℕ)) (n : ℕ) → IsStray set blocks n → IsMisplaced set blocks n
stray_misplaced set blocks n stray = inr (inl stray)

pub uneven_misplaced : (set : List ℕ) (blocks : List (List ℕ)) (n : ℕ) → IsUneven set blocks n → IsMisplaced set blocks n
uneven_misplaced set blocks n (found, inl twice) = inl twice
uneven_misplaced set blocks n (found, inr missing) = inr (inr (found, missing))

pub misplaced_cases : (set : List ℕ) (blocks : List (List ℕ)) (n : ℕ) → IsMisplaced set blocks n → IsStray set blocks n ⊎ IsUneven set blocks n
misplaced_cases set blocks n (inl (i, j, k, m, here, there, apart)) = elim (contains_or_not set n) [
  | inl found ↦ inr (found, inl (i, j, k, m, here, there, apart))
  | inr missing ↦ inl ((i, (k, here)), missing)
]
misplaced_cases set blocks n (inr (inl stray)) = inl stray
misplaced_cases set blocks n (inr (inr (found, missing))) = inr (found, inr missing)
