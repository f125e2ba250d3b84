-- Increasing lists as sets, built by pushes.
use Rattle.std.proofs.Common.{◌≡◌, ◌↔◌, ℕ, suc, ◌+◌, ◌-◌, ◌<◌, ◌≤◌, ◌⊎◌, inl, inr, List, [], ◌∷◌, ◌++◌, length, get_or, Some, Result, Ok, Err, IfOk, slice_get, All, Contains, refl, sym, ap, subst, ◌∙◌, arith}
use Rattle.std.proofs.lemmas.Bool.{cases_eq, cases_lt}
use Rattle.std.proofs.lemmas.Option.{slice_get_within, get_or_from_slice_get}
use Rattle.std.proofs.lemmas.List.Sorted.{Contains-permutation, IsPermutation-sym}
use Rattle.std.proofs.lemmas.List.Elements.{All-contains, Contains-append_left, Contains-push, Contains-push_cases, Contains-get_or}
use Rattle.std.specs.List.Sorted.{IsNonDecreasing, IsPermutation}
use Rattle.wh_pairs.specs.PairData.{IsIncreasing}
use Rattle.wh_pairs.proofs.PairLemmas.{increasing_push}
use Rattle.wh_pairs.proofs.Increasing.{increasing_at}
use Rattle.wh_pairs.proofs.ByPlace.{contains_at, place_of, some_one}
use Rattle.wh_pairs.proofs.MemberLemmas.{none_there, at_head, behind, head_or_behind}
use Rattle.wh_pairs.proofs.PlacesBefore.{StandsBefore, before_more, before_all}
use Rattle.wh_pairs.proofs.DropLemmas.{contains_or_not}
use Rattle.wh_pairs.specs.Sets.{IsSetOf, IsKept}

pub all_from_members : {A : Type 0} (P : A → Type 0) (xs : List A) → ((x : A) → Contains xs x → P x) → All P xs
all_from_members P xs each i d within = each (get_or xs i d) (Contains-get_or xs i d within)

pub set_none : (P : ℕ → Type 0) → ((n : ℕ) → P n → ⊥) → IsSetOf P []
set_none P none = record { increasing = tt; each = λ n. (λ found. absurd (none_there n found), λ p. absurd (none n p)) }

pub set_same : (P Q : ℕ → Type 0) (set : List ℕ) → IsSetOf P set → ((n : ℕ) → P n ↔ Q n) → IsSetOf Q set
set_same P Q set is same = record {
  increasing = is.increasing;
  each = λ n. (λ found. (same n).0 ((is.each n).0 found), λ q. (is.each n).1 ((same n).1 q));
}

pub set_push : (P Q : ℕ → Type 0) (set : List ℕ) (n : ℕ) → IsSetOf P set → ((m : ℕ) → P m → m < n) → ((m : ℕ) → Q m ↔ (P m ⊎ (m ≡ n)))
    → IsSetOf Q (set ++ n ∷ [])
set_push P Q set n is above more = record {
  increasing = increasing_push set n is.increasing (all_from_members (λ m. m < n) set (λ m found. above m ((is.each m).0 found)));
  each = λ m. (
    λ found. (more m).1 (elim (Contains-push_cases set n m found) [ inl old ↦ inl ((is.each m).0 old) | inr same ↦ inr (sym same) ]),
    λ q. elim ((more m).0 q) [
      | inl p ↦ Contains-append_left set (n ∷ []) m ((is.each m).1 p)
      | inr same ↦ subst (Contains (set ++ n ∷ [])) (sym same) (Contains-push set n)
    ],
  );
}

-- what stands before a place of a list in which numbers do not fall is not greater
pub not_greater : (xs : List ℕ) (i n m : ℕ) → IsNonDecreasing xs → slice_get xs i ≡ Some n → StandsBefore xs i m → m ≤ n
not_greater xs i n m up at (k, below, there) =
    let within = slice_get_within xs i n at in
    let less = up k i 0 (omega arith) within in
    let m_is = get_or_from_slice_get xs k m 0 there in
    let n_is = get_or_from_slice_get xs i n 0 at in
    omega (arith, less, m_is, n_is)

-- the set of what stands before a place of a list in which numbers do not fall, one more place
pub distinct_push : (xs set : List ℕ) (i n : ℕ) → slice_get xs i ≡ Some n → IsSetOf (StandsBefore xs i) set → All (λ m. m < n) set
    → IsSetOf (StandsBefore xs (i + 1)) (set ++ n ∷ [])
distinct_push xs set i n at is below =
    set_push (StandsBefore xs i) (StandsBefore xs (i + 1)) set n is
    (λ m stands. All-contains (λ k. k < n) set m below ((is.each m).1 stands)) (before_more xs i n at)

pub distinct_skip : (xs set : List ℕ) (i n : ℕ) → IsNonDecreasing xs → slice_get xs i ≡ Some n → IsSetOf (StandsBefore xs i) set
    → (All (λ m. m < n) set → ⊥) → IsSetOf (StandsBefore xs (i + 1)) set
distinct_skip xs set i n up at is not_below =
    let there : Contains set n = elim (contains_or_not set n) [
      | inl found ↦ found
      | inr missing ↦ absurd (not_below (all_from_members (λ m. m < n) set (λ m found. elim (cases_eq m n) [
        | inl same ↦ absurd (missing (subst (Contains set) same found))
        | inr other ↦ let le = not_greater xs i n m up at ((is.each m).0 found) in omega (arith, le, other)
      ])))
    ] in
    set_same (StandsBefore xs i) (StandsBefore xs (i + 1)) set is (λ m. (
      λ stands. (before_more xs i n at m).1 (inl stands),
      λ stands. elim ((before_more xs i n at m).0 stands) [
        | inl old ↦ old
        | inr same ↦ (is.each m).0
            (subst (Contains set) (sym same) there)
      ],
    ))

-- the set of what stands before a place and is not dropped, one more place

abbrev pub KeptBefore : List ℕ → List ℕ → ℕ → ℕ → Type 0
KeptBefore xs drop i n = StandsBefore xs i n × (Contains drop n → ⊥)

kept_less : (xs drop : List ℕ) (i n : ℕ) → IsIncreasing xs → slice_get xs i ≡ Some n → (m : ℕ) → KeptBefore xs drop i m → m < n
kept_less xs drop i n up at m ((k, below, there), undropped) =
    let within = slice_get_within xs i n at in
    let less = increasing_at xs k i up below within in
    let m_is = get_or_from_slice_get xs k m 0 there in
    let n_is = get_or_from_slice_get xs i n 0 at in
    omega (arith, less, m_is, n_is)

pub kept_push : (xs drop rest : List ℕ) (i n : ℕ) → IsIncreasing xs → slice_get xs i ≡ Some n → (Contains drop n → ⊥)
    → IsSetOf (KeptBefore xs drop i) rest → IsSetOf (KeptBefore xs drop (i + 1)) (rest ++ n ∷ [])
kept_push xs drop rest i n up at free is =
    set_push (KeptBefore xs drop i) (KeptBefore xs drop (i + 1)) rest n is
    (kept_less xs drop i n up at)
    (λ m. (
      λ (stands, undropped). elim ((before_more xs i n at m).0 stands) [ inl old ↦ inl (old, undropped) | inr same ↦ inr same ],
      λ either. elim either [
        | inl (old, undropped) ↦ ((before_more xs i n at m).1 (inl old), undropped)
        | inr same ↦ ((before_more xs i n at m).1 (inr same), subst (λ j. Contains drop j → ⊥) (sym same) free)
      ],
    ))

pub kept_skip : (xs drop rest : List ℕ) (i n : ℕ) → slice_get xs i ≡ Some n → Contains drop n → IsSetOf (KeptBefore xs drop i) rest
    → IsSetOf (KeptBefore xs drop (i + 1)) rest
kept_skip xs drop rest i n at dropped is =
    set_same (KeptBefore xs drop i) (KeptBefore xs drop (i + 1)) rest is (λ m. (
      λ (stands, undropped). ((before_more xs i n at m).1 (inl stands), undropped),
      λ (stands, undropped). elim ((before_more xs i n at m).0 stands) [
        | inl old ↦ (old, undropped)
        | inr same ↦ absurd (undropped (subst (Contains drop) (sym same) dropped))
      ],
    ))

pub kept_end : (xs drop rest : List ℕ) (i : ℕ) → length xs ≤ i → IsSetOf (KeptBefore xs drop i) rest → IsSetOf (IsKept xs drop) rest
kept_end xs drop rest i past is =
    set_same (KeptBefore xs drop i) (IsKept xs drop) rest is
    (λ m. (
      λ (stands, undropped). ((before_all xs i past m).0 stands, undropped),
      λ (found, undropped).
          ((before_all xs i past m).1 found, undropped),
    ))

-- the set of a list in another order
pub set_sorted : (xs ys set : List ℕ) → IsPermutation xs ys → IsSetOf (Contains ys) set → IsSetOf (Contains xs) set
set_sorted xs ys set moved is =
    set_same (Contains ys) (Contains xs) set is
    (λ n. (Contains-permutation ys xs n (IsPermutation-sym xs ys moved), Contains-permutation xs ys n moved))

pub kept_above : (xs drop rest : List ℕ) (i n : ℕ) → IsIncreasing xs → slice_get xs i ≡ Some n → IsSetOf (KeptBefore xs drop i) rest
    → All (λ m. m < n) rest
kept_above xs drop rest i n up at is = all_from_members (λ m. m < n) rest (λ m found. kept_less xs drop i n up at m ((is.each m).0 found))

-- whether a number is above the last one of an increasing list, and so above all
pub above_last : (set : List ℕ) (last n : ℕ) → IsIncreasing set → slice_get set (length set - 1) ≡ Some last
    → last < n ↔ All (λ m. m < n) set
above_last set last n up at = (
  λ less. all_from_members (λ m. m < n) set (λ m found.
      let there = place_of set m found in
      let within = slice_get_within set there.0 m there.1 in
      let end = slice_get_within set (length set - 1) last at in
      let m_is = get_or_from_slice_get set there.0 m 0 there.1 in
      let last_is = get_or_from_slice_get set (length set - 1) last 0 at in
      elim (cases_lt there.0 (length set - 1)) [
        | inl before ↦ let below = increasing_at set there.0 (length set - 1) up before end in omega (arith, below, m_is, last_is, less)
        | inr not_before ↦
            let same : there.0 ≡ length set - 1 = omega arith in
            let one : m ≡ last = some_one there.1 (ap (slice_get set) same ∙ at) in
            omega (arith, one, less)
      ]),
  λ all. All-contains (λ m. m < n) set last all (contains_at set (length set - 1) last at),
)

pub ok_sorted : {E : Type 0} (xs ys : List ℕ) (r : Result (List ℕ) E) → IsPermutation xs ys → IfOk r (IsSetOf (Contains ys))
    → IfOk r (IsSetOf (Contains xs))
ok_sorted xs ys (Ok set) moved is = set_sorted xs ys set moved is
ok_sorted xs ys (Err e) moved is = tt

-- increasing lists with the same members are one

rest_increasing : (n : ℕ) (ns : List ℕ) → IsIncreasing (n ∷ ns) → IsIncreasing ns
rest_increasing n [] up = tt
rest_increasing n (m ∷ ns) up = up.1

head_below : (n m : ℕ) (ns : List ℕ) → IsIncreasing (n ∷ ns) → Contains ns m → n < m
head_below n m ns up found =
    let at = place_of ns m found in
    let within = slice_get_within ns at.0 m at.1 in
    let is : get_or ns at.0 0 ≡ m = get_or_from_slice_get ns at.0 m 0 at.1 in
    let less : n < get_or ns at.0 0 = increasing_at (n ∷ ns) 0 (suc at.0) up (omega arith) (omega arith) in
    omega (arith, less, is)

pub increasing_one : (xs ys : List ℕ) → IsIncreasing xs → IsIncreasing ys → ((n : ℕ) → Contains xs n → Contains ys n)
    → ((n : ℕ) → Contains ys n → Contains xs n) → xs ≡ ys
increasing_one [] [] up also into back = refl
increasing_one [] (y ∷ ys) up also into back = absurd (none_there y (back y (at_head ys y)))
increasing_one (x ∷ xs) [] up also into back = absurd (none_there x (into x (at_head xs x)))
increasing_one (x ∷ xs) (y ∷ ys) up also into back =
    let same : x ≡ y = elim (head_or_behind ys y x (into x (at_head xs x))) [
      | inl is ↦ sym is
      | inr later ↦ elim (head_or_behind xs x y (back y (at_head ys y))) [
        | inl is ↦ is
        | inr after ↦ let less = head_below y x ys also later in let more = head_below x y xs up after in absurd (omega (arith, less, more))
      ]
    ] in
    let rest : xs ≡ ys = increasing_one xs ys (rest_increasing x xs up) (rest_increasing y ys also)
    (λ n found. elim (head_or_behind ys y n (into n (behind xs x n found))) [
      | inl is ↦ let less = head_below x n xs up found in absurd (omega (arith, less, same, is))
      | inr later ↦ later
    ])
    (λ n found. elim (head_or_behind xs x n (back n (behind ys y n found))) [
      | inl is ↦ let less = head_below y n ys also found in absurd (omega (arith, less, same, is))
      | inr later ↦ later
    ]) in
    cc (same, rest)

pub set_one : (P : ℕ → Type 0) (xs ys : List ℕ) → IsSetOf P xs → IsSetOf P ys → xs ≡ ys
set_one P xs ys is also =
    increasing_one xs ys is.increasing also.increasing (λ n found. (also.each n).1 ((is.each n).0 found))
    (λ n found. (is.each n).1 ((also.each n).0 found))
