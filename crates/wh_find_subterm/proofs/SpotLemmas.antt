-- The choices for the pairs of a set, and their cases.
use Rattle.std.proofs.Common.{◌≡◌, ℕ, zero, suc, ◌+◌, ◌<◌, inl, inr, List, [], ◌∷◌, Some, nat_eq, slice_get, refl, sym, ap, subst, ◌∙◌, arith}
use Rattle.std.specs.List.{range_with_len}
use Rattle.std.proofs.lemmas.Bool.{cond-true, cond-false, cases_eq, eq-eqb, ne_eqb}
use Rattle.wh_pairs.specs.PairData.{PairData}
use Rattle.wh_find_subterm.specs.declared.rows.Row.{Row}
use Rattle.wh_find_subterm.specs.declared.cases.Case.{Case}
use Rattle.wh_find_subterm.specs.Rows.{row_of}
use Rattle.wh_find_subterm.specs.Cases.{AreCases, IsCase, Spot, pair_at, spot, spots, spots_alike, spots_apart, spots_beside, spots_of}
use Rattle.wh_find_subterm.proofs.Members.{In, in_left, in_right, in_either, in_map, in_map_from, in_flat, in_flat_from, in_range, in_range_from}

-- a choice of a pair: places below the numbers of arguments, and one place where the symbols are one
pub record IsChoice (a : PairData) (l r : Row) (i j : ℕ) : Type 0 where
  pub left : i < l.need
  pub right : j < r.need
  pub one : a.left_fun ≡ a.right_fun → i ≡ j

alike_in : (a : PairData) (l r : Row) (own i j : ℕ) → l ≡ r → IsChoice a l r i j → a.left_fun ≡ a.right_fun → In (spot a l r own i j) (spots_alike a l own)
alike_in a l r own i j row choice same =
    let here = in_map (λ k. spot a l l own k k) (range_with_len 0 l.need) (0 + i) (in_range 0 l.need i choice.left) in
    let at : 0 + i ≡ i = omega arith in
    let is : spot a l l own (0 + i) (0 + i) ≡ spot a l r own i j = ap (λ k. spot a l l own k k) at ∙ ap (λ (s : Row). spot a l s own i i) row ∙ ap (λ k. spot a l r own i k) (choice.one same) in
    subst (λ s. In s (spots_alike a l own)) is here

apart_in : (a : PairData) (l r : Row) (own i j : ℕ) → IsChoice a l r i j → In (spot a l r own i j) (spots_apart a l r own)
apart_in a l r own i j choice =
    let left : 0 + i ≡ i = omega arith in
    let right : 0 + j ≡ j = omega arith in
    let outer = subst (λ k. In k (range_with_len 0 l.need)) left (in_range 0 l.need i choice.left) in
    let inner = subst (λ k. In k (range_with_len 0 r.need)) right (in_range 0 r.need j choice.right) in
    in_flat (λ k. spots_beside a l r own k) (range_with_len 0 l.need) i (spot a l r own i j) outer (in_map (λ k. spot a l r own i k) (range_with_len 0 r.need) j inner)

pair_spot_in : (a : PairData) (l r : Row) (own i j : ℕ) → (a.left_fun ≡ a.right_fun → l ≡ r) → IsChoice a l r i j → In (spot a l r own i j) (spots_of a l r own)
pair_spot_in a l r own i j row choice = elim (cases_eq a.left_fun a.right_fun) [
  | inl same ↦ subst (In (spot a l r own i j)) (sym (cond-true (nat_eq a.left_fun a.right_fun) (spots_alike a l own) (spots_apart a l r own) (eq-eqb a.left_fun a.right_fun same))) (alike_in a l r own i j (row same) choice same)
  | inr other ↦ subst (In (spot a l r own i j)) (sym (cond-false (nat_eq a.left_fun a.right_fun) (spots_alike a l own) (spots_apart a l r own) (ne_eqb a.left_fun a.right_fun other))) (apart_in a l r own i j choice)
]

-- where a choice of a pair comes from
pub record ChoiceAt (a : PairData) (l r : Row) (own : ℕ) (s : Spot) : Type 0 where
  pub left : ℕ
  pub right : ℕ
  pub choice : IsChoice a l r left right
  pub is : s ≡ spot a l r own left right

alike_from : (a : PairData) (l r : Row) (own : ℕ) (s : Spot) → l ≡ r → In s (spots_alike a l own) → ChoiceAt a l r own s
alike_from a l r own s row is =
    let from = in_map_from (λ k. spot a l l own k k) (range_with_len 0 l.need) s is in
    let at = in_range_from 0 l.need from.0 from.1 in
    let less : from.0 < l.need = omega (arith, at.1, at.2) in
    record {
      left = from.0;
      right = from.0;
      choice = record { left = less; right = subst (λ (t : Row). from.0 < t.need) row less; one = λ _. refl };
      is = sym from.2 ∙ ap (λ (t : Row). spot a l t own from.0 from.0) row;
    }

apart_from : (a : PairData) (l r : Row) (own : ℕ) (s : Spot) → (a.left_fun ≡ a.right_fun → ⊥) → In s (spots_apart a l r own) → ChoiceAt a l r own s
apart_from a l r own s other is =
    let outer = in_flat_from (λ k. spots_beside a l r own k) (range_with_len 0 l.need) s is in
    let inner = in_map_from (λ k. spot a l r own outer.0 k) (range_with_len 0 r.need) s outer.2 in
    let at = in_range_from 0 l.need outer.0 outer.1 in
    let beside = in_range_from 0 r.need inner.0 inner.1 in
    record {
      left = outer.0;
      right = inner.0;
      choice = record { left = omega (arith, at.1, at.2); right = omega (arith, beside.1, beside.2); one = λ same. absurd (other same) };
      is = sym inner.2;
    }

pair_spot_from : (a : PairData) (l r : Row) (own : ℕ) (s : Spot) → (a.left_fun ≡ a.right_fun → l ≡ r) → In s (spots_of a l r own) → ChoiceAt a l r own s
pair_spot_from a l r own s row is = elim (cases_eq a.left_fun a.right_fun) [
  | inl same ↦ alike_from a l r own s (row same) (subst (In s) (cond-true (nat_eq a.left_fun a.right_fun) (spots_alike a l own) (spots_apart a l r own) (eq-eqb a.left_fun a.right_fun same)) is)
  | inr other ↦ apart_from a l r own s other (subst (In s) (cond-false (nat_eq a.left_fun a.right_fun) (spots_alike a l own) (spots_apart a l r own) (ne_eqb a.left_fun a.right_fun other)) is)
]

-- of a set of pairs

abbrev pub left_row : List Row → List PairData → ℕ → Row
left_row rows pairs n = row_of rows (pair_at pairs n).left_fun

abbrev pub right_row : List Row → List PairData → ℕ → Row
right_row rows pairs n = row_of rows (pair_at pairs n).right_fun

none_at : (k n : ℕ) → slice_get [] k ≡ Some n → ⊥
none_at zero n at = cc
none_at (suc k) n at = cc

first_at : (m : ℕ) (set : List ℕ) (n : ℕ) → slice_get (m ∷ set) zero ≡ Some n → m ≡ n
first_at m set n at = cc

next_at : (m : ℕ) (set : List ℕ) (k n : ℕ) → slice_get (m ∷ set) (suc k) ≡ Some n → slice_get set k ≡ Some n
next_at m set k n at = at

pub spot_in : (rows : List Row) (pairs : List PairData) (own : ℕ) (set : List ℕ) (k n i j : ℕ) → slice_get set k ≡ Some n
    → IsChoice (pair_at pairs n) (left_row rows pairs n) (right_row rows pairs n) i j
    → In (spot (pair_at pairs n) (left_row rows pairs n) (right_row rows pairs n) (own + k) i j) (spots rows pairs own set)
spot_in rows pairs own [] k n i j at choice = absurd (none_at k n at)
spot_in rows pairs own (m ∷ set) zero n i j at choice =
    let same : m ≡ n = first_at m set n at in
    let a = pair_at pairs m in
    let l = left_row rows pairs m in
    let r = right_row rows pairs m in
    let moved = subst (λ q. IsChoice (pair_at pairs q) (left_row rows pairs q) (right_row rows pairs q) i j) (sym same) choice in
    let here = pair_spot_in a l r own i j (λ one. ap (row_of rows) one) moved in
    let sum : own ≡ own + zero = omega arith in
    let whole : spot a l r own i j ≡ spot (pair_at pairs n) (left_row rows pairs n) (right_row rows pairs n) (own + zero) i j =
    ap (λ o. spot a l r o i j) sum ∙ ap (λ q. spot (pair_at pairs q) (left_row rows pairs q) (right_row rows pairs q) (own + zero) i j) same in
    in_left (spots_of a l r own) (spots rows pairs (own + 1) set) (spot (pair_at pairs n) (left_row rows pairs n) (right_row rows pairs n) (own + zero) i j) (subst (λ s. In s (spots_of a l r own)) whole here)
spot_in rows pairs own (m ∷ set) (suc k) n i j at choice =
    let a = pair_at pairs m in
    let l = left_row rows pairs m in
    let r = right_row rows pairs m in
    let later = spot_in rows pairs (own + 1) set k n i j (next_at m set k n at) choice in
    let sum : own + 1 + k ≡ own + suc k = omega arith in
    in_right (spots_of a l r own) (spots rows pairs (own + 1) set) (spot (pair_at pairs n) (left_row rows pairs n) (right_row rows pairs n) (own + suc k) i j)
    (subst (λ o. In (spot (pair_at pairs n) (left_row rows pairs n) (right_row rows pairs n) o i j) (spots rows pairs (own + 1) set)) sum later)

pub record SpotAt (rows : List Row) (pairs : List PairData) (own : ℕ) (set : List ℕ) (s : Spot) : Type 0 where
  pub place : ℕ
  pub number : ℕ
  pub at : slice_get set place ≡ Some number
  pub from : ChoiceAt (pair_at pairs number) (left_row rows pairs number) (right_row rows pairs number) (own + place) s

pub spot_from : (rows : List Row) (pairs : List PairData) (own : ℕ) (set : List ℕ) (s : Spot) → In s (spots rows pairs own set) → SpotAt rows pairs own set s
spot_from rows pairs own [] s is = absurd is
spot_from rows pairs own (m ∷ set) s is = elim (in_either (spots_of (pair_at pairs m) (left_row rows pairs m) (right_row rows pairs m) own) (spots rows pairs (own + 1) set) s is) [
  | inl here ↦
      let sum : own ≡ own + 0 = omega arith in
      let from = pair_spot_from (pair_at pairs m) (left_row rows pairs m) (right_row rows pairs m) own s (λ one. ap (row_of rows) one) here in
      record { place = 0; number = m; at = refl; from = subst (λ o. ChoiceAt (pair_at pairs m) (left_row rows pairs m) (right_row rows pairs m) o s) sum from }
  | inr later ↦
      let from = spot_from rows pairs (own + 1) set s later in
      let sum : own + 1 + from.place ≡ own + suc from.place = omega arith in
      record {
        place = suc from.place;
        number = from.number;
        at = from.at;
        from = subst (λ o. ChoiceAt (pair_at pairs from.number) (left_row rows pairs from.number) (right_row rows pairs from.number) o s) sum from.from;
      }
]

-- a choice has its case, and a case its choice

pub case_of : (ss : List Spot) (cs : List Case) (s : Spot) → AreCases ss cs → In s ss → (c : Case) × In c cs × IsCase s c
case_of [] cs s are is = absurd is
case_of (t ∷ ss) [] s are is = absurd are
case_of (t ∷ ss) (c ∷ cs) s are (inl here) = (c, inl refl, subst (λ u. IsCase u c) here are.0)
case_of (t ∷ ss) (c ∷ cs) s are (inr later) = let from = case_of ss cs s are.1 later in (from.0, inr from.1, from.2)

pub spot_of : (ss : List Spot) (cs : List Case) (c : Case) → AreCases ss cs → In c cs → (s : Spot) × In s ss × IsCase s c
spot_of ss [] c are is = absurd is
spot_of [] (d ∷ cs) c are is = absurd are
spot_of (s ∷ ss) (d ∷ cs) c are (inl here) = (s, inl refl, subst (IsCase s) here are.0)
spot_of (s ∷ ss) (d ∷ cs) c are (inr later) = let from = spot_of ss cs c are.1 later in (from.0, inr from.1, from.2)
