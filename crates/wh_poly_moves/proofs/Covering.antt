-- A flow that leaves nothing wanted covers, strictly where any moves do: only the constant gives to the constant, and no more than that wants.
use Rattle.std.proofs.Common.{◌≡◌, ℕ, zero, suc, ◌+◌, ◌*◌, ◌^◌, ◌<◌, ◌≤◌, nat_lt, inl, inr, cond, Bool, true, false, Some, List, [], ◌∷◌, length, get_or, refl, ap, sym, subst, ◌∙◌, arith, slice_get, Less}
use Rattle.std.specs.List.{All}
use Rattle.std.proofs.lemmas.Option.{same_Some}
use Rattle.std.proofs.lemmas.List.Elements.{All-weaker, All-head, All-tail, All-filter, All-contains, filter_passes, All-cons, All-nil}
use Rattle.std.proofs.lemmas.Bool.{cases_eq}
use Rattle.wh_poly.specs.Polynomials.{Polynomial, zero_poly, plus, Factors, no_factors, times, Arguments, Sorted, compare_factors}
use Rattle.wh_hopoly.specs.Moves.{Transfer, Good, MonomialAt, FactorsAtLeast, units_at, given_by, taken_by, IsCover}
use Rattle.wh_poly.specs.declared.polynomial.Monomial.{Monomial, out-Monomial}
use Rattle.wh_poly.specs.declared.polynomial.Poly.{Poly}
use Rattle.wh_poly.specs.Erase.{atoms, sum_of, poly, monomials}
use Rattle.wh_hopoly.specs.Erase.{transfers}
use Rattle.wh_poly.proofs.Lists.{poly_is}
use Rattle.wh_poly.proofs.SumLaws.{normal_sorted}
use mathlib.Core.Path.{subst₂}
use Rattle.wh_polycheck.specs.CoverFaults.{IsNormal}
use Rattle.wh_poly_moves.specs.declared.flow.Flow.{Flow}
use Rattle.wh_poly_moves.specs.Found.{AreApart, AreCovering, NoneCovers}
use Rattle.wh_poly_moves.specs.Flows.{IsFlow, AreDistinct, NoneBetween, positives, units}
use Rattle.wh_poly_moves.proofs.Units.{share, units_first}
use Rattle.wh_polycheck.proofs.AmountWalk.{if_other, if_same}
use Rattle.wh_poly_moves.proofs.Sums.{sum_below, total, sum_at_most, sum_by_moves}
use Rattle.wh_poly_moves.proofs.FlowSteps.{can_give_from, can_give_to}
use Rattle.wh_poly_moves.proofs.Cut.{units_here, good_between, cover_good}
use Rattle.wh_polycheck.proofs.GoodWalk.{one_monomial, monomial_within}

-- units at one place that are all at another, or nowhere
units_within : (f g : Transfer → ℕ) (i j : ℕ) (ms : List Transfer) → All (λ m. f m ≡ i → g m ≡ j) ms → units_at f i ms ≤ units_at g j ms
units_within f g i j [] h = omega arith
units_within f g i j (m ∷ ms) h =
    let a = units_first f i m ms in let b = units_first g j m ms in let c = units_within f g i j ms (All-tail (λ m. f m ≡ i → g m ≡ j) m ms h) in
    elim (cases_eq (f m) i) [
      | inl same ↦ let x = if_same (f m) i m.amount 0 same in let y = if_same (g m) j m.amount 0 (All-head (λ m. f m ≡ i → g m ≡ j) m ms h same) in omega (arith, a, b, c, x, y)
      | inr other ↦ let x = if_other (f m) i m.amount 0 other in omega (arith, a, b, c, x)
    ]

units_nowhere : (f : Transfer → ℕ) (i : ℕ) (ms : List Transfer) → All (λ m. f m ≡ i → ⊥) ms → units_at f i ms ≡ 0
units_nowhere f i [] h = refl
units_nowhere f i (m ∷ ms) h =
    let a = units_first f i m ms in let c = units_nowhere f i ms (All-tail (λ m. f m ≡ i → ⊥) m ms h) in
    let x = if_other (f m) i m.amount 0 (All-head (λ m. f m ≡ i → ⊥) m ms h) in omega (arith, a, c, x)

-- the constant is the first monomial
after_none : (us : Factors) → compare_factors us no_factors ≡ Less → ⊥
after_none no_factors e = cc
after_none (times x ps us) e = cc

constant_first : (p : Polynomial) (i c : ℕ) → Sorted p → MonomialAt p i c no_factors → i ≡ 0
constant_first zero_poly i c s m = absurd m
constant_first (plus d vs q) zero c s m = refl
constant_first (plus d vs zero_poly) (suc i) c s m = absurd m
constant_first (plus d vs (plus e ws r)) (suc i) c s m =
    let z = constant_first (plus e ws r) i c s.1 m in
    let n : MonomialAt (plus e ws r) 0 c no_factors = subst (λ i. MonomialAt (plus e ws r) i c no_factors) z m in
    absurd (after_none vs (subst (λ ws. compare_factors vs ws ≡ Less) n.1 s.0))

none_gives_none : (us : Factors) → FactorsAtLeast no_factors us → us ≡ no_factors
none_gives_none no_factors f = refl
none_gives_none (times x ps us) f = absurd f

none_from_none : (us : Factors) → FactorsAtLeast us no_factors → us ≡ no_factors
none_from_none no_factors f = refl
none_from_none (times x ps us) f = absurd f

-- from the constant only to the constant, and only from there
constant_taker : (p q : Polynomial) (c : ℕ) (m : Transfer) → MonomialAt p 0 c no_factors → (g : Good p q m) → m.from ≡ 0 → MonomialAt q m.to g.taken no_factors
constant_taker p q c m first g e =
    let source = subst (λ i. MonomialAt p i g.given g.giver) e g.source in
    let none = (one_monomial p 0 g.given c g.giver no_factors source first).1 in
    subst (MonomialAt q m.to g.taken) (none_gives_none g.taker (subst (λ us. FactorsAtLeast us g.taker) none g.fits)) g.target

constant_giver : (p q : Polynomial) (d : ℕ) (m : Transfer) → MonomialAt q 0 d no_factors → (g : Good p q m) → m.to ≡ 0 → MonomialAt p m.from g.given no_factors
constant_giver p q d m first g e =
    let target = subst (λ j. MonomialAt q j g.taken g.taker) e g.target in
    let none = (one_monomial q 0 g.taken d g.taker no_factors target first).1 in
    subst (MonomialAt p m.from g.given) (none_from_none g.giver (subst (FactorsAtLeast g.giver) none g.fits)) g.source

-- what is left of the constant
leaves_as_much : (left right : List Monomial) (ms os : List Transfer) (c : ℕ) → Sorted (sum_of left) → Sorted (sum_of right) → MonomialAt (sum_of left) 0 c no_factors
    → All (Good (sum_of left) (sum_of right)) ms → taken_by 0 ms ≤ units right 0 → IsCover (sum_of left) (sum_of right) os → given_by 0 os < c → given_by 0 ms < c
leaves_as_much left right ms os c sl sr first good most cover less = go right refl
  where
    to_first : given_by 0 ms ≤ taken_by 0 ms
    to_first = units_within (λ m. m.from) (λ m. m.to) 0 0 ms (All-weaker (Good (sum_of left) (sum_of right)) (λ m. m.from ≡ 0 → m.to ≡ 0)
        (λ m g e. constant_first (sum_of right) m.to g.taken sr (constant_taker (sum_of left) (sum_of right) c m first g e)) ms good)

    by_first : (d : ℕ) → MonomialAt (sum_of right) 0 d no_factors → given_by 0 ms < c
    by_first d m =
        let a = units_here right 0 d no_factors m in let b = cover.covered 0 d no_factors m in
        let e = units_within (λ m. m.to) (λ m. m.from) 0 0 os (All-weaker (Good (sum_of left) (sum_of right)) (λ m. m.to ≡ 0 → m.from ≡ 0)
        (λ o g e. constant_first (sum_of left) o.from g.given sl (constant_giver (sum_of left) (sum_of right) d o m g e)) os (cover_good left right os cover)) in
        let t = to_first in omega (arith, a, b, e, t, most, less)

    go : (ys : List Monomial) → right ≡ ys → given_by 0 ms < c
    go [] e = let a = ap (λ ys. units ys 0) e in let t = to_first in omega (arith, a, t, most, less)
    go (y ∷ ys) e = by_factors (atoms (out-Monomial y).atoms) refl
      where
        by_factors : (us : Factors) → atoms (out-Monomial y).atoms ≡ us → given_by 0 ms < c
        by_factors no_factors f = by_first (out-Monomial y).coefficient (subst (λ ys. MonomialAt (sum_of ys) 0 (out-Monomial y).coefficient no_factors) (sym e) (refl, f))
        by_factors (times x ps us) f =
            let none = units_nowhere (λ m. m.from) 0 ms (All-weaker (Good (sum_of left) (sum_of right)) (λ m. m.from ≡ 0 → ⊥)
            (λ m g z.
            let t = constant_taker (sum_of left) (sum_of right) c m first g z in
            let at = subst (λ j. MonomialAt (sum_of right) j g.taken no_factors) (constant_first (sum_of right) m.to g.taken sr t) t in
            let here : MonomialAt (sum_of (y ∷ ys)) 0 g.taken no_factors = subst (λ ys. MonomialAt (sum_of ys) 0 g.taken no_factors) e at in
            not_none x ps us (sym f ∙ here.1)) ms good) in
            omega (arith, none, less)
          where
            not_none : (x : ℕ) (ps : Arguments) (us : Factors) → times x ps us ≡ no_factors → ⊥
            not_none x ps us e = cc

-- moves that bring nothing are no matter
units_positive : (place : Transfer → ℕ) (i : ℕ) (ms : List Transfer) → units_at place i (positives ms) ≡ units_at place i ms
units_positive place i [] = refl
units_positive place i (m ∷ ms) = go (nat_lt 0 m.amount) refl (units_positive place i ms)
  where
    go : (b : Bool) → nat_lt 0 m.amount ≡ b → units_at place i (positives ms) ≡ units_at place i ms
        → units_at place i (cond b (m ∷ positives ms) (positives ms)) ≡ units_at place i (m ∷ ms)
    go true e c = let a = units_first place i m (positives ms) in let b = units_first place i m ms in omega (arith, a, b, c)
    go false e c =
        let none : m.amount ≤ 0 = grind (arith, e) in let b = units_first place i m ms in
        let d : share place i m ≤ 0 = elim (cases_eq (place m) i) [
          | inl same ↦ let x = if_same (place m) i m.amount 0 same in omega (arith, x, none)
          | inr other ↦ let x = if_other (place m) i m.amount 0 other in omega (arith, x)
        ] in omega (arith, b, c, d)

distinct_positives : (ms : List Transfer) → AreDistinct ms → AreDistinct (positives ms)
distinct_positives [] d = tt
distinct_positives (m ∷ ms) d = go (nat_lt 0 m.amount) (distinct_positives ms d.1)
  where
    go : (b : Bool) → AreDistinct (positives ms) → AreDistinct (cond b (m ∷ positives ms) (positives ms))
    go true e = (All-filter (λ m. nat_lt 0 m.amount) (λ n. n.from ≡ m.from → n.to ≡ m.to → ⊥) ms d.0, e)
    go false e = e

all_positive : (ms : List Transfer) → All (λ m. 1 ≤ m.amount) (positives ms)
all_positive ms = All-weaker (λ m. nat_lt 0 m.amount ≡ true) (λ m. 1 ≤ m.amount) (λ m e. let h : 0 < m.amount = grind (arith, e) in omega (arith, h)) (positives ms) (filter_passes (λ m. nat_lt 0 m.amount) ms)

-- places of different moves
not_behind : (i j : ℕ) (xs : List Transfer) (k : ℕ) (n : Transfer) → NoneBetween i j xs → slice_get xs k ≡ Some n → n.from ≡ i → n.to ≡ j → ⊥
not_behind i j [] k n none e from to = cc
not_behind i j (x ∷ xs) zero n none e from to =
    let same = same_Some x n e in All-head (λ m. m.from ≡ i → m.to ≡ j → ⊥) x xs none (ap (λ m. m.from) same ∙ from) (ap (λ m. m.to) same ∙ to)
not_behind i j (x ∷ xs) (suc k) n none e from to = not_behind i j xs k n (All-tail (λ m. m.from ≡ i → m.to ≡ j → ⊥) x xs none) e from to

are_apart : (ms : List Transfer) → AreDistinct ms → AreApart ms
are_apart [] d i j m n e f _ _ = cc
are_apart (x ∷ xs) d zero zero m n e f _ _ = refl
are_apart (x ∷ xs) d zero (suc j) m n e f from to =
    let same = same_Some x m e in absurd (not_behind x.from x.to xs j n d.0 f (sym from ∙ ap (λ m. m.from) (sym same)) (sym to ∙ ap (λ m. m.to) (sym same)))
are_apart (x ∷ xs) d (suc i) zero m n e f from to =
    let same = same_Some x n f in absurd (not_behind x.from x.to xs i m d.0 e (from ∙ ap (λ m. m.from) (sym same)) (to ∙ ap (λ m. m.to) (sym same)))
are_apart (x ∷ xs) d (suc i) (suc j) m n e f from to = ap suc (are_apart xs d.1 i j m n e f from to)

-- there are no more moves than pairs of monomials: each pair has a number, and has one move at most
number : Transfer → ℕ
number m = m.from * 65536 + m.to

ones : List Transfer → List Transfer
ones [] = []
ones (m ∷ ms) = record { from = number m; to = 0; amount = 1 } ∷ ones ms

every : ℕ → Bool
every i = true

total_ones : (ms : List Transfer) → total every (λ m. m.from) (ones ms) ≡ length ms
unfolding ones every
total_ones [] = refl
total_ones (m ∷ ms) = let a = total_ones ms in omega (arith, a)

ones_none : (i : ℕ) (ms : List Transfer) → All (λ m. number m ≡ i → ⊥) ms → units_at (λ m. m.from) i (ones ms) ≡ 0
unfolding ones
ones_none i [] h = refl
ones_none i (m ∷ ms) h =
    let a = units_first (λ m. m.from) i (record { from = number m; to = 0; amount = 1 }) (ones ms) in
    let b = ones_none i ms (All-tail (λ m. number m ≡ i → ⊥) m ms h) in
    let c = if_other (number m) i 1 0 (All-head (λ m. number m ≡ i → ⊥) m ms h) in omega (arith, a, b, c)

numbers_differ : (m n : Transfer) → m.to < 65536 → n.to < 65536 → (n.from ≡ m.from → n.to ≡ m.to → ⊥) → number n ≡ number m → ⊥
unfolding number
numbers_differ m n h k apart e = let from : n.from ≡ m.from = omega (arith, h, k, e) in apart from (omega (arith, e, from))

ones_one : (i : ℕ) (ms : List Transfer) → All (λ m. m.to < 65536) ms → AreDistinct ms → units_at (λ m. m.from) i (ones ms) ≤ 1
unfolding ones
ones_one i [] h d = omega arith
ones_one i (m ∷ ms) h d =
    let a = units_first (λ m. m.from) i (record { from = number m; to = 0; amount = 1 }) (ones ms) in
    elim (cases_eq (number m) i) [
      | inl same ↦
          let b = ones_none (number m) ms (λ k e b. numbers_differ m (get_or ms k e) (All-head (λ m. m.to < 65536) m ms h) (All-tail (λ m. m.to < 65536) m ms h k e b) (d.0 k e b)) in
          let c = if_same (number m) i 1 0 same in
          let e = ap (λ i. units_at (λ m. m.from) i (ones ms)) same in omega (arith, a, b, c, e)
      | inr other ↦ let b = ones_one i ms (All-tail (λ m. m.to < 65536) m ms h) d.1 in let c = if_other (number m) i 1 0 other in omega (arith, a, b, c)
    ]

sum_of_ones : (n : ℕ) → sum_below every (λ i. 1) n ≡ n
unfolding every
sum_of_ones zero = refl
sum_of_ones (suc n) = let a = sum_of_ones n in omega (arith, a)

numbers_below : (n : ℕ) (ms : List Transfer) → All (λ m. number m < n) ms → All (λ m. m.from < n) (ones ms)
unfolding ones
numbers_below n [] h = All-nil (λ m. m.from < n)
numbers_below n (m ∷ ms) h = All-cons (λ m. m.from < n) (record { from = number m; to = 0; amount = 1 }) (ones ms) (All-head (λ m. number m < n) m ms h)
    (numbers_below n ms (All-tail (λ m. number m < n) m ms h))

few_below : (n : ℕ) (ms : List Transfer) → All (λ m. m.to < 65536) ms → All (λ m. number m < n) ms → AreDistinct ms → length ms ≤ n
few_below n ms to small d =
    let a = sum_at_most every (λ i. units_at (λ m. m.from) i (ones ms)) (λ i. 1) n (λ i _. ones_one i ms to d) in
    let b = sum_by_moves every (λ m. m.from) n (ones ms) (numbers_below n ms small) in
    let c = total_ones ms in let e = sum_of_ones n in omega (arith, a, b, c, e)

few_moves : (ms : List Transfer) → All (λ m. m.from < 65536) ms → All (λ m. m.to < 65536) ms → AreDistinct ms → length ms ≤ 2 ^ 32
unfolding number
few_moves ms from to d = few_below (2 ^ 32) ms to (λ k e b. let x = from k e b in let y = to k e b in omega (arith, x, y)) d

-- the moves of a flow that leaves nothing wanted
pub covering : (left right : List Monomial) (flow : Flow) → length left ≤ 65536 → length right ≤ 65536 → Sorted (sum_of left) → Sorted (sum_of right)
    → IsFlow left right flow → ((j : ℕ) → j < length right → get_or flow.want.items j 0 ≡ 0)
    → AreCovering (sum_of left) (sum_of right) (positives (transfers flow.moves.items))
covering left right flow few_left few_right sl sr f full =
    let ms = transfers flow.moves.items in
    let good = All-filter (λ m. nat_lt 0 m.amount) (Good (sum_of left) (sum_of right)) ms f.good in
    let taken : taken_by 0 (positives ms) ≤ units right 0 = let a = units_positive (λ m. m.to) 0 ms in let b = f.taken 0 in omega (arith, a, b) in record {
      cover = record {
        good = λ m c. All-contains (Good (sum_of left) (sum_of right)) (positives ms) m good c;
        not_over_spent = λ i c us m. let a = units_positive (λ m. m.from) i ms in let b = f.given i in let e = units_here left i c us m in omega (arith, a, b, e);
        covered = λ j c us m. let a = units_positive (λ m. m.to) j ms in let b = f.taken j in let e = units_here right j c us m in let z = full j (monomial_within right j c us m) in omega (arith, a, b, e, z);
      };
      strict = λ other s. record {
        cover = record {
          good = λ m c. All-contains (Good (sum_of left) (sum_of right)) (positives ms) m good c;
          not_over_spent = λ i c us m. let a = units_positive (λ m. m.from) i ms in let b = f.given i in let e = units_here left i c us m in omega (arith, a, b, e);
          covered = λ j c us m. let a = units_positive (λ m. m.to) j ms in let b = f.taken j in let e = units_here right j c us m in let z = full j (monomial_within right j c us m) in omega (arith, a, b, e, z);
        };
        constant = s.constant;
        first = s.first;
        left_over = leaves_as_much left right (positives ms) other s.constant sl sr s.first good taken s.cover s.left_over;
      };
      positive = all_positive ms;
      apart = are_apart (positives ms) (distinct_positives ms f.distinct);
      few = few_moves (positives ms)
          (All-weaker (Good (sum_of left) (sum_of right)) (λ m. m.from < 65536) (λ m g. let h = can_give_from left right m.from m.to (good_between left right m g) in omega (arith, h, few_left)) (positives ms) good)
          (All-weaker (Good (sum_of left) (sum_of right)) (λ m. m.to < 65536) (λ m g. let h = can_give_to left right m.from m.to (good_between left right m g) in omega (arith, h, few_right)) (positives ms) good)
          (distinct_positives ms f.distinct);
    }

-- the same of the program's polynomials
pub normal_list : (p : Poly) (xs : List Monomial) → xs ≡ monomials p → IsNormal (poly p) → IsNormal (sum_of xs)
normal_list p xs e n = subst IsNormal (poly_is p ∙ ap sum_of (sym e)) n

pub sorted_list : (xs : List Monomial) → IsNormal (sum_of xs) → Sorted (sum_of xs)
sorted_list xs n = normal_sorted n.0 (sum_of xs) n.1

pub none_covers_poly : (p q : Poly) (xs ys : List Monomial) → xs ≡ monomials p → ys ≡ monomials q → NoneCovers (sum_of xs) (sum_of ys) → NoneCovers (poly p) (poly q)
none_covers_poly p q xs ys e k n ms c = n ms (subst₂ (λ a b. IsCover a b ms) (poly_is p ∙ ap sum_of (sym e)) (poly_is q ∙ ap sum_of (sym k)) c)

pub covering_poly : (p q : Poly) (xs ys : List Monomial) (ms : List Transfer) → xs ≡ monomials p → ys ≡ monomials q → AreCovering (sum_of xs) (sum_of ys) ms → AreCovering (poly p) (poly q) ms
covering_poly p q xs ys ms e k c = subst₂ (λ a b. AreCovering a b ms) (sym (poly_is p ∙ ap sum_of (sym e))) (sym (poly_is q ∙ ap sum_of (sym k))) c
