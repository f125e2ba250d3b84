-- The sums of several monomials at a time, while the moves are walked over.
use Rattle.std.proofs.Common.{◌≡◌, ◌↔◌, ℕ, zero, suc, ◌+◌, ◌-◌, ◌<◌, ◌≤◌, ◌==◌, inl, inr, Bool, true, false, IsTrue, nat_lt, if◌then◌else◌, List, [], ◌∷◌, length, drop, get_or, set, refl, ap, sym, subst, ◌∙◌, arith}
use Rattle.std.proofs.Math.Seq.{drop-cons}
use Rattle.std.proofs.Math.ListN.{drop_of_length-le}
use Rattle.std.proofs.lemmas.List.{get_or-set_same, get_or-set_other, length-set}
use Rattle.std.proofs.lemmas.Bool.{cases_lt, cases_eq}
use Rattle.wh_poly.specs.Polynomials.{Factors, no_factors, times}
use Rattle.wh_hopoly.specs.Moves.{Transfer, MonomialAt, units_at, given_by, taken_by, NotOverSpent, Covered}
use Rattle.wh_poly.specs.declared.polynomial.Monomial.{Monomial, out-Monomial}
use Rattle.wh_hopoly.specs.declared.expression.Move.{Move}
use Rattle.wh_poly.specs.declared.polynomial.Atom.{Atom}
use Rattle.wh_poly.specs.Erase.{atoms, factors, sum_of, product_of}
use Rattle.wh_hopoly.specs.Erase.{transfer, transfers}
use Rattle.wh_poly.proofs.Lists.{atoms_is}
use Rattle.wh_polycheck.specs.CoverFaults.{IsOverSpent, IsNotCovered, LeavesConstant}
use Rattle.wh_polycheck.proofs.GoodWalk.{monomial_here, monomial_within, one_monomial}

-- the units of the moves from t on, by the first of them
next_units : (place : Transfer → ℕ) (i : ℕ) (xs : List Move) (t : ℕ) (m : Move) → t < length xs → m ≡ get_or xs t m
    → units_at place i (transfers (drop t xs))
    ≡ (if place (transfer m) == i then m.amount + units_at place i (transfers (drop (t + 1) xs)) else units_at place i (transfers (drop (t + 1) xs)))
next_units place i xs t m h e = ap (λ ys. units_at place i (transfers ys)) (drop-cons xs t m h)
    ∙ (let z : suc t ≡ t + 1 = omega arith in subst (λ n. units_at place i (transfers (get_or xs t m ∷ drop (suc t) xs)) ≡ (if place (transfer m) == i then m.amount + units_at place i (transfers (drop n xs)) else units_at place i (transfers (drop n xs)))) z
    (ap (λ n. units_at place i (transfers (n ∷ drop (suc t) xs))) (sym e)))

pub if_same : (x i a b : ℕ) → x ≡ i → (if x == i then a else b) ≡ a
if_same x i a b e = grind (arith, e)

pub if_other : (x i a b : ℕ) → (x ≡ i → ⊥) → (if x == i then a else b) ≡ b
if_other x i a b e = grind (arith, e)

units_here : (place : Transfer → ℕ) (i : ℕ) (xs : List Move) (t : ℕ) (m : Move) → t < length xs → m ≡ get_or xs t m → place (transfer m) ≡ i
    → units_at place i (transfers (drop t xs)) ≡ m.amount + units_at place i (transfers (drop (t + 1) xs))
units_here place i xs t m h e k = next_units place i xs t m h e ∙ if_same (place (transfer m)) i _ _ k

units_elsewhere : (place : Transfer → ℕ) (i : ℕ) (xs : List Move) (t : ℕ) (m : Move) → t < length xs → m ≡ get_or xs t m
    → (place (transfer m) ≡ i → ⊥)
    → units_at place i (transfers (drop t xs)) ≡ units_at place i (transfers (drop (t + 1) xs))
units_elsewhere place i xs t m h e k = next_units place i xs t m h e ∙ if_other (place (transfer m)) i _ _ k

units_ended : (place : Transfer → ℕ) (i : ℕ) (xs : List Move) (t : ℕ) → length xs ≤ t → units_at place i (transfers (drop t xs)) ≡ 0
units_ended place i xs t h = ap (λ ys. units_at place i (transfers ys)) (drop_of_length-le xs h)

-- while units are taken from the first sums: below `least` each sum is what is left of it, and at `least` it was too little
pub record Taken (old new : List ℕ) (base width least t : ℕ) (xs : List Move) : Type 0 where
  pub within : least ≤ width
  pub room : length new ≡ length old
  pub rest : (k : ℕ) → k < least → given_by (base + k) (transfers xs) + get_or new k 0 ≡ get_or old k 0 + given_by (base + k) (transfers (drop t xs))
  pub short : least < width → get_or old least 0 < given_by (base + least) (transfers xs)

pub taken_at_start : (old : List ℕ) (base width : ℕ) (xs : List Move) → Taken old old base width width 0 xs
taken_at_start old base width xs = record {
  within = omega arith;
  room = omega arith;
  rest = λ k h. omega arith;
  short = λ h. absurd (omega (arith, h));
}

pub taken_here : (old new : List ℕ) (base width least t left : ℕ) (xs : List Move) (m : Move) → Taken old new base width least t xs
    → width ≤ length old → t < length xs → m ≡ get_or xs t m → base ≤ m.from → m.from - base < least
    → m.amount + left ≡ get_or new (m.from - base) 0
    → Taken old (set new (m.from - base) left) base width least (t + 1) xs
taken_here old new base width least t left xs m r wide h e low high is =
    let p = m.from - base in record {
      within = r.within;
      room = length-set new p left ∙ r.room;
      rest = λ k below. elim (cases_eq k p) [
        | inl same ↦
            let a = r.rest k below in
            let b = units_here (λ m. m.from) (base + k) xs t m h e (omega (arith, same, low)) in
            let c : get_or (set new p left) k 0 ≡ left = subst (λ k. get_or (set new p left) k 0 ≡ left) (sym same)
            (get_or-set_same new p left 0 (let i = r.within in let j = r.room in omega (arith, i, j, wide, high))) in
            let d : m.amount + left ≡ get_or new k 0 = subst (λ k. m.amount + left ≡ get_or new k 0) (sym same) is in
            omega (arith, a, b, c, d)
        | inr other ↦
            let a = r.rest k below in
            let b = units_elsewhere (λ m. m.from) (base + k) xs t m h e (λ same. other (omega (arith, same))) in
            let c = get_or-set_other new p k left 0 other in
            omega (arith, a, b, c)
      ];
      short = r.short;
    }

pub taken_short : (old new : List ℕ) (base width least t : ℕ) (xs : List Move) (m : Move) → Taken old new base width least t xs
    → t < length xs → m ≡ get_or xs t m → base ≤ m.from → m.from - base < least
    → get_or new (m.from - base) 0 < m.amount
    → Taken old new base width (m.from - base) (t + 1) xs
taken_short old new base width least t xs m r h e low high less =
    let p = m.from - base in record {
      within = let i = r.within in omega (arith, i, high);
      room = r.room;
      rest = λ k below.
          let a = r.rest k (omega (arith, below, high)) in
          let b = units_elsewhere (λ m. m.from) (base + k) xs t m h e (λ same. omega (arith, same, below)) in
          omega (arith, a, b);
      short = λ _.
          let a = r.rest p high in
          let b = units_here (λ m. m.from) (base + p) xs t m h e (omega (arith, low)) in
          omega (arith, a, b, less);
    }

pub taken_elsewhere : (old new : List ℕ) (base width least t : ℕ) (xs : List Move) (m : Move) → Taken old new base width least t xs
    → t < length xs → m ≡ get_or xs t m → ((k : ℕ) → k < least → m.from ≡ base + k → ⊥)
    → Taken old new base width least (t + 1) xs
taken_elsewhere old new base width least t xs m r h e far = record {
  within = r.within;
  room = r.room;
  rest = λ k below.
      let a = r.rest k below in
      let b = units_elsewhere (λ m. m.from) (base + k) xs t m h e (far k below) in
      omega (arith, a, b);
  short = r.short;
}

pub taken_enough : (old new : List ℕ) (base width least t : ℕ) (xs : List Move) → Taken old new base width least t xs → length xs ≤ t
    → (k : ℕ) → k < least → given_by (base + k) (transfers xs) ≤ get_or old k 0
taken_enough old new base width least t xs r past k below =
    let a = r.rest k below in
    let b = units_ended (λ m. m.from) (base + k) xs t past in
    omega (arith, a, b)

-- while units are brought to the sums: each is what is still wanting of it
pub record Filled (old new : List ℕ) (base t : ℕ) (xs : List Move) : Type 0 where
  pub room : length new ≡ length old
  pub rest : (k : ℕ) → k < length old
      → get_or new k 0 - taken_by (base + k) (transfers (drop t xs)) ≡ get_or old k 0 - taken_by (base + k) (transfers xs)

pub filled_at_start : (old : List ℕ) (base : ℕ) (xs : List Move) → Filled old old base 0 xs
filled_at_start old base xs = record { room = omega arith; rest = λ k h. omega arith }

pub filled_here : (old new : List ℕ) (base t left : ℕ) (xs : List Move) (m : Move) → Filled old new base t xs
    → t < length xs → m ≡ get_or xs t m → base ≤ m.to → m.to - base < length new
    → left ≡ get_or new (m.to - base) 0 - m.amount
    → Filled old (set new (m.to - base) left) base (t + 1) xs
filled_here old new base t left xs m r h e low high is =
    let p = m.to - base in record {
      room = length-set new p left ∙ r.room;
      rest = λ k below. elim (cases_eq k p) [
        | inl same ↦
            let a = r.rest k below in
            let b = units_here (λ m. m.to) (base + k) xs t m h e (omega (arith, same, low)) in
            let c : get_or (set new p left) k 0 ≡ left = subst (λ k. get_or (set new p left) k 0 ≡ left) (sym same) (get_or-set_same new p left 0 high) in
            let d : left ≡ get_or new k 0 - m.amount = subst (λ k. left ≡ get_or new k 0 - m.amount) (sym same) is in
            omega (arith, a, b, c, d)
        | inr other ↦
            let a = r.rest k below in
            let b = units_elsewhere (λ m. m.to) (base + k) xs t m h e (λ same. other (omega (arith, same))) in
            let c = get_or-set_other new p k left 0 other in
            omega (arith, a, b, c)
      ];
    }

pub filled_elsewhere : (old new : List ℕ) (base t : ℕ) (xs : List Move) (m : Move) → Filled old new base t xs
    → t < length xs → m ≡ get_or xs t m → ((k : ℕ) → k < length old → m.to ≡ base + k → ⊥)
    → Filled old new base (t + 1) xs
filled_elsewhere old new base t xs m r h e far = record {
  room = r.room;
  rest = λ k below.
      let a = r.rest k below in
      let b = units_elsewhere (λ m. m.to) (base + k) xs t m h e (far k below) in
      omega (arith, a, b);
}

pub filled_wants : (old new : List ℕ) (base t : ℕ) (xs : List Move) → Filled old new base t xs → length xs ≤ t
    → (k : ℕ) → k < length old → get_or new k 0 ≡ get_or old k 0 - taken_by (base + k) (transfers xs)
filled_wants old new base t xs r past k below =
    let a = r.rest k below in
    let b = units_ended (λ m. m.to) (base + k) xs t past in
    omega (arith, a, b)

-- the sum of the constant alone
pub left_of_first_here : (c n t left : ℕ) (xs : List Move) (m : Move) → n - given_by 0 (transfers (drop t xs)) ≡ c - given_by 0 (transfers xs)
    → t < length xs → m ≡ get_or xs t m → m.from ≡ 0 → left ≡ n - m.amount
    → left - given_by 0 (transfers (drop (t + 1) xs)) ≡ c - given_by 0 (transfers xs)
left_of_first_here c n t left xs m r h e k is = let b = units_here (λ m. m.from) 0 xs t m h e k in omega (arith, r, b, is)

pub left_of_first_elsewhere : (c n t : ℕ) (xs : List Move) (m : Move) → n - given_by 0 (transfers (drop t xs)) ≡ c - given_by 0 (transfers xs)
    → t < length xs → m ≡ get_or xs t m → (m.from ≡ 0 → ⊥)
    → n - given_by 0 (transfers (drop (t + 1) xs)) ≡ c - given_by 0 (transfers xs)
left_of_first_elsewhere c n t xs m r h e k = let b = units_elsewhere (λ m. m.from) 0 xs t m h e k in omega (arith, r, b)

pub left_of_first_ended : (c n t : ℕ) (xs : List Move) → n - given_by 0 (transfers (drop t xs)) ≡ c - given_by 0 (transfers xs)
    → length xs ≤ t → n ≡ c - given_by 0 (transfers xs)
left_of_first_ended c n t xs r h = let b = units_ended (λ m. m.from) 0 xs t h in omega (arith, r, b)

-- the sums hold the coefficients of the monomials from `base` on
abbrev pub AreSet : List Monomial → List ℕ → ℕ → ℕ → Type 0
AreSet items sums base width = (k c : ℕ) (us : Factors) → k < width → MonomialAt (sum_of items) (base + k) c us → get_or sums k 0 ≡ c

pub one_more_set : (items : List Monomial) (sums : List ℕ) (base k v : ℕ) (m : Monomial) → AreSet items sums base k → base + k < length items
    → k < length sums → m ≡ get_or items (base + k) m → v ≡ (out-Monomial m).coefficient → AreSet items (set sums k v) base (k + 1)
one_more_set items sums base k v m before h room e is j c us below here = elim (cases_eq j k) [
  | inl same ↦
      let there = monomial_here items (base + k) m h e in
      let one = one_monomial (sum_of items) (base + k) c (out-Monomial m).coefficient us (atoms (out-Monomial m).atoms)
      (subst (λ j. MonomialAt (sum_of items) (base + j) c us) same here) there in
      subst (λ j. get_or (set sums k v) j 0 ≡ c) (sym same) (get_or-set_same sums k v 0 room ∙ is ∙ sym one.0)
  | inr other ↦ get_or-set_other sums k j v 0 other ∙ before j c us (omega (arith, below, other)) here
]

-- there is a monomial below the length
pub monomial_there : (xs : List Monomial) (i : ℕ) → i < length xs → (c : ℕ) × (us : Factors) × MonomialAt (sum_of xs) i c us
monomial_there [] i h = absurd (omega (arith, h))
monomial_there (x ∷ xs) zero h = ((out-Monomial x).coefficient, atoms (out-Monomial x).atoms, (refl, refl))
monomial_there (x ∷ xs) (suc i) h = monomial_there xs i (omega (arith, h))

-- what holds below a place, and from there on
pub further : (P : ℕ → Type 0) (base width i : ℕ) → ((j : ℕ) → j < base → P j) → ((k : ℕ) → k < width → P (base + k)) → i < base + width → P i
further P base width i before after h = elim (cases_lt i base) [
  | inl below ↦ before i below
  | inr above ↦ let e : base + (i - base) ≡ i = omega (arith, above) in subst P e (after (i - base) (omega (arith, h, above)))
]

pub before_found : (P : ℕ → Type 0) (base i k : ℕ) → ((j : ℕ) → j < base → P j) → ((k : ℕ) → base + k < i → P (base + k)) → k < i → P k
before_found P base i k before after h = elim (cases_lt k base) [
  | inl below ↦ before k below
  | inr above ↦ let e : base + (k - base) ≡ k = omega (arith, above) in subst P e (after (k - base) (omega (arith, h, above)))
]

-- what the walk over a block of left monomials found
pub over_spent_found : (items : List Monomial) (xs : List Move) (sums : List ℕ) (base width least : ℕ) → AreSet items sums base width
    → base + width ≤ length items → least < width
    → ((k : ℕ) → k < least → given_by (base + k) (transfers xs) ≤ get_or sums k 0)
    → get_or sums least 0 < given_by (base + least) (transfers xs)
    → base ≤ base + least × IsOverSpent (sum_of items) (transfers xs) (base + least)
    × ((k : ℕ) → base + k < base + least → NotOverSpent (sum_of items) (transfers xs) (base + k))
over_spent_found items xs sums base width least set within less enough short =
    let (c, us, m) = monomial_there items (base + least) (omega (arith, within, less)) in (
      omega arith,
      (c, us, m, subst (λ n. n < given_by (base + least) (transfers xs)) (set least c us less m) short),
      λ k below d vs n. subst (λ n. given_by (base + k) (transfers xs) ≤ n) (set k d vs (omega (arith, below, less)) n) (enough k (omega (arith, below))),
    )

pub none_over_spent : (items : List Monomial) (xs : List Move) (sums : List ℕ) (room base width least : ℕ) → AreSet items sums base width
    → ((k : ℕ) → k < room → base + k < length items → k < width) → width ≤ least
    → ((k : ℕ) → k < least → given_by (base + k) (transfers xs) ≤ get_or sums k 0)
    → (k : ℕ) → k < room → NotOverSpent (sum_of items) (transfers xs) (base + k)
none_over_spent items xs sums room base width least set all past enough k h c us m =
    let below = all k h (monomial_within items (base + k) c us m) in
    subst (λ n. given_by (base + k) (transfers xs) ≤ n) (set k c us below m) (enough k (omega (arith, below, past)))

-- and over a block of right ones
pub not_covered_found : (items : List Monomial) (xs : List Move) (sums wanting : List ℕ) (base width least : ℕ) → AreSet items sums base width
    → base + width ≤ length items → least < width
    → ((k : ℕ) → k < width → get_or wanting k 0 ≡ get_or sums k 0 - taken_by (base + k) (transfers xs))
    → ((k : ℕ) → k < least → get_or wanting k 0 ≡ 0) → 0 < get_or wanting least 0
    → base ≤ base + least × IsNotCovered (sum_of items) (transfers xs) (base + least)
    × ((k : ℕ) → base + k < base + least → Covered (sum_of items) (transfers xs) (base + k))
not_covered_found items xs sums wanting base width least set within less rest none some =
    let (c, us, m) = monomial_there items (base + least) (omega (arith, within, less)) in
    let e = set least c us less m in
    let f = rest least less in (
      omega arith,
      (c, us, m, omega (arith, e, f, some)),
      λ k below d vs n.
          let a = set k d vs (omega (arith, below, less)) n in
          let b = rest k (omega (arith, below, less)) in
          let z = none k (omega (arith, below)) in
          omega (arith, a, b, z),
    )

pub all_covered : (items : List Monomial) (xs : List Move) (sums wanting : List ℕ) (room base width least : ℕ) → AreSet items sums base width
    → ((k : ℕ) → k < room → base + k < length items → k < width) → width ≤ least
    → ((k : ℕ) → k < width → get_or wanting k 0 ≡ get_or sums k 0 - taken_by (base + k) (transfers xs))
    → ((k : ℕ) → k < least → get_or wanting k 0 ≡ 0)
    → (k : ℕ) → k < room → Covered (sum_of items) (transfers xs) (base + k)
all_covered items xs sums wanting room base width least set all past rest none k h c us m =
    let below = all k h (monomial_within items (base + k) c us m) in
    let a = set k c us below m in
    let b = rest k below in
    let z = none k (omega (arith, below, past)) in
    omega (arith, a, b, z)

-- there are factors
abbrev IsSomeFactor : Factors → Type 0
IsSomeFactor no_factors = ⊥
IsSomeFactor (times x ps us) = Unit {0}

-- the first monomial is the constant where it has no factors
factors_of_none : (us : List Atom) → length us ≡ 0 → product_of us ≡ no_factors
factors_of_none [] e = refl
factors_of_none (u ∷ us) e = absurd (omega (arith, e))

none_of_factors : (us : List Atom) → product_of us ≡ no_factors → length us ≡ 0
none_of_factors [] e = refl
none_of_factors (u ∷ us) e = absurd (subst (λ vs. IsSomeFactor vs) e tt)

leaves_first : (items : List Monomial) (xs : List Move) (first : Monomial) → 0 < length items → first ≡ get_or items 0 first
    → atoms (out-Monomial first).atoms ≡ no_factors
    → (given_by 0 (transfers xs) < (out-Monomial first).coefficient) ↔ LeavesConstant (sum_of items) (transfers xs)
leaves_first items xs first h e none =
    let here = monomial_here items 0 first h e in (
      λ less. ((out-Monomial first).coefficient, subst (MonomialAt (sum_of items) 0 (out-Monomial first).coefficient) none here, less),
      λ (c, m, less). let one = one_monomial (sum_of items) 0 c (out-Monomial first).coefficient no_factors (atoms (out-Monomial first).atoms) m here in
          let same = one.0 in omega (arith, same, less),
    )

pub constant_leaves : (items : List Monomial) (xs : List Move) (first : Monomial) (us : List Atom) (n : ℕ) → true ≡ nat_lt 0 (length items)
    → first ≡ get_or items 0 first → us ≡ factors (out-Monomial first).atoms → true ≡ (length us == 0)
    → n ≡ (out-Monomial first).coefficient - given_by 0 (transfers xs)
    → IsTrue (nat_lt 0 n) ↔ LeavesConstant (sum_of items) (transfers xs)
constant_leaves items xs first us n some e l none is = go (nat_lt 0 n) refl
  where
    leaves : (given_by 0 (transfers xs) < (out-Monomial first).coefficient) ↔ LeavesConstant (sum_of items) (transfers xs)
    leaves = leaves_first items xs first (grind (arith, some)) e (atoms_is (out-Monomial first).atoms ∙ ap product_of (sym l) ∙ factors_of_none us (grind (arith, none)))

    go : (b : Bool) → nat_lt 0 n ≡ b → IsTrue b ↔ LeavesConstant (sum_of items) (transfers xs)
    go true t = (λ yes. leaves.0 (let h : 0 < n = grind (arith, t) in omega (arith, h, is)), λ w. refl)
    go false t = (λ no. cc, λ w. absurd (let less = leaves.1 w in let h : n ≤ 0 = grind (arith, t) in omega (arith, h, is, less)))

pub no_constant_leaves : (items : List Monomial) (xs : List Move) (first : Monomial) (us : List Atom) → true ≡ nat_lt 0 (length items)
    → first ≡ get_or items 0 first → us ≡ factors (out-Monomial first).atoms → false ≡ (length us == 0)
    → LeavesConstant (sum_of items) (transfers xs) → ⊥
no_constant_leaves items xs first us some e l none (c, m, less) =
    let one = one_monomial (sum_of items) 0 c (out-Monomial first).coefficient no_factors (atoms (out-Monomial first).atoms) m
    (monomial_here items 0 first (grind (arith, some)) e) in
    let no : length us ≡ 0 = none_of_factors us (ap product_of l ∙ sym (atoms_is (out-Monomial first).atoms) ∙ sym one.1) in
    grind (arith, none, no)
