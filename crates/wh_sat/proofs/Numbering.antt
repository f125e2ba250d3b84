use Rattle.std.proofs.Common.{◌≡◌, ℕ, ◌+◌, ◌*◌, ◌^◌, ◌<◌, ◌≤◌, zero, suc, Bool, true, false, cond, List, [], ◌∷◌, ◌++◌, length, get_or, take, map, eqb, refl, sym, ◌∙◌, subst, inl, inr, arith, tests}
use Rattle.std.proofs.lemmas.List.{length-map, get_or-map, get_or-append-add, get_or-take, length-append, length-take-le}
use Rattle.std.proofs.Math.Nat.{pow-suc}
use Rattle.std.proofs.lemmas.Bool.{cases_eq}
use Rattle.std.proofs.lemmas.Map.Steps.{length-le_from_distinct_below}
use Rattle.std.proofs.lemmas.Map.Keys.{IsDistinct-from_apart}
use Rattle.std.specs.List.{list_any}
use Rattle.wh_sat_trail.specs.declared.literal.Literal.{Literal}
use Rattle.wh_sat_trail.specs.Assignment.{negated, AllBelow}
use Rattle.wh_sat_trail.specs.Member.{member}
use Rattle.wh_sat_trail.specs.Watch.{nothing}
use Rattle.wh_sat_trail.proofs.Guarding.{member_at, member_place}
use Rattle.wh_sat.specs.Learning.{Has, Learnt}
use Rattle.wh_sat.proofs.Assuring.{cases_bool}

abbrev sign : Bool → Bool → ℕ
sign a b = cond a 1 (cond b 2 0)

-- what a clause says of a variable: nothing, itself or its negation
abbrev digit : List Literal → ℕ → ℕ
digit c v = sign (member (record { variable = v; positive = true }) c) (member (record { variable = v; positive = false }) c)

digit_small : (a b : Bool) → sign a b < 3
digit_small true b = omega arith
digit_small false true = omega arith
digit_small false false = omega arith

-- a clause by its digits for the variables below n
abbrev number : List Literal → ℕ → ℕ
number c zero = 0
number c (suc v) = 3 * number c v + digit c v

number_below : (c : List Literal) (n : ℕ) → number c n < 3 ^ n
number_below c zero = omega arith
number_below c (suc v) = omega (arith, number_below c v, pow-suc 3 v, digit_small (member (record { variable = v; positive = true }) c) (member (record { variable = v; positive = false }) c))

digits_same : (c e : List Literal) (n v : ℕ) → number c n ≡ number e n → v < n → digit c v ≡ digit e v
digits_same c e zero v h w = absurd (omega (arith, w))
digits_same c e (suc n) v h w =
    let dc = digit_small (member (record { variable = n; positive = true }) c) (member (record { variable = n; positive = false }) c) in
    let de = digit_small (member (record { variable = n; positive = true }) e) (member (record { variable = n; positive = false }) e) in
    let top : number c n ≡ number e n = omega (arith, h, dc, de) in
    elim (cases_eq v n) [
      | inl same ↦ let here : digit c n ≡ digit e n = omega (arith, h, top) in subst (λ u. digit c u ≡ digit e u) (sym same) here
      | inr other ↦ digits_same c e n v top (omega (arith, w, other))
    ]

digit_one : (a b : Bool) → sign a b ≡ 1 → a ≡ true
digit_one true b e = refl
digit_one false true e = absurd (omega (arith, e))
digit_one false false e = absurd (omega (arith, e))

digit_two : (a b : Bool) → sign a b ≡ 2 → b ≡ true
digit_two true b e = absurd (omega (arith, e))
digit_two false true e = refl
digit_two false false e = absurd (omega (arith, e))

is_one : (a b : Bool) → a ≡ true → sign a b ≡ 1
is_one a b e = rw e refl

is_two : (a b : Bool) → a ≡ false → b ≡ true → sign a b ≡ 2
is_two a b e f = rw (e, f) refl

member_has : (c : List Literal) (l : Literal) → member l c ≡ true → Has c l
member_has c l e = let r = member_place l c e in record { place = r.0; within = r.1.0; is = r.1.1 }

has_member : (c : List Literal) (l : Literal) → Has c l → member l c ≡ true
has_member c l h = subst (λ x. member x c ≡ true) (h.is nothing) (member_at c h.place nothing h.within)

-- what the first clause has, the second has, if their digits agree
with_sign : (c e : List Literal) (v : ℕ) (p : Bool) → ((l : Literal) → Has c l → Has c (negated l) → ⊥) → digit c v ≡ digit e v → Has c (record { variable = v; positive = p }) → Has e (record { variable = v; positive = p })
with_sign c e v true plain d h =
    let l : Literal = record { variable = v; positive = true } in
    let m : Literal = record { variable = v; positive = false } in
    member_has e l (digit_one (member l e) (member m e) (sym d ∙ is_one (member l c) (member m c) (has_member c l h)))
with_sign c e v false plain d h =
    let l : Literal = record { variable = v; positive = true } in
    let m : Literal = record { variable = v; positive = false } in
    let none : member l c ≡ false = elim (cases_bool (member l c)) [ inl q ↦ absurd (plain m h (member_has c l q)) | inr q ↦ q ] in
    member_has e m (digit_two (member l e) (member m e) (sym d ∙ is_two (member l c) (member m c) none (has_member c m h)))

-- clauses with one number have the same literals
same_number : (n : ℕ) (c e : List Literal) → AllBelow n c → ((l : Literal) → Has c l → Has c (negated l) → ⊥) → number c n ≡ number e n → (l : Literal) → Has c l → Has e l
same_number n c e b plain h l q =
    let w : l.variable < n = subst (λ x. x.variable < n) (q.is l) (b q.place l q.within) in
    with_sign c e l.variable l.positive plain (digits_same c e n l.variable h w) q

any_below : (n : ℕ) (xs : List ℕ) (q : ℕ) → ((i d : ℕ) → i < length xs → get_or xs i d < n) → list_any (eqb q) xs ≡ true → q < n
any_below n [] q h e = absurd (grind (arith, e))
any_below n (x ∷ xs) q h e = elim (cases_eq q x) [
  | inl same ↦ subst (λ y. y < n) (sym same) (h 0 0 (omega arith))
  | inr other ↦ any_below n xs q (λ i d w. h (suc i) d (omega (arith, w))) (let z : eqb q x ≡ false = grind (arith, tests, other) in rw z at e)
]

-- a learnt list over n variables has at most 3 ^ n clauses
pub learnt_bounded : (n : ℕ) (clauses list : List (List Literal)) → Learnt n clauses list → length list ≤ 3 ^ n
learnt_bounded n clauses list learnt =
    let f = λ (c : List Literal). number c n in
    let at : (i : ℕ) (d : ℕ) → i < length list → get_or (map f list) i d ≡ f (get_or list i []) = λ i d w. get_or-map f list i [] d w in
    let far : (i : ℕ) → i < length (map f list) → i < length list = λ i w. omega (arith, w, length-map list f) in
    let apart : (i j : ℕ) (d : ℕ) → i < j → j < length (map f list) → eqb (get_or (map f list) i d) (get_or (map f list) j d) ≡ false = λ i j d ij w.
    let wj = far j w in
    let wi : i < length list = omega (arith, ij, wj) in
    elim (cases_eq (get_or (map f list) i d) (get_or (map f list) j d)) [
      | inr other ↦ grind (arith, tests, other)
      | inl same ↦
          let ni : number (get_or list i []) n ≡ number (get_or list j []) n = sym (at i d wi) ∙ same ∙ at j d wj in
          let li = learnt i wi in
          let lj = learnt j wj in
          let k : length clauses + i < length (clauses ++ take j list) = omega (arith, length-append clauses (take j list), length-take-le j list (omega (arith, wj)), ij) in
          let is : get_or (clauses ++ take j list) (length clauses + i) [] ≡ get_or list i [] = get_or-append-add clauses (take j list) i [] ∙ get_or-take j list i [] ij in
          absurd (lj.fresh (length clauses + i) k (λ l h. same_number n (get_or list i []) (get_or list j []) li.below li.plain ni l (subst (λ x. Has x l) is h)))
    ] in
    omega (arith, length-map list f, length-le_from_distinct_below (map f list) (3 ^ n) (IsDistinct-from_apart eqb (map f list) apart) (λ q e. any_below (3 ^ n) (map f list) q (λ i d w. rw (at i d (far i w)) (number_below (get_or list i []) n)) e))
