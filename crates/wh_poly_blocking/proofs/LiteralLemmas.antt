-- Which literals a blocked clause has.
use Rattle.std.proofs.Common.{◌≡◌, ◌↔◌, ℕ, zero, suc, ◌+◌, ◌-◌, ◌<◌, ◌≤◌, inl, inr, Bool, true, false, not, cond, List, [], ◌∷◌, ◌++◌, get_or, Contains, refl, ap, sym, subst, ◌∙◌, append_assoc, arith}
use Rattle.std.specs.List.{flat_map}
use Rattle.std.proofs.lemmas.Bool.{cases_eq, false≢true}
use Rattle.std.proofs.lemmas.List.Elements.{Contains-append_right, Contains-append_cases}
use Rattle.wh_sat_trail.specs.declared.literal.Literal.{Literal}
use Rattle.wh_sat.specs.Learning.{Has}
use Rattle.wh_sat.specs.Solving.{literal_true}
use Rattle.wh_sat.proofs.Clashing.{has_left, has_right, has_either}
use Rattle.wh_poly_blocking.specs.Literals.{false_literal, literals_from, literals_on}
use Rattle.wh_poly_blocking.specs.Sizes.{value_of}

has_head : (l : Literal) (c : List Literal) → Has (l ∷ c) l
has_head l c = record { place = 0; within = omega arith; is = λ d. refl }

has_cons : (m l : Literal) (c : List Literal) → Has c l → Has (m ∷ c) l
has_cons m l c h = has_right (m ∷ []) c l h

has_nothing : (l : Literal) → Has [] l → ⊥
has_nothing l h = omega (arith, h.within)

has_single : (m l : Literal) → Has (m ∷ []) l → m ≡ l
has_single m l h =
    let e : h.place ≡ 0 = omega (arith, h.within) in
    sym (ap (λ (i : ℕ). get_or (m ∷ []) i m) e) ∙ h.is m

-- the literal is the one on its bit that is false
pub is_false : (v : ℕ → Bool) (l : Literal) → literal_true v l ≡ false → l ≡ false_literal v l.variable
is_false v l e = ap (λ b. record { variable = l.variable; positive = b }) (sign l.positive (v l.variable) e)
  where
    sign : (b c : Bool) → cond b c (not c) ≡ false → b ≡ not c
    sign true true e = absurd (false≢true (sym e))
    sign true false e = refl
    sign false true e = refl
    sign false false e = absurd (false≢true (sym e))

-- one more literal is written
pub literals_next : (v : ℕ → Bool) (x to : ℕ) (value : Bool) (clause : List Literal) → x < to → value ≡ v x
    → (clause ++ record { variable = x; positive = not value } ∷ []) ++ literals_from v (x + 1) (to - (x + 1)) ≡ clause ++ literals_from v x (to - x)
literals_next v x to value clause within is =
    let more : to - x ≡ suc (to - (x + 1)) = omega arith in
    let next : x + 1 ≡ suc x = omega arith in
    append_assoc clause (record { variable = x; positive = not value } ∷ []) (literals_from v (x + 1) (to - (x + 1)))
    ∙ ap (λ b. clause ++ record { variable = x; positive = not b } ∷ literals_from v (x + 1) (to - (x + 1))) is
    ∙ ap (λ y. clause ++ false_literal v x ∷ literals_from v y (to - (x + 1))) next
    ∙ ap (λ k. clause ++ literals_from v x k) (sym more)

-- the literals on bits, one after another

untrue : (b : Bool) → cond (not b) b (not b) ≡ false
untrue true = refl
untrue false = refl

has_from : (v : ℕ → Bool) (x k : ℕ) (l : Literal) → Has (literals_from v x k) l → (x ≤ l.variable) × (l.variable < x + k) × (literal_true v l ≡ false)
has_from v x zero l h = absurd (has_nothing l h)
has_from v x (suc k) l h = elim (has_either (false_literal v x ∷ []) (literals_from v (suc x) k) l h) [
  | inl here ↦
      subst (λ (m : Literal). (x ≤ m.variable) × (m.variable < x + suc k) × (literal_true v m ≡ false)) (has_single (false_literal v x) l here) (omega arith, omega arith, untrue (v x))
  | inr later ↦ let r = has_from v (suc x) k l later in (omega (arith, r.0), omega (arith, r.1), r.2)
]

from_has : (v : ℕ → Bool) (x k : ℕ) (l : Literal) → x ≤ l.variable → l.variable < x + k → literal_true v l ≡ false → Has (literals_from v x k) l
from_has v x zero l low high e = absurd (omega (arith, low, high))
from_has v x (suc k) l low high e = elim (cases_eq l.variable x) [
  | inl same ↦ subst (Has (literals_from v x (suc k))) (sym (is_false v l e ∙ ap (false_literal v) same)) (has_head (false_literal v x) (literals_from v (suc x) k))
  | inr other ↦ has_cons (false_literal v x) l (literals_from v (suc x) k) (from_has v (suc x) k l (omega arith) (omega arith) e)
]

-- the bit is one of what has one of these numbers
abbrev pub IsAmong : List ℕ → List ℕ → ℕ → Type 0
IsAmong firsts numbers x = (n : ℕ) × Contains numbers n × (get_or firsts n 0 ≤ x) × (x < get_or firsts (suc n) 0)

has_on : (v : ℕ → Bool) (firsts numbers : List ℕ) (l : Literal) → Has (flat_map (literals_on v firsts) numbers) l
    → IsAmong firsts numbers l.variable × (literal_true v l ≡ false)
has_on v firsts [] l h = absurd (has_nothing l h)
has_on v firsts (n ∷ numbers) l h = elim (has_either (literals_on v firsts n) (flat_map (literals_on v firsts) numbers) l h) [
  | inl here ↦ let r = has_from v (get_or firsts n 0) (get_or firsts (suc n) 0 - get_or firsts n 0) l here in ((n, (0, omega arith, refl), r.0, omega (arith, r.0, r.1)), r.2)
  | inr later ↦ let r = has_on v firsts numbers l later in ((r.0.0, Contains-append_right (n ∷ []) numbers r.0.0 r.0.1, r.0.2, r.0.3), r.1)
]

on_has : (v : ℕ → Bool) (firsts numbers : List ℕ) (l : Literal) (n : ℕ) → Contains numbers n → get_or firsts n 0 ≤ l.variable → l.variable < get_or firsts (suc n) 0
    → literal_true v l ≡ false → Has (flat_map (literals_on v firsts) numbers) l
on_has v firsts [] l n found low high e = absurd (omega (arith, found.1))
on_has v firsts (m ∷ numbers) l n found low high e = elim (Contains-append_cases (m ∷ []) numbers n found) [
  | inl here ↦ has_left (literals_on v firsts m) (flat_map (literals_on v firsts) numbers) l
      (subst (λ (i : ℕ). Has (literals_on v firsts i) l) (sym (only m n here)) (from_has v (get_or firsts n 0) (get_or firsts (suc n) 0 - get_or firsts n 0) l low (omega arith) e))
  | inr later ↦ has_right (literals_on v firsts m) (flat_map (literals_on v firsts) numbers) l (on_has v firsts numbers l n later low high e)
]
  where
    only : (m n : ℕ) → Contains (m ∷ []) n → m ≡ n
    only m n h =
        let e : h.0 ≡ 0 = omega (arith, h.1) in
        sym (ap (λ (i : ℕ). get_or (m ∷ []) i n) e) ∙ h.2

-- a blocked clause has just the false literals on the bits of what has its numbers
pub literals_are : (v : ℕ → Bool) (firsts numbers : List ℕ) (l : Literal)
    → Has (flat_map (literals_on v firsts) numbers) l ↔ (IsAmong firsts numbers l.variable × (literal_true v l ≡ false))
literals_are v firsts numbers l = (has_on v firsts numbers l, λ h. on_has v firsts numbers l h.0.0 h.0.1 h.0.2 h.0.3 h.1)

-- so of equal lists
pub clause_same : (a b : List Bool) (f g ns ms : List ℕ) → a ≡ b → f ≡ g → ns ≡ ms
    → flat_map (literals_on (value_of a) f) ns ≡ flat_map (literals_on (value_of b) g) ms
clause_same a b f g ns ms values firsts numbers =
    ap (λ (l : List Bool). flat_map (literals_on (value_of l) f) ns) values
    ∙ ap (λ (l : List ℕ). flat_map (literals_on (value_of b) l) ns) firsts
    ∙ ap (flat_map (literals_on (value_of b) g)) numbers
