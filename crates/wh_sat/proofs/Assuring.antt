use Rattle.std.proofs.Common.{◌≡◌, ℕ, ◌<◌, ◌||◌, zero, suc, Bool, true, false, not, cond, List, [], ◌∷◌, length, get_or, map, refl, sym, ◌∙◌, subst, ◌⊎◌, inl, inr, arith}
use Rattle.std.proofs.lemmas.List.{length-map, get_or-map}
use Rattle.wh_sat_trail.specs.declared.literal.Literal.{Literal}
use Rattle.wh_sat_trail.specs.Assignment.{negated}
use Rattle.wh_sat_trail.specs.Watch.{nothing}
use Rattle.wh_sat.specs.Learning.{Has, Derives, given, forced, Refutes}
use Rattle.wh_sat.specs.Solving.{literal_true, clause_true, Solves}
use Rattle.wh_sat.proofs.Deriving.{cases_lit}

pub cases_bool : (b : Bool) → (b ≡ true) ⊎ (b ≡ false)
cases_bool true = inl refl
cases_bool false = inr refl

pub true_false : (b : Bool) → b ≡ true → b ≡ false → ⊥
true_false true p q = grind (arith, q)
true_false false p q = grind (arith, p)

or_left : (a b : Bool) → a ≡ true → (a || b) ≡ true
or_left true b e = refl
or_left false b e = absurd (grind (arith, e))

or_right : (a b : Bool) → b ≡ true → (a || b) ≡ true
or_right true b e = refl
or_right false b e = e

or_either : (a b : Bool) → (a || b) ≡ true → (a ≡ true) ⊎ (b ≡ true)
or_either true b e = inl refl
or_either false b e = inr e

-- a true clause has a true literal
pub clause_true_place : (v : ℕ → Bool) (c : List Literal) → clause_true v c ≡ true → (i : ℕ) × ((i < length c) × ((d : Literal) → literal_true v (get_or c i d) ≡ true))
clause_true_place v [] e = absurd (grind (arith, e))
clause_true_place v (l ∷ c) e = elim (or_either (literal_true v l) (clause_true v c) e) [
  | inl p ↦ (0, (omega arith, λ d. p))
  | inr q ↦ let r = clause_true_place v c q in (suc r.0, (omega (arith, r.1.0), λ d. r.1.1 d))
]

pub clause_true_by : (v : ℕ → Bool) (c : List Literal) (i : ℕ) (d : Literal) → i < length c → literal_true v (get_or c i d) ≡ true → clause_true v c ≡ true
clause_true_by v [] i d w e = absurd (omega (arith, w))
clause_true_by v (l ∷ c) zero d w e = or_left (literal_true v l) (clause_true v c) e
clause_true_by v (l ∷ c) (suc i) d w e = or_right (literal_true v l) (clause_true v c) (clause_true_by v c i d (omega (arith, w)) e)

opposite : (p b : Bool) → cond p b (not b) ≡ true → cond (not p) b (not b) ≡ true → ⊥
opposite true true e f = grind (arith, f)
opposite true false e f = grind (arith, e)
opposite false true e f = grind (arith, e)
opposite false false e f = grind (arith, f)

other_true : (p b : Bool) → cond p b (not b) ≡ false → cond (not p) b (not b) ≡ true
other_true true true e = grind (arith, e)
other_true true false e = refl
other_true false true e = refl
other_true false false e = grind (arith, e)

pub not_both_true : (v : ℕ → Bool) (l : Literal) → literal_true v l ≡ true → literal_true v (negated l) ≡ true → ⊥
not_both_true v l e f = opposite l.positive (v l.variable) e f

pub negated_true : (v : ℕ → Bool) (l : Literal) → literal_true v l ≡ false → literal_true v (negated l) ≡ true
negated_true v l e = other_true l.positive (v l.variable) e

-- under an assignment that makes all clauses and the start true, what derives is true
pub derives_true : (v : ℕ → Bool) (clauses : List (List Literal)) (start : List Literal) (l : Literal) → Solves v clauses → ((m : Literal) → Has start m → literal_true v m ≡ true) → Derives clauses start l → literal_true v l ≡ true
derives_true v clauses start l s h (given l' q) = h l q
derives_true v clauses start l s h (forced k l' w q others) =
    let c = get_or clauses k [] in
    let r = clause_true_place v c (s k w) in
    elim (cases_lit (get_or c r.0 nothing) l) [
      | inl same ↦ subst (λ x. literal_true v x ≡ true) same (r.1.1 nothing)
      | inr u ↦ absurd (not_both_true v (get_or c r.0 nothing) (r.1.1 nothing) (derives_true v clauses start (negated (get_or c r.0 nothing)) s h (others r.0 nothing r.1.0 u)))
    ]

pub refutes_false : (v : ℕ → Bool) (clauses : List (List Literal)) (start : List Literal) → Solves v clauses → ((m : Literal) → Has start m → literal_true v m ≡ true) → Refutes clauses start → ⊥
refutes_false v clauses start s h r =
    let c = get_or clauses r.clause [] in
    let p = clause_true_place v c (s r.clause r.known) in
    not_both_true v (get_or c p.0 nothing) (p.1.1 nothing) (derives_true v clauses start (negated (get_or c p.0 nothing)) s h (r.all p.0 nothing p.1.0))

pub all_false : (v : ℕ → Bool) (c : List Literal) (i : ℕ) (d : Literal) → clause_true v c ≡ false → i < length c → literal_true v (get_or c i d) ≡ false
all_false v c i d e w = elim (cases_bool (literal_true v (get_or c i d))) [
  | inl p ↦ absurd (true_false (clause_true v c) (clause_true_by v c i d w p) e)
  | inr q ↦ q
]

-- a clause whose negation is refuted is true where all others are
pub learnt_true : (v : ℕ → Bool) (clauses : List (List Literal)) (c : List Literal) → Solves v clauses → Refutes clauses (map negated c) → clause_true v c ≡ true
learnt_true v clauses c s r = elim (cases_bool (clause_true v c)) [
  | inl p ↦ p
  | inr q ↦ absurd (refutes_false v clauses (map negated c) s
      (λ m h. let w : h.place < length c = omega (arith, h.within, length-map c negated) in
      subst (λ x. literal_true v x ≡ true) (sym (get_or-map negated c h.place nothing nothing w) ∙ h.is nothing) (negated_true v (get_or c h.place nothing) (all_false v c h.place nothing q w))) r)
]
