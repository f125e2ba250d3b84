-- Clauses that join others, and what the clauses of a gate say.
use Rattle.std.proofs.Common.{◌≡◌, ℕ, ◌+◌, ◌-◌, Bool, true, false, not, cond, List, [], ◌∷◌, ◌++◌, ◌&&◌, ◌⊎◌, length, map, refl, sym, ◌∙◌, ap, subst, inl, inr, arith, tests, length-append, suc, zero}
use Rattle.std.proofs.lemmas.List.{get_or_append_left, get_or-append_right, get_or-append-add}
use Rattle.std.proofs.lemmas.Bool.{cases_lt}
use Rattle.wh_sat_trail.specs.declared.literal.Literal.{Literal}
use Rattle.wh_sat_trail.specs.Assignment.{AllBelow, negated}
use Rattle.wh_sat.specs.Solving.{literal_true, clause_true, Solves}
use Rattle.wh_circuit.specs.Values.{all_true}
use Rattle.wh_circuit_gates.specs.Clauses.{yes, no, shorts, gate_clauses}

pub cases_bool : (b : Bool) → (b ≡ true) ⊎ (b ≡ false)
cases_bool true = inl refl
cases_bool false = inr refl

pub solves_left : (v : ℕ → Bool) (xs ys : List (List Literal)) → Solves v (xs ++ ys) → Solves v xs
solves_left v xs ys s k w = subst (λ c. clause_true v c ≡ true) (get_or_append_left xs ys [] k w) (s k (omega (arith, w, length-append xs ys)))

pub solves_right : (v : ℕ → Bool) (xs ys : List (List Literal)) → Solves v (xs ++ ys) → Solves v ys
solves_right v xs ys s k w = subst (λ c. clause_true v c ≡ true) (get_or-append-add xs ys k []) (s (length xs + k) (omega (arith, w, length-append xs ys)))

pub solves_both : (v : ℕ → Bool) (xs ys : List (List Literal)) → Solves v xs → Solves v ys → Solves v (xs ++ ys)
solves_both v xs ys s t k w = elim (cases_lt k (length xs)) [
  | inl u ↦ subst (λ c. clause_true v c ≡ true) (sym (get_or_append_left xs ys [] k u)) (s k u)
  | inr u ↦ subst (λ c. clause_true v c ≡ true) (sym (get_or-append_right xs ys (length xs) k [] refl u)) (t (k - length xs) (omega (arith, w, u, length-append xs ys)))
]

pub solves_one : (v : ℕ → Bool) (c : List Literal) → clause_true v c ≡ true → Solves v (c ∷ [])
solves_one v c e zero w = e
solves_one v c e (suc k) w = absurd (omega (arith, w))

-- a literal that joins
pub all_true_push : (v : ℕ → Bool) (xs : List Literal) (l : Literal) → all_true v (xs ++ l ∷ []) ≡ (all_true v xs && literal_true v l)
all_true_push v [] l = elim (cases_bool (literal_true v l)) [ inl p ↦ grind (arith, tests, p) | inr p ↦ grind (arith, tests, p) ]
all_true_push v (x ∷ xs) l = elim (cases_bool (literal_true v x)) [
  | inl p ↦ grind (arith, tests, p, all_true_push v xs l)
  | inr p ↦ grind (arith, tests, p, all_true_push v xs l)
]

pub negation : (v : ℕ → Bool) (l : Literal) → literal_true v (negated l) ≡ not (literal_true v l)
negation v l = sign l.positive (v l.variable)
  where
    sign : (p b : Bool) → cond (not p) b (not b) ≡ not (cond p b (not b))
    sign true b = refl
    sign false true = refl
    sign false false = refl

some_negated : (v : ℕ → Bool) (ls : List Literal) → clause_true v (map negated ls) ≡ not (all_true v ls)
some_negated v [] = refl
some_negated v (l ∷ ls) = elim (cases_bool (literal_true v l)) [
  | inl p ↦ grind (arith, tests, p, negation v l, some_negated v ls)
  | inr p ↦ grind (arith, tests, p, negation v l, some_negated v ls)
]

shorts_hold : (v : ℕ → Bool) (k : ℕ) (ls : List Literal) → Solves v (shorts k ls) → v k ≡ true → all_true v ls ≡ true
shorts_hold v k [] s e = refl
shorts_hold v k (l ∷ ls) s e = grind (arith, tests, e, s 0 (omega arith), shorts_hold v k ls (solves_right v ((no k ∷ l ∷ []) ∷ []) (shorts k ls) s) e)

shorts_solve : (v : ℕ → Bool) (k : ℕ) (ls : List Literal) → (v k ≡ true → all_true v ls ≡ true) → Solves v (shorts k ls)
shorts_solve v k [] f i w = absurd (omega (arith, w))
shorts_solve v k (l ∷ ls) f zero w = elim (cases_bool (v k)) [
  | inl p ↦ grind (arith, tests, p, f p)
  | inr p ↦ grind (arith, tests, p)
]
shorts_solve v k (l ∷ ls) f (suc i) w = shorts_solve v k ls (λ p. grind (arith, tests, f p)) i (omega (arith, w))

-- the clauses of a gate say what it is
pub gate_holds : (v : ℕ → Bool) (k : ℕ) (ls : List Literal) → Solves v (gate_clauses k ls) → v k ≡ all_true v ls
gate_holds v k ls s = elim (cases_bool (v k)) [
  | inl p ↦ p ∙ sym (shorts_hold v k ls (solves_left v (shorts k ls) ((yes k ∷ map negated ls) ∷ []) s) p)
  | inr p ↦ grind (arith, tests, p, some_negated v ls, solves_right v (shorts k ls) ((yes k ∷ map negated ls) ∷ []) s 0 (omega arith))
]

pub holds_gate : (v : ℕ → Bool) (k : ℕ) (ls : List Literal) → v k ≡ all_true v ls → Solves v (gate_clauses k ls)
holds_gate v k ls e = solves_both v (shorts k ls) ((yes k ∷ map negated ls) ∷ []) (shorts_solve v k ls (λ p. sym e ∙ p))
    (solves_one v (yes k ∷ map negated ls) (elim (cases_bool (v k)) [
      | inl p ↦ grind (arith, tests, p)
      | inr p ↦ grind (arith, tests, p, e, some_negated v ls)
    ]))

pub both : {a b : Bool} → a ≡ true → b ≡ true → (a && b) ≡ true
both e f = grind (arith, tests, e, f)

pub one : (v : ℕ → Bool) (l : Literal) → clause_true v (l ∷ []) ≡ true → literal_true v l ≡ true
one v l e = grind (arith, tests, e)

pub front : (v : ℕ → Bool) (xs : List Literal) (l : Literal) → all_true v (xs ++ l ∷ []) ≡ true → all_true v xs ≡ true
front v xs l e = grind (arith, tests, e, all_true_push v xs l)

pub back : (v : ℕ → Bool) (xs : List Literal) (l : Literal) → all_true v (xs ++ l ∷ []) ≡ true → clause_true v (l ∷ []) ≡ true
back v xs l e = grind (arith, tests, e, all_true_push v xs l)

none_negated : (v : ℕ → Bool) (ls : List Literal) → not (all_true v (map negated ls)) ≡ clause_true v ls
none_negated v [] = refl
none_negated v (l ∷ ls) = elim (cases_bool (literal_true v l)) [
  | inl p ↦ grind (arith, tests, p, negation v l, none_negated v ls)
  | inr p ↦ grind (arith, tests, p, negation v l, none_negated v ls)
]

-- the negation of a wire that means "no literal"
pub some_by_none : (v : ℕ → Bool) (ls : List Literal) (a : Literal) → literal_true v a ≡ all_true v (map negated ls) → literal_true v (negated a) ≡ clause_true v ls
some_by_none v ls a e = negation v a ∙ ap not e ∙ none_negated v ls

pub negated_below : (n : ℕ) (ls : List Literal) → AllBelow n ls → AllBelow n (map negated ls)
negated_below n [] b i d w = absurd (omega (arith, w))
negated_below n (l ∷ ls) b zero d w = b 0 d (omega arith)
negated_below n (l ∷ ls) b (suc i) d w = negated_below n ls (λ j c u. b (suc j) c (omega (arith, u))) i d (omega (arith, w))
