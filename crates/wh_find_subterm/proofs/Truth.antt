-- When the clauses of the formula are true.
use Rattle.std.proofs.Common.{◌≡◌, ℕ, zero, suc, ◌+◌, ◌<◌, ◌⊎◌, ◌||◌, inl, inr, Bool, true, false, not, cond, nat_eq, nat_lt, List, [], ◌∷◌, ◌++◌, get_or, refl, sym, ap, subst, ◌∙◌, arith}
use Rattle.std.specs.List.{range_with_len}
use Rattle.std.proofs.lemmas.Bool.{cond-true, cond-false, cond_both, cases_Bool, eqb-true, or_cases, or_left, or_right}
use Rattle.wh_sat_trail.specs.declared.literal.Literal.{Literal}
use Rattle.wh_sat.specs.Solving.{Solves, clause_true, literal_true}
use Rattle.wh_find_subterm.specs.Clauses.{no, some_of, not_both, with_each, no_two}
use Rattle.wh_find_subterm.specs.Reading.{first_true}
use Rattle.wh_find_subterm.proofs.Members.{In, in_left, in_right, in_either, in_map, in_map_from, in_range, in_range_from, in_place, place_in}

pub solves_in : (v : ℕ → Bool) (clauses : List (List Literal)) (c : List Literal) → Solves v clauses → In c clauses → clause_true v c ≡ true
solves_in v clauses c solves is =
    let at = in_place clauses c is in sym (ap (clause_true v) (at.2 [])) ∙ solves at.0 at.1

pub in_solves : (v : ℕ → Bool) (clauses : List (List Literal)) → ((c : List Literal) → In c clauses → clause_true v c ≡ true) → Solves v clauses
in_solves v clauses all k within = all (get_or clauses k []) (place_in clauses k [] within)

append_true : (v : ℕ → Bool) (c d : List Literal) → clause_true v (c ++ d) ≡ true → (clause_true v c ≡ true) ⊎ (clause_true v d ≡ true)
append_true v [] d is = inr is
append_true v (l ∷ c) d is = elim (or_cases (literal_true v l) (clause_true v (c ++ d)) is) [
  | inl here ↦ inl (or_left (literal_true v l) (clause_true v c) here)
  | inr later ↦ elim (append_true v c d later) [
    | inl left ↦ inl (or_right (literal_true v l) (clause_true v c) left)
    | inr right ↦ inr right
  ]
]

append_left : (v : ℕ → Bool) (c d : List Literal) → clause_true v c ≡ true → clause_true v (c ++ d) ≡ true
append_left v [] d is = absurd (grind (arith, is))
append_left v (l ∷ c) d is = elim (or_cases (literal_true v l) (clause_true v c) is) [
  | inl here ↦ or_left (literal_true v l) (clause_true v (c ++ d)) here
  | inr later ↦ or_right (literal_true v l) (clause_true v (c ++ d)) (append_left v c d later)
]

append_right : (v : ℕ → Bool) (c d : List Literal) → clause_true v d ≡ true → clause_true v (c ++ d) ≡ true
append_right v [] d is = is
append_right v (l ∷ c) d is = or_right (literal_true v l) (clause_true v (c ++ d)) (append_right v c d is)

-- where some of the variables is true, the first true one is among them

pub record FirstTrue (v : ℕ → Bool) (first n : ℕ) : Type 0 where
  pub below : first_true v first n < n
  pub is : v (first + first_true v first n) ≡ true

first_here : (v : ℕ → Bool) (first n : ℕ) → v first ≡ true → FirstTrue v first (suc n)
first_here v first n is =
    let zeroth : first_true v first (suc n) ≡ 0 = cond-true (v first) 0 (suc (first_true v (first + 1) n)) is in
    let same : first ≡ first + first_true v first (suc n) = omega arith in
    record { below = omega arith; is = ap v (sym same) ∙ is }

first_later : (v : ℕ → Bool) (first n : ℕ) → v first ≡ false → FirstTrue v (first + 1) n → FirstTrue v first (suc n)
first_later v first n is later =
    let next : first_true v first (suc n) ≡ suc (first_true v (first + 1) n) = cond-false (v first) 0 (suc (first_true v (first + 1) n)) is in
    let below = later.below in
    let same : first + 1 + first_true v (first + 1) n ≡ first + first_true v first (suc n) = omega arith in
    record { below = omega arith; is = ap v (sym same) ∙ later.is }

pub some_first : (v : ℕ → Bool) (first n : ℕ) → clause_true v (some_of first n) ≡ true → FirstTrue v first n
some_first v first zero is = absurd (grind (arith, is))
some_first v first (suc n) is = elim (cases_Bool (v first)) [
  | inl here ↦ first_here v first n here
  | inr never ↦ elim (or_cases (v first) (clause_true v (some_of (first + 1) n)) is) [
    | inl here ↦ first_here v first n here
    | inr later ↦ first_later v first n never (some_first v (first + 1) n later)
  ]
]

pub some_by : (v : ℕ → Bool) (first n i : ℕ) → i < n → v (first + i) ≡ true → clause_true v (some_of first n) ≡ true
some_by v first zero i less is = absurd (omega arith)
some_by v first (suc n) zero less is =
    let same : first ≡ first + zero = omega arith in
    or_left (v first) (clause_true v (some_of (first + 1) n)) (ap v same ∙ is)
some_by v first (suc n) (suc i) less is =
    let same : first + 1 + i ≡ first + suc i = omega arith in
    or_right (v first) (clause_true v (some_of (first + 1) n)) (some_by v (first + 1) n i (omega arith) (ap v same ∙ is))

-- two variables are not both true

one_no : (b : Bool) → b ≡ true → (not b || false) ≡ true → ⊥
one_no true is no = absurd (grind (arith, no))
one_no false is no = absurd (grind (arith, is))

two_no : (a b : Bool) → a ≡ true → b ≡ true → (not a || (not b || false)) ≡ true → ⊥
two_no true true left right is = absurd (grind (arith, is))
two_no true false left right is = absurd (grind (arith, right))
two_no false b left right is = absurd (grind (arith, left))

pub both_false : (v : ℕ → Bool) (x y : ℕ) → v x ≡ true → v y ≡ true → clause_true v (not_both x y) ≡ true → ⊥
both_false v x y left right =
    cond_both (nat_eq x y) (no x ∷ []) (cond (nat_lt x y) (no x ∷ no y ∷ []) (no y ∷ no x ∷ [])) (λ c. clause_true v c ≡ true → ⊥)
    (λ _. one_no (v x) left)
    (λ _. cond_both (nat_lt x y) (no x ∷ no y ∷ []) (no y ∷ no x ∷ []) (λ c. clause_true v c ≡ true → ⊥) (λ _. two_no (v x) (v y) left right) (λ _. two_no (v y) (v x) right left))

one_yes : (b : Bool) → (b ≡ true → ⊥) → (not b || false) ≡ true
one_yes true never = absurd (never refl)
one_yes false never = refl

two_yes : (a b : Bool) → (a ≡ true → b ≡ true → ⊥) → (not a || (not b || false)) ≡ true
two_yes true true never = absurd (never refl refl)
two_yes true false never = refl
two_yes false b never = refl

pub both_when : (v : ℕ → Bool) (x y : ℕ) → (v x ≡ true → v y ≡ true → ⊥) → clause_true v (not_both x y) ≡ true
both_when v x y never =
    cond_both (nat_eq x y) (no x ∷ []) (cond (nat_lt x y) (no x ∷ no y ∷ []) (no y ∷ no x ∷ [])) (λ c. clause_true v c ≡ true)
    (λ same. one_yes (v x) (λ is. never is (sym (ap v (eqb-true x y same)) ∙ is)))
    (λ _. cond_both (nat_lt x y) (no x ∷ no y ∷ []) (no y ∷ no x ∷ []) (λ c. clause_true v c ≡ true) (λ _. two_yes (v x) (v y) never) (λ _. two_yes (v y) (v x) (λ right left. never left right)))

-- or a third one is false

false_true : false ≡ true → ⊥
false_true is = grind (arith, is)

pub three_false : (v : ℕ → Bool) (x y z : ℕ) → v x ≡ true → v y ≡ true → v z ≡ true → clause_true v (not_both x y ++ no z ∷ []) ≡ true → ⊥
three_false v x y z left right own is = elim (append_true v (not_both x y) (no z ∷ []) is) [
  | inl both ↦ both_false v x y left right both
  | inr last ↦ one_no (v z) own last
]

pub three_when : (v : ℕ → Bool) (x y z : ℕ) → (v x ≡ true → v y ≡ true → v z ≡ true → ⊥) → clause_true v (not_both x y ++ no z ∷ []) ≡ true
three_when v x y z never = elim (cases_Bool (v z)) [
  | inl own ↦ append_left v (not_both x y) (no z ∷ []) (both_when v x y (λ left right. never left right own))
  | inr other ↦ append_right v (not_both x y) (no z ∷ []) (one_yes (v z) (λ own. false_true (sym other ∙ own)))
]

-- the clauses that no two of n variables are true have one for each two

pub two_in : (first n i j : ℕ) → i < j → j < n → In (not_both (first + i) (first + j)) (no_two first n)
two_in first zero i j less within = absurd (omega arith)
two_in first (suc n) zero zero less within = absurd (omega arith)
two_in first (suc n) zero (suc j) less within =
    let left : first ≡ first + zero = omega arith in
    let right : first + 1 + j ≡ first + suc j = omega arith in
    let here : In (not_both first (first + 1 + j)) (with_each first n) = in_map (λ x. not_both first x) (range_with_len (first + 1) n) (first + 1 + j) (in_range (first + 1) n j (omega arith)) in
    let moved = subst (λ y. In (not_both first y) (with_each first n)) right here in
    in_left (with_each first n) (no_two (first + 1) n) (not_both (first + zero) (first + suc j)) (subst (λ x. In (not_both x (first + suc j)) (with_each first n)) left moved)
two_in first (suc n) (suc i) zero less within = absurd (omega arith)
two_in first (suc n) (suc i) (suc j) less within =
    let left : first + 1 + i ≡ first + suc i = omega arith in
    let right : first + 1 + j ≡ first + suc j = omega arith in
    let here = two_in (first + 1) n i j (omega arith) (omega arith) in
    let moved = subst (λ y. In (not_both (first + 1 + i) y) (no_two (first + 1) n)) right here in
    in_right (with_each first n) (no_two (first + 1) n) (not_both (first + suc i) (first + suc j)) (subst (λ x. In (not_both x (first + suc j)) (no_two (first + 1) n)) left moved)

pub record IsTwo (first n : ℕ) (c : List Literal) : Type 0 where
  pub left : ℕ
  pub right : ℕ
  pub less : left < right
  pub within : right < n
  pub is : c ≡ not_both (first + left) (first + right)

pub two_from : (first n : ℕ) (c : List Literal) → In c (no_two first n) → IsTwo first n c
two_from first zero c is = absurd is
two_from first (suc n) c is = elim (in_either (with_each first n) (no_two (first + 1) n) c is) [
  | inl here ↦
      let from = in_map_from (λ x. not_both first x) (range_with_len (first + 1) n) c here in
      let at = in_range_from (first + 1) n from.0 from.1 in
      let same : first ≡ first + 0 = omega arith in
      let moved : from.0 ≡ first + suc at.0 = omega (arith, at.2) in
      record { left = 0; right = suc at.0; less = omega arith; within = omega (arith, at.1); is = sym from.2 ∙ ap (not_both first) moved ∙ ap (λ x. not_both x (first + suc at.0)) same }
  | inr later ↦
      let from = two_from (first + 1) n c later in
      let less = from.less in
      let within = from.within in
      let left : first + 1 + from.left ≡ first + suc from.left = omega arith in
      let right : first + 1 + from.right ≡ first + suc from.right = omega arith in
      record { left = suc from.left; right = suc from.right; less = omega arith; within = omega arith; is = from.is ∙ ap (λ x. not_both x (first + 1 + from.right)) left ∙ ap (not_both (first + suc from.left)) right }
]
