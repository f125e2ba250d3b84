-- The values of an evaluation are those of its parts.
use Rattle.std.proofs.Common.{◌≡◌, ℕ, zero, suc, ◌+◌, ◌-◌, ◌<◌, ◌⊎◌, inl, inr, List, [], ◌∷◌, ◌++◌, subst, arith}
use Rattle.std.specs.Prelude.{Contains}
use Rattle.wh_types.specs.Ty.{Ty}
use Rattle.wh_poly.specs.Polynomials.{Polynomial}
use Rattle.wh_hopoly.specs.Evaluation.{Expression, var, symbol, lambda, apply, Interpretation, evaluate}
use Rattle.wh_hopoly.specs.NumberedParts.{parts, ValueOfPart}

contains_left : (xs ys : List Polynomial) (x : Polynomial) → Contains xs x → Contains (xs ++ ys) x
contains_left [] ys x (k, h, e) = absurd (omega (arith, h))
contains_left (y ∷ xs) ys x (zero, h, e) = (0, omega arith, e)
contains_left (y ∷ xs) ys x (suc k, h, e) = let r = contains_left xs ys x (k, omega (arith, h), e) in let l = r.1 in (suc r.0, omega (arith, l), r.2)

contains_right : (xs ys : List Polynomial) (x : Polynomial) → Contains ys x → Contains (xs ++ ys) x
contains_right [] ys x c = c
contains_right (y ∷ xs) ys x c = let r = contains_right xs ys x c in let l = r.1 in (suc r.0, omega (arith, l), r.2)

contains_either : (xs ys : List Polynomial) (x : Polynomial) → Contains (xs ++ ys) x → Contains xs x ⊎ Contains ys x
contains_either [] ys x c = inr c
contains_either (y ∷ xs) ys x (zero, h, e) = inl (0, omega arith, e)
contains_either (y ∷ xs) ys x (suc k, h, e) = elim (contains_either xs ys x (k, omega (arith, h), e)) [
  | inl c ↦ inl (suc c.0, (let l = c.1 in omega (arith, l)), c.2)
  | inr c ↦ inr c
]

-- the value of a part is one of the evaluation
pub part_is_value : (S : List Interpretation) (Γ : List Ty) (e : Expression) (k : ℕ) (w : Polynomial) → ValueOfPart S Γ e k w → Contains (evaluate S Γ e).values w
part_is_value S Γ (var x) zero w v = v
part_is_value S Γ (var x) (suc k) w v = absurd v
part_is_value S Γ (symbol f) zero w v = v
part_is_value S Γ (symbol f) (suc k) w v = absurd v
part_is_value S Γ (lambda A e) zero w v = absurd (let h = v.1 in omega (arith, h))
part_is_value S Γ (lambda A e) (suc k) w v = part_is_value S (Γ ++ A ∷ []) e k w v
part_is_value S Γ (apply e d) zero w v = contains_right (evaluate S Γ e).values _ w (contains_right (evaluate S Γ d).values _ w v)
part_is_value S Γ (apply e d) (suc k) w (inl v) = contains_left (evaluate S Γ e).values _ w (part_is_value S Γ e k w v.1)
part_is_value S Γ (apply e d) (suc k) w (inr v) = contains_right (evaluate S Γ e).values _ w (contains_left (evaluate S Γ d).values _ w (part_is_value S Γ d (k - parts e) w v.1))

abbrev OfSomePart : List Interpretation → List Ty → Expression → Polynomial → Type 0
OfSomePart S Γ e w = (k : ℕ) × (k < parts e) × ValueOfPart S Γ e k w

-- and each value of the evaluation is one of a part
pub value_of_part : (S : List Interpretation) (Γ : List Ty) (e : Expression) (w : Polynomial) → Contains (evaluate S Γ e).values w → OfSomePart S Γ e w
value_of_part S Γ (var x) w c = (0, omega arith, c)
value_of_part S Γ (symbol f) w c = (0, omega arith, c)
value_of_part S Γ (lambda A e) w c = let r = value_of_part S (Γ ++ A ∷ []) e w c in let l = r.1 in (suc r.0, omega (arith, l), r.2)
value_of_part S Γ (apply e d) w c = elim (contains_either (evaluate S Γ e).values _ w c) [
  | inl v ↦ (let r = value_of_part S Γ e w v in let l = r.1 in (suc r.0, omega (arith, l), inl (l, r.2)))
  | inr v ↦ (elim (contains_either (evaluate S Γ d).values _ w v) [
    | inl u ↦ behind (value_of_part S Γ d w u)
    | inr u ↦ (0, omega arith, u)
  ])
]
  where
    behind : OfSomePart S Γ d w → OfSomePart S Γ (apply e d) w
    behind (k, l, v) = (suc (parts e + k), omega (arith, l), inr (omega arith, (let z : k ≡ (parts e + k) - parts e = omega arith in subst (λ k. ValueOfPart S Γ d k w) z v)))
