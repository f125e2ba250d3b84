-- The polynomials among which interpretations are looked for: sums of few monomials with small coefficients.
use Rattle.std.specs.Prelude.{ℕ, suc, ◌≤◌, nat_lt, Bool, true, false, not, List, [], ◌∷◌, ◌++◌, map, if◌then◌else◌, Contains}
use Rattle.wh_types.specs.Ty.{Ty, sort, ◌⇒◌}
use Rattle.wh_poly.specs.Polynomials.{Polynomial, zero_poly, plus, Factors, no_factors, times, Arguments, no_arguments, argument, Normal}
use Rattle.wh_hopoly.specs.Evaluation.{type_at}
use Rattle.wh_hopoly.specs.Moves.{MonomialAt}

-- whether the type is a sort
abbrev pub is_sort : Ty → Bool
is_sort (sort s) = true
is_sort (a ⇒ b) = false

-- the numbers, from n on, of the variables of a scope whose types pass the test
abbrev pub variables_where : (Ty → Bool) → ℕ → List Ty → List ℕ
variables_where test n [] = []
variables_where test n (A ∷ Γ) = if test A then n ∷ variables_where test (suc n) Γ else variables_where test (suc n) Γ

-- the variables of a sort, and the functional ones
abbrev pub sort_variables : List Ty → List ℕ
sort_variables = variables_where is_sort 0

abbrev pub functional_variables : List Ty → List ℕ
functional_variables = variables_where (λ A. not (is_sort A)) 0

-- the sum of variables without arguments
abbrev pub sum_of_variables : List ℕ → Polynomial
sum_of_variables [] = zero_poly
sum_of_variables (x ∷ xs) = plus 1 (times x no_arguments no_factors) (sum_of_variables xs)

-- arguments for a type: the polynomial for each sort, and 0 for each functional type (ours)
abbrev pub filled : Polynomial → Ty → Arguments
filled p (sort s) = no_arguments
filled p (A ⇒ B) = argument (if is_sort A then p else zero_poly) (filled p B)

-- the variable x of the scope, its arguments the sum of all variables of a sort or 0, before other factors (ours)
abbrev pub variable_before : List Ty → ℕ → Factors → Factors
variable_before Γ x us = times x (filled (sum_of_variables (sort_variables Γ)) (type_at Γ x)) us

abbrev pub alone : List Ty → ℕ → Factors
alone Γ x = variable_before Γ x no_factors

-- two variables, the one with the lesser number first
abbrev pub both : List Ty → ℕ → ℕ → Factors
both Γ x y = if nat_lt x y then variable_before Γ x (alone Γ y) else variable_before Γ y (alone Γ x)

-- each of the functional variables times each variable of a sort
abbrev pub products : List Ty → List ℕ → List Factors
products Γ [] = []
products Γ (x ∷ xs) = map (both Γ x) (sort_variables Γ) ++ products Γ xs

-- the monomials that are tried: the constant, each variable of a sort, each functional one, and each of these times
-- each of those (ours)
unfoldable pub space_of : List Ty → List Factors
space_of Γ =
    no_factors ∷ (map (alone Γ) (sort_variables Γ) ++ (map (alone Γ) (functional_variables Γ) ++ products Γ (functional_variables Γ)))

-- the polynomial has a monomial of this coefficient and these factors
abbrev pub HasMonomial : Polynomial → ℕ → Factors → Type 0
HasMonomial p c us = (i : ℕ) × MonomialAt p i c us

-- the polynomial is one of those that are tried: normal, with coefficients to 3, and with monomials of the space (ours)
pub record IsOfSpace (Γ : List Ty) (p : Polynomial) : Type 0 where
  pub normal : Normal Γ p
  pub monomials : (c : ℕ) (us : Factors) → HasMonomial p c us → (c ≤ 3) × Contains (space_of Γ) us
