-- The parts of an expression by their preorder numbers, and the values that the rule of each part gives.
use Rattle.std.specs.Prelude.{ℕ, zero, suc, ◌+◌, ◌-◌, ◌<◌, ◌≤◌, ◌⊎◌, List, [], ◌∷◌, ◌++◌, Contains}
use Rattle.wh_types.specs.Ty.{Ty}
use Rattle.wh_poly.specs.Polynomials.{Polynomial}
use Rattle.wh_hopoly.specs.Evaluation.{Expression, var, symbol, lambda, apply, Interpretation, evaluate, apply_one, type_of, codomain}

-- how many parts an expression has, itself included (ours)
abbrev pub parts : Expression → ℕ
parts (var x) = 1
parts (symbol f) = 1
parts (lambda A e) = 1 + parts e
parts (apply e d) = 1 + (parts e + parts d)

-- the values that the rule of the expression itself gives: of an application its replacements, of an abstraction none
-- (ours)
abbrev pub own_values : List Interpretation → List Ty → Expression → List Polynomial
own_values symbols Γ (var x) = (evaluate symbols Γ (var x)).values
own_values symbols Γ (symbol f) = (evaluate symbols Γ (symbol f)).values
own_values symbols Γ (lambda A e) = []
own_values symbols Γ (apply e d) =
    (apply_one (type_of symbols Γ d) (codomain (type_of symbols Γ e)) Γ (evaluate symbols Γ e).result (evaluate symbols Γ d).result).values

-- the rule of the part with this preorder number gives the value (ours)
abbrev pub ValueOfPart : List Interpretation → List Ty → Expression → ℕ → Polynomial → Type 0
ValueOfPart symbols Γ e zero w = Contains (own_values symbols Γ e) w
ValueOfPart symbols Γ (var x) (suc k) w = ⊥
ValueOfPart symbols Γ (symbol f) (suc k) w = ⊥
ValueOfPart symbols Γ (lambda A e) (suc k) w = ValueOfPart symbols (Γ ++ A ∷ []) e k w
ValueOfPart symbols Γ (apply e d) (suc k) w = (k < parts e × ValueOfPart symbols Γ e k w)
    ⊎ (parts e ≤ k × ValueOfPart symbols Γ d (k - parts e) w)
