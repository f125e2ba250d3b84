-- The value of an expression under interpretations of its symbols, with all values on the way to it: each result of
-- each rule, also where it is multiplied by 0 or thrown away later. An interpretation counts only where its symbol
-- stands in the expression. Nothing here knows a limit, a merge or a short cut: what a program does instead has to come
-- to the same.
use Rattle.std.specs.Prelude.{ℕ, zero, suc, ◌+◌, ◌-◌, ◌==◌, nat_lt, List, [], ◌∷◌, ◌++◌, ◌≡◌, length, if◌then◌else◌, slice_get, Some, Contains}
use Rattle.wh_types.specs.Ty.{Ty, sort, ◌⇒◌, arguments}
use Rattle.wh_poly.specs.Polynomials.{HasType, Polynomial, zero_poly, plus, Factors, no_factors, times, Arguments, no_arguments, argument, Normal}
use Rattle.wh_poly.specs.Arithmetic.{sum_poly, multiply, renumber, constant, atom}
use Rattle.wh_poly.specs.Added.{variable}

-- a result, and all values on the way to it, itself included (ours)
pub record Run (A : Type 0) : Type 0 where
  pub result : A
  pub values : List Polynomial

-- a polynomial is a value (ours)
abbrev pub one : Polynomial → Run Polynomial
one p = record { result = p; values = p ∷ [] }

-- a result that is no value (ours)
abbrev pub pure : {A : Type 0} → A → Run A
pure a = record { result = a; values = [] }

-- one run after another, which goes on with its result (ours)
abbrev pub next : {A B : Type 0} → Run A → (A → Run B) → Run B
next r f = record { result = (f r.result).result; values = r.values ++ (f r.result).values }

-- the type of a variable of a scope, and a sort past its end (ours)
abbrev pub type_at : List Ty → ℕ → Ty
type_at [] x = sort 0
type_at (A ∷ Γ) zero = A
type_at (A ∷ Γ) (suc x) = type_at Γ x

-- the number of the variable x once v is gone (ours)
abbrev pub down : ℕ → ℕ → ℕ
down v x = if nat_lt x v then x else x - 1

-- the scope once v is gone (ours)
abbrev pub without : ℕ → List Ty → List Ty
without v [] = []
without zero (A ∷ Γ) = Γ
without (suc v) (A ∷ Γ) = A ∷ without v Γ

abbrev mutual
  -- replacing the variable v in a polynomial of the scope Γ: the sum over its monomials from the left. `head Δ ps` is
  -- what a factor headed by v, with the arguments ps after their replacement, becomes in the scope Δ; `sum` is the sum
  -- so far (Fuhs and Kop 2012)
  pub replace : (List Ty → Arguments → Run Polynomial) → ℕ → List Ty → Polynomial → Polynomial → Run Polynomial
  replace head v Γ sum zero_poly = one sum
  replace head v Γ sum (plus c us p) =
      next (replace_factors head v Γ (constant c) us) (λ m. next (one (sum_poly m sum)) (λ sum. replace head v Γ sum p))

  -- of a monomial the product that starts with the coefficient and multiplies in the factors from the left; `product`
  -- is that so far
  pub replace_factors : (List Ty → Arguments → Run Polynomial) → ℕ → List Ty → Polynomial → Factors → Run Polynomial
  replace_factors head v Γ product no_factors = one product
  replace_factors head v Γ product (times x ps us) =
      next (replace_arguments head v Γ (type_at Γ x) ps) (λ qs.
      next (if x == v then head (without v Γ) qs else one (atom (down v x) qs)) (λ a.
      next (one product) (λ product. replace_factors head v Γ (multiply product a) us)))

  -- of a factor first its arguments, each in the scope that goes on with the arguments of its type
  pub replace_arguments : (List Ty → Arguments → Run Polynomial) → ℕ → List Ty → Ty → Arguments → Run Arguments
  replace_arguments head v Γ A no_arguments = pure no_arguments
  replace_arguments head v Γ (sort s) (argument p ps) = pure no_arguments
  replace_arguments head v Γ (A ⇒ B) (argument p ps) =
      next (replace head v (Γ ++ arguments A) zero_poly p) (λ q. next (replace_arguments head v Γ B ps) (λ qs. pure (argument q qs)))

-- a value of a scope of length n, whose added variables go on from n, in the longer scope Δ, where they go on from its
-- length (ours)
abbrev pub widened : ℕ → List Ty → Polynomial → Polynomial
widened n Δ g = renumber (λ i. if nat_lt i n then i else length Δ + (i - n)) g

-- the added variables of the value g of this type replaced by arguments, one after another (Fuhs and Kop 2012)
abbrev pub applied : Ty → List Ty → Polynomial → Arguments → Run Polynomial
applied (sort s) Γ g ps = one g
applied (A ⇒ B) Γ g no_arguments = one g
applied (A ⇒ B) Γ g (argument p ps) =
    next (replace (λ Δ qs. applied A Δ (widened (length Γ) Δ p) qs) (length Γ) (Γ ++ A ∷ arguments B) zero_poly g) (λ g. applied B Γ g ps)

-- the first added variable of a value of type A ⇒ B replaced by a value of type A (Fuhs and Kop 2012)
abbrev pub apply_one : Ty → Ty → List Ty → Polynomial → Polynomial → Run Polynomial
apply_one A B Γ g p = replace (λ Δ qs. applied A Δ (widened (length Γ) Δ p) qs) (length Γ) (Γ ++ A ∷ arguments B) zero_poly g

-- an expression; its variables are numbers of a scope, and a binder's is the length of the scope that it stands in
-- (ours)
pub data Expression : Type 0 where
  var : (x : ℕ) → Expression
  symbol : (f : ℕ) → Expression
  lambda : (A : Ty) (e : Expression) → Expression
  apply : (e d : Expression) → Expression

-- what a symbol is read as: a polynomial in its arguments (Fuhs and Kop 2012)
pub record Interpretation : Type 0 where
  pub kind : Ty
  pub polynomial : Polynomial

-- what a function of this type gives, and a sort is left (ours)
abbrev pub codomain : Ty → Ty
codomain (sort s) = sort s
codomain (A ⇒ B) = B

-- the interpretation of the symbol f, and 0 past the end of the list (ours)
abbrev pub interpretation_at : List Interpretation → ℕ → Interpretation
interpretation_at [] f = record { kind = sort 0; polynomial = zero_poly }
interpretation_at (s ∷ symbols) zero = s
interpretation_at (s ∷ symbols) (suc f) = interpretation_at symbols f

-- the type of an expression in a scope (ours)
abbrev pub type_of : List Interpretation → List Ty → Expression → Ty
type_of symbols Γ (var x) = type_at Γ x
type_of symbols Γ (symbol f) = (interpretation_at symbols f).kind
type_of symbols Γ (lambda A e) = A ⇒ type_of symbols (Γ ++ A ∷ []) e
type_of symbols Γ (apply e d) = codomain (type_of symbols Γ e)

-- the value of an expression, a polynomial in the scope that goes on with the arguments of its type (Fuhs and Kop 2012)
abbrev pub evaluate : List Interpretation → List Ty → Expression → Run Polynomial
evaluate symbols Γ (var x) = one (variable (type_at Γ x) (length Γ) x)
evaluate symbols Γ (symbol f) = one (renumber (λ i. length Γ + i) (interpretation_at symbols f).polynomial)
evaluate symbols Γ (lambda A e) = evaluate symbols (Γ ++ A ∷ []) e
evaluate symbols Γ (apply e d) =
    next (evaluate symbols Γ e) (λ g. next (evaluate symbols Γ d)
    (λ p. apply_one (type_of symbols Γ d) (codomain (type_of symbols Γ e)) Γ g p))

-- an expression is well typed: its variables and symbols are there, and functions are applied to arguments of their
-- types (ours)
abbrev pub TypedExpression : List Interpretation → List Ty → Expression → Type 0
TypedExpression symbols Γ (var x) = (A : Ty) × HasType Γ x A
TypedExpression symbols Γ (symbol f) = (s : Interpretation) × slice_get symbols f ≡ Some s
TypedExpression symbols Γ (lambda A e) = TypedExpression symbols (Γ ++ A ∷ []) e
TypedExpression symbols Γ (apply e d) =
    TypedExpression symbols Γ e × TypedExpression symbols Γ d × (B : Ty) × type_of symbols Γ e ≡ (type_of symbols Γ d ⇒ B)

-- each interpretation is normal in the scope of its type's arguments (ours)
abbrev pub NormalInterpretations : List Interpretation → Type 0
NormalInterpretations symbols = (f : ℕ) (s : Interpretation) → slice_get symbols f ≡ Some s → Normal (arguments s.kind) s.polynomial

-- p is the normal form of the well-typed expression e (Fuhs and Kop 2012)
abbrev pub Norm : List Interpretation → List Ty → Expression → Polynomial → Type 0
Norm symbols Γ e p = TypedExpression symbols Γ e × (p ≡ (evaluate symbols Γ e).result)

-- w is one of the values in the evaluation of e (ours)
abbrev pub Values : List Interpretation → List Ty → Expression → Polynomial → Type 0
Values symbols Γ e w = Contains (evaluate symbols Γ e).values w
