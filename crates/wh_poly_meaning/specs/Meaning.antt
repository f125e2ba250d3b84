-- What polynomials and expressions mean under a valuation of their variables.
use Rattle.std.specs.Prelude.{ℕ, ◌+◌, ◌*◌, List, [], ◌∷◌, ◌++◌, length}
use native.Mathlib.Decide.{ℕ_discrete}
use Rattle.wh_types.specs.Ty.{Ty, Ty-discrete, sort, ◌⇒◌, arguments}
use Rattle.wh_poly.specs.Polynomials.{Polynomial, zero_poly, plus, Factors, no_factors, times, Arguments, no_arguments, argument}
use Rattle.wh_hopoly.specs.Evaluation.{type_at, Expression, var, symbol, lambda, apply, Interpretation, interpretation_at, type_of, codomain}
use Rattle.wh_poly_meaning.specs.Functionals.{Sem, nothing}
use Rattle.wh_poly_meaning.specs.Valuations.{Valuation, at_type, put, fun_of}

abbrev mutual
  -- the number that a polynomial of the scope Γ means: its sums and products are those of numbers (Fuhs and Kop 2012)
  pub den : List Ty → Valuation → Polynomial → ℕ
  den Γ ψ zero_poly = 0
  den Γ ψ (plus c us p) = c * den_factors Γ ψ us + den Γ ψ p

  -- a factor is the value of its variable, applied to what the arguments mean (Fuhs and Kop 2012)
  pub den_factors : List Ty → Valuation → Factors → ℕ
  den_factors Γ ψ no_factors = 1
  den_factors Γ ψ (times x ps us) = den_arguments Γ ψ (type_at Γ x) (ψ x (type_at Γ x)) ps * den_factors Γ ψ us

  -- an argument means a function of the variables that its scope goes on with; too few or too many arguments give 0
  -- (Fuhs and Kop 2012)
  pub den_arguments : List Ty → Valuation → (A : Ty) → Sem A → Arguments → ℕ
  den_arguments Γ ψ (sort s) f no_arguments = f
  den_arguments Γ ψ (A ⇒ B) f no_arguments = 0
  den_arguments Γ ψ (sort s) f (argument p ps) = 0
  den_arguments Γ ψ (A ⇒ B) f (argument p ps) =
      den_arguments Γ ψ B (f (fun_of A (length Γ) ψ (λ χ. den (Γ ++ arguments A) χ p))) ps

-- what a polynomial means that is the value of something of type A in the scope Γ: a function of the added variables
-- (ours)
abbrev pub reading : (A : Ty) → List Ty → Valuation → Polynomial → Sem A
reading A Γ ψ p = fun_of A (length Γ) ψ (λ χ. den (Γ ++ arguments A) χ p)

-- a value of the type C applied to one of the type A, and to 0 where the types do not fit (ours)
unfoldable pub apply_at : (C A : Ty) → Sem C → Sem A → Sem (codomain C)
apply_at (sort s) A f a = f
apply_at (B ⇒ C) A f a = f (at_type A B (Ty-discrete ℕ_discrete A B) a (nothing B))

-- what an expression means in the scope Γ: each symbol means its interpretation (Fuhs and Kop 2012)
abbrev pub mean : (symbols : List Interpretation) (Γ : List Ty) (e : Expression) → Valuation → Sem (type_of symbols Γ e)
mean symbols Γ (var x) ψ = ψ x (type_at Γ x)
mean symbols Γ (symbol f) ψ =
    reading (interpretation_at symbols f).kind [] ψ (interpretation_at symbols f).polynomial
mean symbols Γ (lambda A e) ψ = λ a. mean symbols (Γ ++ A ∷ []) e (put (length Γ) A a ψ)
mean symbols Γ (apply e d) ψ =
    apply_at (type_of symbols Γ e) (type_of symbols Γ d) (mean symbols Γ e ψ) (mean symbols Γ d ψ)
