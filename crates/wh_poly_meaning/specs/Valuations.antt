-- Valuations: a value for each variable, told by its number and its type.
use Rattle.std.specs.Prelude.{ℕ, suc, eqb, ◌≡◌, true, false}
use mathlib.Core.Path.{subst}
use native.Mathlib.Decide.{ℕ_discrete}
use Rattle.wh_types.specs.Ty.{Ty, Ty-discrete, sort, ◌⇒◌}
use Rattle.wh_poly_meaning.specs.Functionals.{Sem, Mono, Le}

-- a valuation (Fuhs and Kop 2012; that the type is handed in is ours)
abbrev pub Valuation : Type 0
Valuation = (x : ℕ) (A : Ty) → Sem A

-- the first value where the types are equal, the second where they are not (ours)
unfoldable pub at_type : (A B : Ty) → Dec (A ≡ B) → Sem A → Sem B → Sem B
at_type A B (yes e) x y = subst Sem e x
at_type A B (no n) x y = y

-- the valuation with x for the variable n of type B (ours)
unfoldable pub put : ℕ → (B : Ty) → Sem B → Valuation → Valuation
put n B x ψ i A = elim (eqb i n) [ true ↦ at_type B A (Ty-discrete ℕ_discrete B A) x (ψ i A) | false ↦ ψ i A ]

-- each value is monotone (Fuhs and Kop 2012)
abbrev pub MonoValuation : Valuation → Type 0
MonoValuation ψ = (x : ℕ) (A : Ty) → Mono A (ψ x A)

-- each value of the first is at most that of the second (Fuhs and Kop 2012)
abbrev pub LeValuation : Valuation → Valuation → Type 0
LeValuation ψ χ = (x : ℕ) (A : Ty) → Le A (ψ x A) (χ x A)

-- a number that depends on the added variables, numbered from n, as a function of them (ours)
abbrev pub fun_of : (A : Ty) → ℕ → Valuation → (Valuation → ℕ) → Sem A
fun_of (sort s) n ψ f = f ψ
fun_of (A ⇒ B) n ψ f = λ a. fun_of B (suc n) (put n A a ψ) f
