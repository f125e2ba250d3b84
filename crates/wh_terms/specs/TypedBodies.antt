-- Typed meta-substitutions: each body has the type that its meta-variable is declared with (Fuhs and Kop 2019).
use Rattle.std.specs.Prelude.{ℕ, ◌≡◌, List, [], ◌∷◌, length, Some, slice_get}
use Rattle.wh_types.specs.Ty.{Ty}
use Rattle.wh_terms.specs.Tree.{Tm}
use Rattle.wh_terms.specs.Sight.{Occurs}
use Rattle.wh_terms.specs.Typing.{Symbols, Declared, Typed}
use Rattle.wh_terms.specs.Value.{Body}

-- the types of the loose variables of a body: those of its parameters, the last one nearest, and behind them Γ
abbrev pub parameter_types : List Ty → List Ty → List Ty
parameter_types [] Γ = Γ
parameter_types (c ∷ cs) Γ = parameter_types cs (c ∷ Γ)

-- a body for the declared meta-variable d, over symbols S and meta-variables N, where further loose variables have the
-- types Γ
pub record FitsDeclared (S : Symbols) (N : List Declared) (Γ : List Ty) (d : Declared) (b : Body) : Type 0 where
  pub counted : b.arity ≡ length d.args
  pub typed : Typed S N (parameter_types d.args Γ) b.tree d.out

-- the bodies of the meta-variables of a tree, which are declared in M, are typed
abbrev pub TypedBodies : Symbols → List Declared → List Declared → List Ty → (ℕ → Body) → Tm → Type 0
TypedBodies S M N Γ g t = (z : ℕ) (d : Declared) → Occurs z t → slice_get M z ≡ Some d → FitsDeclared S N Γ d (g z)
