-- What terms and meta-terms mean. Values are total on trees, with the type handed in, so that no proof of typing is
-- computed with.
use Rattle.std.specs.Prelude.{ℕ, zero, suc, List, [], ◌∷◌}
use native.Mathlib.Decide.{ℕ_discrete}
use Rattle.wh_types.specs.Ty.{Ty, Ty-discrete, sort, ◌⇒◌}
use Rattle.wh_terms.specs.Tree.{Tm, bound, free, fun, meta, lam, app, Tms, none, more}
use Rattle.wh_terms.specs.Typing.{Symbols, Declared}
use Rattle.wh_hopoly.specs.Evaluation.{type_at, codomain, Interpretation, interpretation_at}
use Rattle.wh_poly_meaning.specs.Functionals.{Sem, nothing}
use Rattle.wh_poly_meaning.specs.Valuations.{Valuation, at_type, MonoValuation}
use Rattle.wh_poly_meaning.specs.Meaning.{reading}
use Rattle.wh_polycheck.specs.Sides.{arrows}

-- a declared meta-variable by its number, and a sort past the end of the list (ours)
abbrev pub declared_at : List Declared → ℕ → Declared
declared_at [] z = record { args = []; out = sort 0 }
declared_at (d ∷ M) zero = d
declared_at (d ∷ M) (suc z) = declared_at M z

-- the type that a tree has if it is well typed (ours)
abbrev pub type_in : Symbols → List Declared → List Ty → Tm → Ty
type_in S M Γ (bound i) = type_at Γ i
type_in S M Γ (free x a) = a
type_in S M Γ (fun f) = type_at S.funs f
type_in S M Γ (meta z ts) = (declared_at M z).out
type_in S M Γ (lam a t) = a ⇒ type_in S M (a ∷ Γ) t
type_in S M Γ (app t u) = codomain (type_in S M Γ t)

-- what symbols, meta-variables and free variables mean (ours)
pub record Meanings : Type 0 where
  pub of_symbols : Valuation
  pub of_metas : Valuation
  pub of_free : Valuation

-- all of them are monotone
pub record MonoMeanings (m : Meanings) : Type 0 where
  pub symbols : MonoValuation m.of_symbols
  pub metas : MonoValuation m.of_metas
  pub free : MonoValuation m.of_free

-- the values of loose variables below one binder more, whose variable has the value v (ours)
abbrev pub push : (B : Ty) → Sem B → Valuation → Valuation
push B v ρ zero A = at_type B A (Ty-discrete ℕ_discrete B A) v (nothing A)
push B v ρ (suc i) A = ρ i A

abbrev mutual
  -- the value of a tree at a type, where Γ and ρ have the types and values of its loose variables: an abstraction is a
  -- function, an application applies one (Fuhs and Kop 2012)
  pub value_in : Symbols → List Declared → Meanings → List Ty → Tm → Valuation → (A : Ty) → Sem A
  value_in S M m Γ (bound i) ρ A = ρ i A
  value_in S M m Γ (free x b) ρ A = m.of_free x A
  value_in S M m Γ (fun f) ρ A = m.of_symbols f A
  value_in S M m Γ (meta z ts) ρ A =
      fed S M m Γ ρ (declared_at M z).args A (m.of_metas z (arrows (declared_at M z).args A)) ts
  value_in S M m Γ (lam b t) ρ (sort s) = 0
  value_in S M m Γ (lam b t) ρ (A ⇒ C) = λ v. value_in S M m (b ∷ Γ) t (push A v ρ) C
  value_in S M m Γ (app t u) ρ A =
      value_in S M m Γ t ρ (type_in S M Γ u ⇒ A) (value_in S M m Γ u ρ (type_in S M Γ u))

  -- a function of arguments of the types, applied to the values of trees (Fuhs and Kop 2012)
  pub fed : Symbols → List Declared → Meanings → List Ty → Valuation → (cs : List Ty) (A : Ty) → Sem (arrows cs A) → Tms → Sem A
  fed S M m Γ ρ [] A f none = f
  fed S M m Γ ρ [] A f (more t ts) = f
  fed S M m Γ ρ (c ∷ cs) A f none = nothing A
  fed S M m Γ ρ (c ∷ cs) A f (more t ts) = fed S M m Γ ρ cs A (f (value_in S M m Γ t ρ c)) ts

-- symbols mean their interpretations (Fuhs and Kop 2012)
abbrev pub of_interpretations : List Interpretation → Valuation
of_interpretations symbols f A = reading A [] (λ x B. nothing B) (interpretation_at symbols f).polynomial

-- the value of a term whose free variables have the values of ψ
abbrev pub term_value : Symbols → List Interpretation → Valuation → List Ty → Tm → Valuation → (A : Ty) → Sem A
term_value S symbols ψ = value_in S [] (record { of_symbols = of_interpretations symbols; of_metas = λ z A. nothing A; of_free = ψ })
