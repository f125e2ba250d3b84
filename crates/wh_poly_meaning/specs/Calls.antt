-- What marked calls are worth, and when the sides of a pair are covered. A marked symbol has an interpretation of its
-- own; `k` is its number.
use Rattle.std.specs.Prelude.{ℕ, List, [], ◌≡◌, Some, slice_get}
use Rattle.wh_types.specs.Ty.{Ty, sort}
use Rattle.wh_terms.specs.Tree.{Tms}
use Rattle.wh_terms.specs.Sight.{OccursIn, AllNoFree}
use Rattle.wh_terms.specs.Typing.{Symbols, Declared, AllTyped}
use Rattle.wh_terms.specs.Value.{Body}
use Rattle.wh_terms.specs.TypedBodies.{FitsDeclared}
use Rattle.wh_hopoly.specs.Evaluation.{Interpretation}
use Rattle.wh_poly_meaning.specs.Functionals.{nothing}
use Rattle.wh_poly_meaning.specs.Valuations.{Valuation}
use Rattle.wh_poly_meaning.specs.TermValues.{fed, of_interpretations}
use Rattle.wh_polycheck.specs.Sides.{arrows}
use Rattle.wh_polycheck.specs.Sides.{IsInterpretedAs}

-- all variables are 0
abbrev pub all_nothing : Valuation
all_nothing x A = nothing A

-- a call of the marked symbol k, whose arguments have the types cs, is worth what its interpretation gives at their
-- values, with all free variables 0 (Fuhs and Kop 2012)
abbrev pub call_value : Symbols → List Interpretation → ℕ → List Ty → ℕ → Tms → ℕ
call_value S symbols k cs s ts =
    fed S [] (record { of_symbols = of_interpretations symbols; of_metas = all_nothing; of_free = all_nothing }) [] all_nothing cs (sort s)
    (of_interpretations symbols k (arrows cs (sort s))) ts

-- a marked side is well made: its symbol has an interpretation that takes its arguments to a sort, and they are typed
-- and closed (ours)
pub record IsMarkedSide (S : Symbols) (symbols : List Interpretation) (M : List Declared) (k : ℕ) (cs : List Ty) (s : ℕ) (ts : Tms)
    : Type 0 where
  pub interpreted : IsInterpretedAs symbols k (arrows cs (sort s))
  pub typed : AllTyped S M [] ts cs
  pub closed : AllNoFree ts

-- the meta-variables of a side have typed bodies without loose variables but their parameters (ours)
abbrev pub HasTypedBodies : Symbols → List Declared → (ℕ → Body) → Tms → Type 0
HasTypedBodies S M g ts = (z : ℕ) (d : Declared) → OccursIn z ts → slice_get M z ≡ Some d → FitsDeclared S [] [] d (g z)
