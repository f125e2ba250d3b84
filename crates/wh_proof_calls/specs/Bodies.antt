-- Computable meta-substitutions: each body is computable at its type.
use Rattle.std.specs.Prelude.{ℕ, List, []}
use Rattle.wh_terms.specs.Tree.{Tm, bound, free, tms_of}
use Rattle.wh_terms.specs.Substitution.{act}
use Rattle.wh_terms.specs.Typing.{Symbols, Declared}
use Rattle.wh_terms.specs.Value.{Body, parameters}
use Rattle.wh_terms.specs.TypedBodies.{FitsDeclared}
use Rattle.wh_step_laws.specs.Computable.{Computable, ComputableList}

-- the body for a declared meta-variable has its type, and takes computable terms to a computable one (Fuhs and Kop
-- 2019)
pub record IsComputableBody (S : Symbols) (rank : ℕ → ℕ) (R : Tm → Tm → Type 0) (d : Declared) (b : Body) : Type 0 where
  pub fits : FitsDeclared S [] [] d b
  pub takes : (us : List Tm) → ComputableList S rank R d.args us
      → Computable S rank R d.out (act (parameters (tms_of us) bound) free b.tree)
