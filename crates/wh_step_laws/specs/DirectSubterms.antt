-- Direct subterms, and sequences of steps and direct subterms together.
use Rattle.std.specs.Prelude.{◌⊎◌}
use Rattle.wh_terms.specs.Tree.{Tm, app}

-- `HasPart t u`: u is a direct subterm of t, the function or the argument of an application; no binder is crossed
-- (ours)
pub data HasPart : Tm → Tm → Type 0 where
  function_part : {t u : Tm} → HasPart (app t u) t
  argument_part : {t u : Tm} → HasPart (app t u) u

-- t steps to u by R, or u is a direct subterm of t
abbrev pub StepOrPart : (Tm → Tm → Type 0) → Tm → Tm → Type 0
StepOrPart R t u = R t u ⊎ HasPart t u
