-- The answers of one step of a term: its result, if that fits and is small.
use Rattle.std.specs.Prelude.{◌≡◌, ◌≤◌, List, Option, Some, None}
use Rattle.wh_types.specs.Limits.{greatest_searched}
use Rattle.wh_terms.specs.Tree.{Tm}
use Rattle.wh_terms.specs.Measures.{Fits, size}
use Rattle.wh_terms.specs.Erase.{tm}
use Rattle.wh_terms.specs.Rules.{RewriteRule}
use Rattle.wh_terms.specs.declared.term.Term.{Term}
use Rattle.wh_terms.specs.declared.path.Step as taken
use Rattle.wh_step.specs.Replay.{StepAt}

-- the step leads from t to u, which fits and is small (ours)
abbrev pub IsReduct : List RewriteRule → taken.Step → Tm → Tm → Type 0
IsReduct rules s t u = StepAt rules s.rule s.path t u × Fits u × (size u ≤ greatest_searched)

-- the step leads to no such term
abbrev pub HasNoReduct : List RewriteRule → taken.Step → Tm → Type 0
HasNoReduct rules s t = (u : Tm) → IsReduct rules s t u → ⊥

-- what the step leads to, if that fits and is small
abbrev pub Reduces : List RewriteRule → taken.Step → Tm → Option Term → Type 0
Reduces rules s t (Some u) = IsReduct rules s t (tm u)
Reduces rules s t None = HasNoReduct rules s t

-- the term, where it is small
abbrev pub IsIfSmall : Term → Option Term → Type 0
IsIfSmall t (Some u) = (u ≡ t) × (size (tm t) ≤ greatest_searched)
IsIfSmall t None = size (tm t) ≤ greatest_searched → ⊥

-- a copy of the tree, which fits and is small; or it is not so
abbrev pub IsCopyInSpace : Tm → Option Term → Type 0
IsCopyInSpace t (Some u) = (tm u ≡ t) × Fits t × (size t ≤ greatest_searched)
IsCopyInSpace t None = Fits t → size t ≤ greatest_searched → ⊥
