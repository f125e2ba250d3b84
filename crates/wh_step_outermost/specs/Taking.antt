-- The outcome of a step of a term in place. These are working forms, which callers do not see.
use Rattle.std.specs.Prelude.{ℕ, ◌≡◌, List, Option, Some, None}
use Rattle.wh_terms.specs.Tree.{Tm}
use Rattle.wh_terms.specs.Erase.{tm}
use Rattle.wh_terms.specs.Rules.{RewriteRule}
use Rattle.wh_terms.specs.declared.path.Step as taken
use Rattle.wh_step.specs.Roots.{put_at}
use Rattle.wh_step.specs.Stepping.{TakesTo, IsPast}
use Rattle.wh_step_outermost.specs.declared.taking.Replacement.{Replacement}

-- what the step puts in place of its redex in t, where the result fits
abbrev pub Replaces : List RewriteRule → taken.Step → Tm → Option Replacement → Type 0
Replaces rules s t (Some r) = TakesTo rules s t (put_at s.path (tm r.part) t) r.total
Replaces rules s t None = IsPast rules s t

-- the step is taken: t was there, and u, of this size, is there now; or the result does not fit, and t is there still
abbrev pub Takes : List RewriteRule → taken.Step → Tm → Tm → Option ℕ → Type 0
Takes rules s t u (Some n) = TakesTo rules s t u n
Takes rules s t u None = IsPast rules s t × (u ≡ t)
