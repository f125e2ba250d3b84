-- The outcome of a step in place. These are working forms, which callers do not see.
use Rattle.std.specs.Prelude.{ℕ, ◌≡◌, List}
use Rattle.wh_terms.specs.Tree.{Tm}
use Rattle.wh_terms.specs.Measures.{size, Fits}
use Rattle.wh_terms.specs.Erase.{tm}
use Rattle.wh_terms.specs.Rules.{RewriteRule}
use Rattle.wh_terms.specs.declared.path.Step as taken
use Rattle.wh_step.specs.Replay.{StepAt}
use Rattle.wh_step.specs.Roots.{put_at}
use Rattle.wh_step.specs.declared.stepping.Replacement.{Replacement}
use Rattle.wh_step.specs.declared.stepping.Replacement.TheVariants as replaced
use Rattle.wh_step.specs.declared.stepping.Outcome.{Outcome}
use Rattle.wh_step.specs.declared.stepping.Outcome.TheVariants.{Taken, Nowhere, PastLimit}

-- t steps to u, which fits and has the size n
pub record TakesTo (rules : List RewriteRule) (s : taken.Step) (t u : Tm) (n : ℕ) : Type 0 where
  pub step : StepAt rules s.rule s.path t u
  pub fits : Fits u
  pub sized : n ≡ size u

-- the step applies, and its result does not fit
abbrev pub IsPast : List RewriteRule → taken.Step → Tm → Type 0
IsPast rules s t = (u : Tm) × StepAt rules s.rule s.path t u × (Fits u → ⊥)

-- the step does not apply
abbrev pub NoStep : List RewriteRule → taken.Step → Tm → Type 0
NoStep rules s t = (u : Tm) → StepAt rules s.rule s.path t u → ⊥

-- what a step puts in place of its redex in t
abbrev pub Replaces : List RewriteRule → taken.Step → Tm → Replacement → Type 0
Replaces rules s t (replaced.Part v n) = TakesTo rules s t (put_at s.path (tm v) t) n
Replaces rules s t replaced.Nowhere = NoStep rules s t
Replaces rules s t replaced.PastLimit = IsPast rules s t

-- what a step does: t was there, and u is there now
abbrev pub Takes : List RewriteRule → taken.Step → Tm → Tm → Outcome → Type 0
Takes rules s t u (Taken n) = TakesTo rules s t u n
Takes rules s t u Nowhere = NoStep rules s t × (u ≡ t)
Takes rules s t u PastLimit = IsPast rules s t × (u ≡ t)
