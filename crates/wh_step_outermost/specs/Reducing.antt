-- The answer of a reduction by leftmost-outermost steps: how many were taken, the last term, and why it ends there.
use Rattle.std.specs.Prelude.{ℕ, ◌≡◌, ◌<◌, ◌≤◌, List}
use Rattle.wh_terms.specs.Tree.{Tm}
use Rattle.wh_terms.specs.Measures.{Fits}
use Rattle.wh_terms.specs.Rules.{RewriteRule}
use Rattle.wh_step.specs.Step.{Step}
use Rattle.wh_step_outermost.specs.Leftmost.{Leftmost, IsNormal, LeadsTo}
use Rattle.wh_step_outermost.specs.declared.reducing.End.{End}
use Rattle.wh_step_outermost.specs.declared.reducing.End.TheVariants.{Normal, Spent, TooBig}

-- why no step is taken from u after n steps of those asked for: it has none; it has one, and all are taken; its
-- leftmost-outermost step leads to a term that does not fit
abbrev pub EndsBy : List RewriteRule → ℕ → ℕ → Tm → End → Type 0
EndsBy rules asked n u Normal = IsNormal rules u
EndsBy rules asked n u Spent = (n ≡ asked) × ((v : Tm) × Step rules u v)
EndsBy rules asked n u TooBig = (n < asked) × ((v : Tm) × Leftmost rules u v × (Fits v → ⊥))

-- n leftmost-outermost steps of those asked for lead from t to u, all results fit, and no step more is taken, for the
-- reason e
pub record Reduces (rules : List RewriteRule) (t : Tm) (asked n : ℕ) (u : Tm) (e : End) : Type 0 where
  pub steps : LeadsTo rules t n u
  pub within : n ≤ asked
  pub end : EndsBy rules asked n u e
