-- The leftmost-outermost step of a term, and the terms that such steps lead to.
use Rattle.std.specs.Prelude.{ℕ, ◌≡◌, List, All, length, Option}
use Rattle.wh_terms.specs.Tree.{Tm}
use Rattle.wh_terms.specs.Measures.{Fits}
use Rattle.wh_terms.specs.Rules.{RewriteRule}
use Rattle.wh_step.specs.Step.{Step}
use Rattle.wh_step.specs.Replay.{StepAt}
use Rattle.wh_step.specs.Reducts.{Redex, Precedes}
use Rattle.wh_step.specs.Reduction.{Walk, last_of}

-- t steps to u at the redex, and at no redex before it: a term comes before its parts, a function before its argument,
-- beta before the rules, a rule before later ones
pub record IsFirstStep (rules : List RewriteRule) (t : Tm) (a : Redex) (u : Tm) : Type 0 where
  pub applies : StepAt rules a.rule a.path t u
  pub first : (b : Redex) (v : Tm) → StepAt rules b.rule b.path t v → Precedes b a → ⊥

-- the leftmost-outermost step leads from t to u (Baader and Nipkow 1998; at one place the order of rules is ours)
abbrev pub Leftmost : List RewriteRule → Tm → Tm → Type 0
Leftmost rules t u = (a : Redex) × IsFirstStep rules t a u

-- the leftmost-outermost step of t is the one by this rule, or by beta where there is none, at this place
abbrev pub StepsFirstBy : List RewriteRule → Tm → Option ℕ → List ℕ → Type 0
StepsFirstBy rules t k path = (u : Tm) × IsFirstStep rules t (record { rule = k; path = path }) u

-- t steps to nothing
abbrev pub IsNormal : List RewriteRule → Tm → Type 0
IsNormal rules t = (u : Tm) → Step rules t u → ⊥

-- n leftmost-outermost steps lead from t to u, and all results fit
pub record LeadsTo (rules : List RewriteRule) (t : Tm) (n : ℕ) (u : Tm) : Type 0 where
  pub results : List Tm
  pub steps : Walk (Leftmost rules) t results
  pub fit : All Fits results
  pub counted : length results ≡ n
  pub last : last_of t results ≡ u
