-- A step at a place, and a list of steps that follow each other.
use Rattle.std.specs.Prelude.{ℕ, ◌≡◌, List, [], ◌∷◌, Option, Some, None, slice_get}
use Rattle.wh_types.specs.Ty.{Ty}
use Rattle.wh_terms.specs.Tree.{Tm, free, lam, app}
use Rattle.wh_terms.specs.Substitution.{opened}
use Rattle.wh_terms.specs.Sight.{Fresh}
use Rattle.wh_terms.specs.Value.{Body, Value}
use Rattle.wh_terms.specs.Measures.{Fits}
use Rattle.wh_terms.specs.Rules.{RewriteRule}
use Rattle.wh_terms.specs.declared.path.Step as taken
use Rattle.wh_step.specs.Step.{AreWhole}

-- `StepAt rules k path t u`: t steps to u at the path, by the rule number k, or by beta where there is no number (Kop
-- 2012)
pub data StepAt (rules : List RewriteRule) : Option ℕ → List ℕ → Tm → Tm → Type 0 where
  beta_here : {a : Ty} {t u v : Tm} → v ≡ opened u t → StepAt rules None [] (app (lam a t) u) v
  rule_here : {k : ℕ} {t u : Tm} (r : RewriteRule) (g : ℕ → Body) → slice_get rules k ≡ Some r → AreWhole g r → Value g r.left t
      → Value g r.right u → StepAt rules (Some k) [] t u
  at_function : {k : Option ℕ} {path : List ℕ} {t t' u : Tm} → StepAt rules k path t t' → StepAt rules k (0 ∷ path) (app t u) (app t' u)
  at_argument : {k : Option ℕ} {path : List ℕ} {t u u' : Tm} → StepAt rules k path u u' → StepAt rules k (1 ∷ path) (app t u) (app t u')
  at_body : {k : Option ℕ} {path : List ℕ} {a : Ty} {t t' : Tm} (x : ℕ) → Fresh x t → Fresh x t'
      → StepAt rules k path (opened (free x a) t) (opened (free x a) t') → StepAt rules k (0 ∷ path) (lam a t) (lam a t')

-- the steps follow each other from t to u, and each result fits
abbrev pub Replays : List RewriteRule → List taken.Step → Tm → Tm → Type 0
Replays rules [] t u = t ≡ u
Replays rules (s ∷ steps) t u = (v : Tm) × StepAt rules s.rule s.path t v × Fits v × Replays rules steps v u
