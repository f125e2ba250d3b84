-- One step of a system: by beta, or by a rule, at any position. Reductions are made of such steps.
use Rattle.std.specs.Prelude.{ℕ, ◌≡◌, List, Contains}
use Rattle.wh_types.specs.Ty.{Ty}
use Rattle.wh_terms.specs.Tree.{Tm, free, lam, app}
use Rattle.wh_terms.specs.Substitution.{opened}
use Rattle.wh_terms.specs.Sight.{Fresh, Occurs}
use Rattle.wh_terms.specs.Value.{Body, Value, IsWhole}
use Rattle.wh_terms.specs.Rules.{RewriteRule}

-- the bodies that a rule looks at are whole: a meta-substitution brings neither meta-variables nor loose variables
abbrev pub AreWhole : (ℕ → Body) → RewriteRule → Type 0
AreWhole g r = (z : ℕ) → Occurs z r.left → IsWhole (g z)

-- `Step rules t u`: t steps to u (Kop 2012; Fuhs and Kop 2019). There is no eta step.
pub data Step (rules : List RewriteRule) : Tm → Tm → Type 0 where
  -- an abstraction with an argument steps to its body with the argument for its variable
  beta : {a : Ty} {t u v : Tm} → v ≡ opened u t → Step rules (app (lam a t) u) v
  -- the values of the two sides of a rule under one meta-substitution
  by_rule : {t u : Tm} (r : RewriteRule) (g : ℕ → Body) → Contains rules r → AreWhole g r → Value g r.left t → Value g r.right u
      → Step rules t u
  -- a step in the function, or in the argument, of an application
  in_function : {t t' u : Tm} → Step rules t t' → Step rules (app t u) (app t' u)
  in_argument : {t u u' : Tm} → Step rules u u' → Step rules (app t u) (app t u')
  -- a step in the body of an abstraction, opened with a variable that is fresh for both bodies
  in_body : {a : Ty} {t t' : Tm} (x : ℕ) → Fresh x t → Fresh x t' → Step rules (opened (free x a) t) (opened (free x a) t')
      → Step rules (lam a t) (lam a t')
