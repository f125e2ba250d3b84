-- Steps at the root of a tree, and at a place of it, with no binder opened.
use Rattle.std.specs.Prelude.{ℕ, zero, suc, ◌≡◌, List, [], ◌∷◌, Option, Some, None, slice_get}
use Rattle.wh_terms.specs.Tree.{Tm, fun, lam, app}
use Rattle.wh_terms.specs.Substitution.{opened}
use Rattle.wh_terms.specs.Value.{Body, Value}
use Rattle.wh_terms.specs.Places.{part_at}
use Rattle.wh_terms.specs.Rules.{RewriteRule}

-- beta at the root
abbrev pub BetaStep : Tm → Tm → Type 0
BetaStep (app (lam a t) u) v = v ≡ opened u t
BetaStep _ v = ⊥

-- t and v are the values of the two sides of a rule; loose variables of t may stand in the bodies
abbrev pub RuleStep : RewriteRule → Tm → Tm → Type 0
RuleStep r t v = (g : ℕ → Body) × Value g r.left t × Value g r.right v

-- a step at the root, by the rule number k, or by beta where there is no number
abbrev pub RootStep : List RewriteRule → Option ℕ → Tm → Tm → Type 0
RootStep rules None t v = BetaStep t v
RootStep rules (Some k) t v = (r : RewriteRule) × (slice_get rules k ≡ Some r) × RuleStep r t v

-- the tree t with v in place of its part at the path
abbrev pub put_at : List ℕ → Tm → Tm → Tm
put_at [] v t = v
put_at (zero ∷ path) v (app t u) = app (put_at path v t) u
put_at (suc d ∷ path) v (app t u) = app t (put_at path v u)
put_at (d ∷ path) v (lam a t) = lam a (put_at path v t)
put_at (d ∷ path) v t = t

-- a step at a place: the part there steps at its root (ours; the working form of `StepAt`)
pub record StepsAt (rules : List RewriteRule) (k : Option ℕ) (path : List ℕ) (t u : Tm) : Type 0 where
  pub redex : Tm
  pub contractum : Tm
  pub here : part_at path t ≡ Some redex
  pub steps : RootStep rules k redex contractum
  pub whole : u ≡ put_at path contractum t

-- two spines have the same symbol at their head and as many arguments
abbrev pub SameHead : Tm → Tm → Type 0
SameHead (app p q) (app t u) = SameHead p t
SameHead (fun f) (fun g) = f ≡ g
SameHead _ _ = ⊥
