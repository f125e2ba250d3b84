-- Steps bring no free variable: sides of rules have none.
use Rattle.std.proofs.Common.{ℕ, suc, ◌+◌, List, sym, subst, inl, inr}
use Rattle.wh_terms.specs.Tree.{Tm, bound, free, fun, meta, lam, app}
use Rattle.wh_terms.specs.Sight.{Fresh}
use Rattle.wh_terms.specs.Pattern.{IsPatternUnder, IsPatternSpine}
use Rattle.wh_terms.specs.Typing.{Symbols}
use Rattle.wh_terms.specs.Rules.{RewriteRule, AreWellMade}
use Rattle.wh_terms.specs.Value.{Body, FreshForBodies, parameters}
use Rattle.wh_terms.specs.StepOver.{StepOver, over_root, over_beta, over_function, over_argument, over_body}
use Rattle.wh_terms.proofs.FreshLaws.{fresh-opened, fresh-act-back, fresh-rename-back, no_free-fresh}
use Rattle.wh_terms.proofs.ValueForm.{up_times, shifted, value, values}
use Rattle.wh_terms.proofs.ValueSight.{bound_occurs}
use Rattle.wh_terms.proofs.ValueLaws.{fresh-value}
use Rattle.wh_step.proofs.Instances.{Instance, instance_of}

mutual
  unfolding value

  -- what is fresh for the value of a pattern is fresh for the bodies
  pattern_fresh : (m x : ℕ) (g : ℕ → Body) (p : Tm) → IsPatternUnder m p → Fresh x (value g p) → FreshForBodies x g p
  pattern_fresh m x g (meta z ts) p f y (inl e) = subst (λ y. Fresh x (g y).tree) e (fresh-act-back x (parameters (values g ts) bound) (g z).tree f)
  pattern_fresh m x g (meta z ts) p f y (inr o) = absurd (bound_occurs m y ts p.0 o)
  pattern_fresh m x g (lam a t) p f z o = fresh-rename-back x (up_times (g z).arity suc) (g z).tree (pattern_fresh (m + 1) x (shifted g) t p f z o)
  pattern_fresh m x g (bound i) p f z o = absurd o
  pattern_fresh m x g (fun c) p f z o = absurd o
  pattern_fresh m x g (free y a) p f z o = absurd o
  pattern_fresh m x g (app t u) p f z (inl o) = spine_fresh m x g t p.0 f.0 z o
  pattern_fresh m x g (app t u) p f z (inr o) = pattern_fresh m x g u p.1 f.1 z o

  spine_fresh : (m x : ℕ) (g : ℕ → Body) (p : Tm) → IsPatternSpine m p → Fresh x (value g p) → FreshForBodies x g p
  spine_fresh m x g (bound i) p f z o = absurd o
  spine_fresh m x g (fun c) p f z o = absurd o
  spine_fresh m x g (free y a) p f z o = absurd o
  spine_fresh m x g (meta y ts) p f z o = absurd p
  spine_fresh m x g (lam a t) p f z o = absurd p
  spine_fresh m x g (app t u) p f z (inl o) = spine_fresh m x g t p.0 f.0 z o
  spine_fresh m x g (app t u) p f z (inr o) = pattern_fresh m x g u p.1 f.1 z o

-- a relation that brings no free variable
abbrev pub KeepsFresh : (Tm → Tm → Type 0) → Type 0
KeepsFresh R = (x : ℕ) (t u : Tm) → R t u → Fresh x t → Fresh x u

pub instances_fresh : (S : Symbols) (rules : List RewriteRule) → AreWellMade S rules → KeepsFresh (Instance rules)
instances_fresh S rules well x t u (instance_of r g c f h e d) fresh =
    let w = well.each r c in
    let bodies = pattern_fresh 0 x g r.left w.pattern_left (subst (Fresh x) e fresh) in
    subst (Fresh x) (sym d) (fresh-value x g r.right (no_free-fresh x r.right w.right_closed) (λ z o. bodies z (w.known z o)))

pub over-fresh : {R : Tm → Tm → Type 0} {t u : Tm} → KeepsFresh R → (x : ℕ) → StepOver R t u → Fresh x t → Fresh x u
over-fresh k x (over_root {t = t} {u = u} r) f = k x t u r f
over-fresh k x (over_beta {t = t} {u = u} e) f = subst (Fresh x) (sym e) (fresh-opened x u t f.1 f.0)
over-fresh k x (over_function s) f = (over-fresh k x s f.0, f.1)
over-fresh k x (over_argument s) f = (f.0, over-fresh k x s f.1)
over-fresh k x (over_body s) f = over-fresh k x s f
