-- The value of a meta-term under a meta-substitution: bodies take the place of meta-variables.
use Rattle.std.specs.Prelude.{ℕ, ◌≡◌}
use Rattle.wh_types.specs.Ty.{Ty}
use Rattle.wh_terms.specs.Tree.{Tm, bound, free, fun, meta, lam, app, Tms, none, more, count}
use Rattle.wh_terms.specs.Substitution.{act, cons, opened}
use Rattle.wh_terms.specs.Sight.{LooseBelow, Fresh, IsTerm, Occurs}

-- what a meta-substitution gives a meta-variable: a tree under as many parameters as the meta-variable has
-- arguments. The parameters are its nearest loose variables, and variable 0 is the last of them.
pub record Body : Type 0 where
  pub arity : ℕ
  pub tree : Tm

-- a meta-substitution is a function from the numbers of meta-variables to bodies; only those are looked at that
-- occur in the meta-term (Fuhs and Kop 2019)

-- the trees for the parameters of a body, and behind them those for its further loose variables
unfoldable pub parameters : Tms → (ℕ → Tm) → ℕ → Tm
parameters none σ = σ
parameters (more t ts) σ = parameters ts (cons t σ)

-- x is fresh for the bodies of the meta-variables in a tree
abbrev pub FreshForBodies : ℕ → (ℕ → Body) → Tm → Type 0
FreshForBodies x g t = (z : ℕ) → Occurs z t → Fresh x (g z).tree

-- `Value g m v`: v is m with each meta-application `z[t1,..,tk]` replaced by the body of z, its parameters
-- replaced by the values of t1 to tk. An abstraction is opened with a free variable that is fresh for all in
-- sight: its value is the abstraction of that w whose opening is the value of the opened body
-- (Fuhs and Kop 2019, the definition of a meta-substitution's effect).
mutual
  pub data Value : (ℕ → Body) → Tm → Tm → Type 0 where
    of_bound : {g : ℕ → Body} {i : ℕ} → Value g (bound i) (bound i)
    of_free : {g : ℕ → Body} {x : ℕ} {a : Ty} → Value g (free x a) (free x a)
    of_fun : {g : ℕ → Body} {f : ℕ} → Value g (fun f) (fun f)
    of_meta : {g : ℕ → Body} {z : ℕ} {ts vs : Tms} {v : Tm} → (g z).arity ≡ count ts → Values g ts vs
        → v ≡ act (parameters vs bound) free (g z).tree → Value g (meta z ts) v
    of_lam : {g : ℕ → Body} {a : Ty} {t w : Tm} (x : ℕ) → Fresh x t → Fresh x w → FreshForBodies x g t
        → Value g (opened (free x a) t) (opened (free x a) w) → Value g (lam a t) (lam a w)
    of_app : {g : ℕ → Body} {t u v w : Tm} → Value g t v → Value g u w → Value g (app t u) (app v w)

  pub data Values : (ℕ → Body) → Tms → Tms → Type 0 where
    of_none : {g : ℕ → Body} → Values g none none
    of_more : {g : ℕ → Body} {t v : Tm} {ts vs : Tms} → Value g t v → Values g ts vs → Values g (more t ts) (more v vs)

-- a body is whole if it is a term with no loose variable but its parameters
pub record IsWhole (b : Body) : Type 0 where
  pub shut : LooseBelow b.arity b.tree
  pub term : IsTerm b.tree
