-- Lists of steps in their order, on trees with loose variables.
use Rattle.std.specs.Prelude.{◌≡◌, List, [], ◌∷◌, Contains}
use Rattle.wh_terms.specs.Tree.{Tm, lam, app}
use Rattle.wh_types.specs.Erase.{ty}
use Rattle.wh_terms.specs.Erase.{tm}
use Rattle.wh_terms.specs.Rules.{RewriteRule}
use Rattle.wh_step.specs.Reducts.{Redex, InOrder}
use Rattle.wh_step.specs.Roots.{RootStep, StepsAt}
use Rattle.wh_step.specs.declared.reducing.Surrounding.{Surrounding}
use Rattle.wh_step.specs.declared.reducing.Surrounding.TheVariants.{Argument, Function, Binder}

-- the tree one level up
abbrev pub around : Surrounding → Tm → Tm
around (Argument argument) t = app t (tm argument.now)
around (Function function) t = app (tm function.now) t
around (Binder kind) t = lam (ty kind.now) t

-- the terms are what the steps P lead to at the redexes, one after another
abbrev pub Leads : (Redex → Tm → Type 0) → List Redex → List Tm → Type 0
Leads P [] [] = Unit {0}
Leads P (a ∷ rest) (u ∷ us) = P a u × Leads P rest us
Leads P _ _ = ⊥

-- the terms are what the steps P lead to, one for each redex, in the order of the redexes
pub record Enumerates (P : Redex → Tm → Type 0) (us : List Tm) : Type 0 where
  pub redexes : List Redex
  pub order : InOrder redexes
  pub all : (a : Redex) (u : Tm) → P a u → Contains redexes a
  pub results : Leads P redexes us

-- t steps to u at the redex
abbrev pub IsStep : List RewriteRule → Tm → Redex → Tm → Type 0
IsStep rules t a u = StepsAt rules a.rule a.path t u

-- the redex is t itself
abbrev pub IsRootStep : List RewriteRule → Tm → Redex → Tm → Type 0
IsRootStep rules t a u = (a.path ≡ []) × RootStep rules a.rule t u
