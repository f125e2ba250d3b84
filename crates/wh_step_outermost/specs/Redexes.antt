-- Redexes of trees with loose variables. These are working forms, which callers do not see.
use Rattle.std.specs.Prelude.{ℕ, ◌≡◌, ◌<◌, ◌⊎◌, List, [], ◌∷◌, Option, Some, reverse}
use Rattle.wh_terms.specs.Tree.{Tm}
use Rattle.wh_terms.specs.Places.{part_at}
use Rattle.wh_terms.specs.Rules.{RewriteRule}
use Rattle.wh_step.specs.Reducts.{Redex, Precedes, IsEarlier}
use Rattle.wh_step.specs.Roots.{RootStep}
use Rattle.wh_step_outermost.specs.declared.searching.Found.{Found}

-- t steps at its root, by the rule number k, or by beta where there is no number
abbrev pub StepsBy : List RewriteRule → Tm → Option ℕ → Type 0
StepsBy rules t k = (v : Tm) × RootStep rules k t v

-- the part of t at the redex steps at its root
abbrev pub HasRedex : List RewriteRule → Tm → Redex → Type 0
HasRedex rules t a = (r : Tm) × (part_at a.path t ≡ Some r) × StepsBy rules r a.rule

abbrev pub HasNone : List RewriteRule → Tm → Type 0
HasNone rules t = (a : Redex) → HasRedex rules t a → ⊥

-- the first redex of t
pub record IsFirst (rules : List RewriteRule) (t : Tm) (a : Redex) : Type 0 where
  pub here : HasRedex rules t a
  pub first : (b : Redex) → HasRedex rules t b → Precedes b a → ⊥

-- what t steps by first, at its root
pub record IsFirstBy (rules : List RewriteRule) (t : Tm) (k : Option ℕ) : Type 0 where
  pub steps : StepsBy rules t k
  pub first : (j : Option ℕ) → StepsBy rules t j → IsEarlier j k → ⊥

-- the redex that was found
abbrev pub redex_of : Found → Redex
redex_of found = record { rule = found.rule; path = reverse found.back.items }

-- one place is to the left of another: where they part, it turns to the smaller number (ours)
abbrev pub IsLeftOf : List ℕ → List ℕ → Type 0
IsLeftOf [] q = ⊥
IsLeftOf (d ∷ p) [] = ⊥
IsLeftOf (d ∷ p) (e ∷ q) = (d < e) ⊎ ((d ≡ e) × IsLeftOf p q)

-- t has no redex to the left of the path (ours)
abbrev pub NoneLeft : List RewriteRule → List ℕ → Tm → Type 0
NoneLeft rules path t = (a : Redex) → HasRedex rules t a → IsLeftOf a.path path → ⊥
