-- The reducts of a term in their order, and the first step of a list that does not apply or whose result does not fit.
use Rattle.std.specs.Prelude.{ℕ, ◌≡◌, ◌<◌, ◌⊎◌, List, [], ◌∷◌, take, Contains, Option, Some, None, slice_get}
use Rattle.wh_terms.specs.Tree.{Tm}
use Rattle.wh_terms.specs.Measures.{Fits}
use Rattle.wh_terms.specs.Rules.{RewriteRule}
use Rattle.wh_terms.specs.declared.path.Step as taken
use Rattle.wh_step.specs.Replay.{StepAt, Replays}

-- one place comes before another in preorder: it leads to it, or it turns to a smaller number where they part
abbrev pub IsBefore : List ℕ → List ℕ → Type 0
IsBefore [] [] = ⊥
IsBefore [] (e ∷ q) = Unit {0}
IsBefore (d ∷ p) [] = ⊥
IsBefore (d ∷ p) (e ∷ q) = (d < e) ⊎ ((d ≡ e) × IsBefore p q)

-- beta comes before the rules, and the rules come by their numbers
abbrev pub IsEarlier : Option ℕ → Option ℕ → Type 0
IsEarlier None None = ⊥
IsEarlier None (Some k) = Unit {0}
IsEarlier (Some j) None = ⊥
IsEarlier (Some j) (Some k) = j < k

-- what is applied, and where
pub record Redex : Type 0 where
  pub rule : Option ℕ
  pub path : List ℕ

-- by place in preorder, at one place beta before the rules, rules in order (ours)
abbrev pub Precedes : Redex → Redex → Type 0
Precedes a b = IsBefore a.path b.path ⊎ ((a.path ≡ b.path) × IsEarlier a.rule b.rule)

-- each member precedes the next one
abbrev pub InOrder : List Redex → Type 0
InOrder [] = Unit {0}
InOrder (a ∷ []) = Unit {0}
InOrder (a ∷ b ∷ rest) = Precedes a b × InOrder (b ∷ rest)

-- the terms are what t steps to at these redexes, one after another
abbrev pub StepsTo : List RewriteRule → Tm → List Redex → List Tm → Type 0
StepsTo rules t [] [] = Unit {0}
StepsTo rules t (a ∷ rest) (u ∷ us) = StepAt rules a.rule a.path t u × StepsTo rules t rest us
StepsTo rules t _ _ = ⊥

-- the terms are the reducts of t: one for each of its redexes, in their order
pub record AreReducts (rules : List RewriteRule) (t : Tm) (us : List Tm) : Type 0 where
  pub redexes : List Redex
  pub order : InOrder redexes
  pub all : (k : Option ℕ) (path : List ℕ) (u : Tm) → StepAt rules k path t u → Contains redexes (record { rule = k; path = path })
  pub results : StepsTo rules t redexes us

-- the step number i of the list is the first that does not apply; all results before it fit
pub record FailsAt (rules : List RewriteRule) (steps : List taken.Step) (t : Tm) (i : ℕ) : Type 0 where
  pub step : taken.Step
  pub here : slice_get steps i ≡ Some step
  pub term : Tm
  pub before : Replays rules (take i steps) t term
  pub none : (u : Tm) → StepAt rules step.rule step.path term u → ⊥

-- the step number i of the list applies, and its result is the first that does not fit
pub record TooBigAt (rules : List RewriteRule) (steps : List taken.Step) (t : Tm) (i : ℕ) : Type 0 where
  pub step : taken.Step
  pub here : slice_get steps i ≡ Some step
  pub term : Tm
  pub before : Replays rules (take i steps) t term
  pub result : Tm
  pub applies : StepAt rules step.rule step.path term result
  pub big : Fits result → ⊥
