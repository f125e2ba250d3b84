-- Lists that have every step of a term, and tables of rules by symbol.
use Rattle.std.specs.Prelude.{ℕ, ◌≡◌, List, ◌++◌, Contains, Option, Some, slice_get}
use Rattle.wh_terms.specs.Tree.{Tm, fun, head}
use Rattle.wh_terms.specs.Rules.{RewriteRule}
use Rattle.wh_terms.specs.declared.path.Step as taken
use Rattle.wh_step.specs.Replay.{StepAt}
use Rattle.wh_step.specs.Roots.{RuleStep, RootStep, StepsAt}
use Rattle.wh_loop_steps.specs.Tables.{HasNumber}

-- the number of each rule stands in the row of the symbol that heads its left side (ours)
abbrev pub IsRuleTable : List RewriteRule → List (List ℕ) → Type 0
IsRuleTable rules table = (k f : ℕ) (r : RewriteRule) → slice_get rules k ≡ Some r → head r.left ≡ fun f → HasNumber table f k

-- the step by the rule, or by beta, at the place is on the list
abbrev pub Lists : List taken.Step → Option ℕ → List ℕ → Type 0
Lists steps k path = Contains steps (record { rule = k; path = path })

-- what is on the first list is on the second one
abbrev pub KeepsSteps : List taken.Step → List taken.Step → Type 0
KeepsSteps old new = (s : taken.Step) → Contains old s → Contains new s

-- the step of t at its root by the rule with the number is listed with this place, if there is one
abbrev pub ListsRuleStep : List RewriteRule → ℕ → Tm → List ℕ → List taken.Step → Type 0
ListsRuleStep rules k t way steps = (r : RewriteRule) (v : Tm) → slice_get rules k ≡ Some r → RuleStep r t v → Lists steps (Some k) way

-- each step of t at its root by one of the rules with these numbers is listed with this place
abbrev pub ListsRuleSteps : List RewriteRule → List ℕ → Tm → List ℕ → List taken.Step → Type 0
ListsRuleSteps rules numbers t way steps = (k : ℕ) → Contains numbers k → ListsRuleStep rules k t way steps

-- each step of t at its root is listed with this place
abbrev pub ListsRootSteps : List RewriteRule → Tm → List ℕ → List taken.Step → Type 0
ListsRootSteps rules t way steps = (k : Option ℕ) (v : Tm) → RootStep rules k t v → Lists steps k way

-- each step of t is listed, its place below this one
abbrev pub ListsStepsBelow : List RewriteRule → Tm → List ℕ → List taken.Step → Type 0
ListsStepsBelow rules t way steps = (k : Option ℕ) (path : List ℕ) (u : Tm) → StepsAt rules k path t u → Lists steps k (way ++ path)

-- each step of the term is listed (ours)
abbrev pub ListsAllSteps : List RewriteRule → Tm → List taken.Step → Type 0
ListsAllSteps rules t steps = (k : Option ℕ) (path : List ℕ) (u : Tm) → StepAt rules k path t u → Lists steps k path
