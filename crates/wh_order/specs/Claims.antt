-- The goals of the program as tasks: what a claim about two trees of the program says.
use Rattle.std.specs.Prelude.{ℕ, ◌+◌, ◌≡◌, List, [], ◌∷◌, map, Option, Some, None, Result}
use Rattle.std.specs.Global.{Vec}
use Rattle.wh_types.specs.declared.want.Or.{Or}
use Rattle.wh_types.specs.Outcome.{MatchOr}
use Rattle.wh_terms.specs.Tree.{head}
use Rattle.wh_order_inference.specs.Inferences as m
use Rattle.wh_order_path.specs.Verdict as v
use Rattle.wh_order_path.specs.Verdict.{Task, symbol_tasks, above_tasks, greater_tasks, typed_tasks, at_least_tasks, tasks}
use Rattle.wh_order_trees.specs.declared.tree.Tree.{Tree}
use Rattle.wh_order_trees.specs.Trees.{tree}
use Rattle.wh_order_trees.specs.TreeParts.{World, Over}
use Rattle.wh_order.specs.declared.goals.Claim.{Claim}
use Rattle.wh_order.specs.declared.goals.Claim.TheVariants.{AtLeast, Greater, Above}
use Rattle.wh_order.specs.declared.goals.Side.{Side}
use Rattle.wh_order.specs.declared.goals.Side.TheVariants.{Here, Made}
use Rattle.wh_order.specs.declared.goals.Goal.{Goal}

abbrev pub said : Claim → v.Claim
said AtLeast = v.at_least
said Greater = v.greater
said (Above from) = v.above from

-- the tree of a side
abbrev pub side_tree : Side → Tree
side_tree (Here t) = t.now
side_tree (Made t) = t

abbrev pub task : ℕ → Goal → Task
task n g = record { claim = said g.claim; next = g.next; left = tree n (side_tree g.left); right = tree n (side_tree g.right) }

abbrev pub IsGoalOver : ℕ → World → Goal → Type 0
IsGoalOver n w g = Over n w (side_tree g.left) × Over n w (side_tree g.right)

abbrev pub AreGoalsOver : ℕ → World → List Goal → Type 0
AreGoalsOver n w [] = Unit {0}
AreGoalsOver n w (g ∷ gs) = IsGoalOver n w g × AreGoalsOver n w gs

-- the goals stand for the tasks
pub record StandFor (n : ℕ) (w : World) (gs : List Goal) (ks : List Task) : Type 0 where
  pub same_tasks : map (task n) gs ≡ ks
  pub over : AreGoalsOver n w gs

-- there are goals, which stand for the tasks
abbrev pub HoldsGoals : ℕ → World → Option (Vec Goal) → List Task → Type 0
HoldsGoals n w None ks = ⊥
HoldsGoals n w (Some gs) ks = StandFor n w gs.items ks

-- there are goals where there are tasks, and stand for them
abbrev pub MayStandFor : ℕ → World → Option (Vec Goal) → Option (List Task) → Type 0
MayStandFor n w r None = r ≡ None
MayStandFor n w r (Some ks) = HoldsGoals n w r ks

-- the goals stand for what the parts of an inference with this letter and this place are for, where s, which the symbol
-- f heads, is to be above t
abbrev pub AreSymbolGoals : ℕ → (ℕ → ℕ) → (f from next : ℕ) → Tree → Tree → m.Letter → ℕ → Option (Vec Goal) → Type 0
AreSymbolGoals n prec f from next s t l place r = (w : World) → Over n w s → Over n w t
    → MayStandFor n w r (symbol_tasks w.symbols prec w.metas f from next (tree n s) (tree n t) l place (head (tree n t)))

-- where s is to be above t
abbrev pub AreAboveGoals : ℕ → (ℕ → ℕ) → (from next : ℕ) → Tree → Tree → m.Letter → ℕ → Option (Vec Goal) → Type 0
AreAboveGoals n prec from next s t l place r = (w : World) → Over n w s → Over n w t
    → MayStandFor n w r (above_tasks w.symbols prec w.metas from next (tree n s) (tree n t) l place)

-- where it is to show that s is greater than t, and the parts are these
abbrev pub AreGreaterGoals : ℕ → (ℕ → ℕ) → ℕ → Tree → Tree → m.Letter → ℕ → m.Inferences → Option (Vec Goal) → Type 0
AreGreaterGoals n prec next s t l place is r = (w : World) → Over n w s → Over n w t
    → MayStandFor n w r (greater_tasks w.symbols prec w.metas next (tree n s) (tree n t) l place is)

-- where the trees are to have one type besides
abbrev pub AreTypedGoals : ℕ → (ℕ → ℕ) → ℕ → Tree → Tree → m.Letter → ℕ → m.Inferences → Option (Vec Goal) → Type 0
AreTypedGoals n prec next s t l place is r = (w : World) → Over n w s → Over n w t
    → MayStandFor n w r (typed_tasks w.symbols prec w.metas next (tree n s) (tree n t) l place is)

-- where it is to show that s is at least t
abbrev pub AreAtLeastGoals : ℕ → (ℕ → ℕ) → ℕ → Tree → Tree → m.Letter → ℕ → m.Inferences → Option (Vec Goal) → Type 0
AreAtLeastGoals n prec next s t l place is r = (w : World) → Over n w s → Over n w t
    → MayStandFor n w r (at_least_tasks w.symbols prec w.metas next (tree n s) (tree n t) l place is)

-- for any goal
abbrev pub AreGoals : ℕ → (ℕ → ℕ) → Goal → m.Letter → ℕ → m.Inferences → Option (Vec Goal) → Type 0
AreGoals n prec g l place is r = (w : World) → IsGoalOver n w g → MayStandFor n w r (tasks w.symbols prec w.metas (task n g) l place is)

-- the number, counted from `at` on
abbrev pub moved : ℕ → Option ℕ → Option ℕ
moved at None = None
moved at (Some m) = Some (at + m)

-- the first bad one of the inferences from the number `at` on, or where there is none the number behind the last one
abbrev pub Judged : {E : Type 0} → (E → ℕ) → ℕ → Option ℕ → ℕ → Result ℕ (Or E) → Type 0
Judged number at v count r = MatchOr r (λ end. (v ≡ None) × (end ≡ at + count)) (λ e. moved at v ≡ Some (number e))
