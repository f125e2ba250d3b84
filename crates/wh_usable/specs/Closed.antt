-- Lists of rules that a set of dependency pairs uses: the interpretation of a node may leave out all other rules.
use Rattle.std.specs.Prelude.{ℕ, ◌≡◌, ◌<◌, ◌⊎◌, List, [], ◌∷◌, length, All, Contains, Some, slice_get}
use Rattle.wh_types.specs.Ty.{sort}
use Rattle.wh_terms.specs.Tree.{Tm, fun, meta, lam, app, head, Tms, none, more}
use Rattle.wh_terms.specs.Typing.{Symbols, Typed}
use Rattle.wh_terms.specs.Rules.{RewriteRule}
use Rattle.wh_pairs.specs.PairData.{PairData, IsIncreasing}
use Rattle.wh_pairs.specs.Sets.{InSet}
use Rattle.wh_reduction_pairs.specs.TaskData.{TaskData, CoversAll}
use Rattle.wh_polycheck.specs.Marks.{marked_types}
use Rattle.wh_usable_first_order.specs.FirstOrder.{AreSorts, IsFlatTree, AreFlatTrees}

abbrev mutual
  -- the symbol occurs in the tree
  pub HasSymbol : ℕ → Tm → Type 0
  HasSymbol f (fun g) = f ≡ g
  HasSymbol f (meta z ts) = HaveSymbol f ts
  HasSymbol f (lam a t) = HasSymbol f t
  HasSymbol f (app t u) = HasSymbol f t ⊎ HasSymbol f u
  HasSymbol f _ = ⊥

  -- the symbol f stands in one of the trees
  pub HaveSymbol : ℕ → Tms → Type 0
  HaveSymbol f none = ⊥
  HaveSymbol f (more t ts) = HasSymbol f t ⊎ HaveSymbol f ts

-- all rules of the symbol are listed
abbrev pub ListsRulesOf : List RewriteRule → List ℕ → ℕ → Type 0
ListsRulesOf rules listed f = (n : ℕ) (r : RewriteRule) → slice_get rules n ≡ Some r → head r.left ≡ fun f → Contains listed n

-- all rules of each symbol in the tree are listed, and so for the trees of a list
abbrev pub ListsRulesIn : List RewriteRule → List ℕ → Tm → Type 0
ListsRulesIn rules listed t = (f : ℕ) → HasSymbol f t → ListsRulesOf rules listed f

abbrev pub ListsRulesInEach : List RewriteRule → List ℕ → List Tm → Type 0
ListsRulesInEach rules listed [] = Unit {0}
ListsRulesInEach rules listed (t ∷ ts) = ListsRulesIn rules listed t × ListsRulesInEach rules listed ts

-- the rule is first-order, and what its right side calls is listed (ours)
pub record IsClosedRule (S : Symbols) (rules : List RewriteRule) (listed : List ℕ) (r : RewriteRule) : Type 0 where
  pub of_a_sort : (s : ℕ) × Typed S r.metas [] r.left (sort s) × Typed S r.metas [] r.right (sort s)
  pub left : IsFlatTree S r.metas r.left
  pub right : IsFlatTree S r.metas r.right
  pub calls : ListsRulesIn rules listed r.right

-- the pair is first-order, also in the arguments of its marked symbols, and what its right arguments call is listed
-- (ours)
pub record IsClosedPair (S : Symbols) (rules : List RewriteRule) (listed : List ℕ) (p : PairData) : Type 0 where
  pub left_head : AreSorts (marked_types S rules p.left_fun)
  pub right_head : AreSorts (marked_types S rules p.right_fun)
  pub left : AreFlatTrees S p.metas p.left
  pub right : AreFlatTrees S p.metas p.right
  pub calls : ListsRulesInEach rules listed p.right

-- each rule that is listed is closed, and each pair of the set
abbrev pub AreClosedRules : TaskData → Type 0
AreClosedRules T = (n : ℕ) (r : RewriteRule) → Contains T.covered n → slice_get T.rules n ≡ Some r → IsClosedRule T.symbols T.rules T.covered r

abbrev pub AreClosedPairs : TaskData → Type 0
AreClosedPairs T = (p : PairData) → InSet T.pairs T.set p → IsClosedPair T.symbols T.rules T.covered p

-- the rules that are to be covered are closed for the set: they are all rules, or each of them and each pair of the set
-- is closed (ours)
abbrev pub IsClosed : TaskData → Type 0
IsClosed T = CoversAll T ⊎ (AreClosedRules T × AreClosedPairs T)

-- the numbers are those of rules, below `count`, each above the one before
abbrev pub AreRulesInOrder : ℕ → List ℕ → Type 0
AreRulesInOrder count numbers = IsIncreasing numbers × All (λ n. n < count) numbers

-- the rules that are to be covered are rules, listed in increasing order, and closed for the set
pub record IsUsable (T : TaskData) : Type 0 where
  pub increasing : IsIncreasing T.covered
  pub are_rules : All (λ n. n < length T.rules) T.covered
  pub closed : IsClosed T
