-- The symbols that are called from a set of pairs, and the rules of these.
use Rattle.std.specs.Prelude.{ℕ, ◌≡◌, List, Some, Contains, slice_get}
use Rattle.wh_terms.specs.Tree.{fun, head, tms_of}
use Rattle.wh_terms.specs.Rules.{RewriteRule}
use Rattle.wh_pairs.specs.PairData.{PairData}
use Rattle.wh_pairs.specs.Sets.{InSet}
use Rattle.wh_reduction_pairs.specs.TaskData.{TaskData}
use Rattle.wh_usable.specs.Closed.{HasSymbol, HaveSymbol, ListsRulesOf}

-- the symbol is one of which P holds, or it stands in the right side of a rule of such a symbol, and so on
pub data Reaches (rules : List RewriteRule) (P : ℕ → Type 0) : ℕ → Type 0 where
  from : (f : ℕ) → P f → Reaches rules P f
  by_rule : (n : ℕ) (r : RewriteRule) (g f : ℕ) → slice_get rules n ≡ Some r → head r.left ≡ fun g → Reaches rules P g
      → HasSymbol f r.right → Reaches rules P f

-- the symbol stands in a right argument of a pair of the set
abbrev pub StandsInPairs : List PairData → List ℕ → ℕ → Type 0
StandsInPairs pairs set f = (p : PairData) × InSet pairs set p × HaveSymbol f (tms_of p.right)

-- the symbol is called from the set: it stands in a right argument of a pair, or in the right side of a rule of a
-- symbol that is called (Arts and Giesl 2000)
abbrev pub IsCalled : TaskData → ℕ → Type 0
IsCalled T = Reaches T.rules (StandsInPairs T.pairs T.set)

-- the listed rules are those of the symbols that are called
pub record AreRulesOfCalled (T : TaskData) : Type 0 where
  pub of_called : (n : ℕ) → Contains T.covered n
      → (r : RewriteRule) × (f : ℕ) × (slice_get T.rules n ≡ Some r) × (head r.left ≡ fun f) × IsCalled T f
  pub all : (f : ℕ) → IsCalled T f → ListsRulesOf T.rules T.covered f
