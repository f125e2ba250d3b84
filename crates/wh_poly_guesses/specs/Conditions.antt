-- The conditions under which readings let a pair of a set go, one by one, and which symbols stand in each.
use Rattle.std.specs.Prelude.{ℕ, ◌+◌, ◌<◌, ◌≡◌, ◌⊎◌, List, Some, length, Bool, true, false, slice_get}
use Rattle.wh_terms.specs.Tree.{Tm, fun, meta, lam, app, Tms, none, more, tms_of}
use Rattle.wh_terms.specs.Rules.{RewriteRule}
use Rattle.wh_pairs.specs.PairData.{PairData}
use Rattle.wh_pairs.specs.Sets.{InSet}
use Rattle.wh_pairs.specs.Marked.{HeadsASide}
use Rattle.wh_reduction_pairs.specs.TaskData.{TaskData}
use Rattle.wh_poly.specs.Polynomials.{Polynomial}
use Rattle.wh_hopoly.specs.Evaluation.{Run}
use Rattle.wh_hopoly.specs.Moves.{Transfer}
use Rattle.wh_polycheck.specs.Readings.{ReadingsData}
use Rattle.wh_polycheck.specs.Covering.{rule_run, pair_run, CoversSides}
use Rattle.wh_poly_covering.specs.Lines.{IsSide}
use Rattle.wh_poly_guesses.specs.Coefficients.{AreOfSpace}

-- a condition: that a rule is covered, that a pair is, or that some pair of the set is covered strictly (ours)
pub data Condition : Type 0 where
  covers_rule : (r : RewriteRule) → Condition
  covers_pair : (p : PairData) → Condition
  some_strictly : Condition

-- the condition with a number: those of the rules that are to be covered come first, then those of the pairs of the
-- set, both in order, and then that some pair is covered strictly (ours)
pub data IsCondition (T : TaskData) : ℕ → Condition → Type 0 where
  of_rule : (k n : ℕ) (r : RewriteRule) → slice_get T.covered k ≡ Some n → slice_get T.rules n ≡ Some r
      → IsCondition T k (covers_rule r)
  of_pair : (i n : ℕ) (p : PairData) → slice_get T.set i ≡ Some n → slice_get T.pairs n ≡ Some p
      → IsCondition T (length T.covered + i) (covers_pair p)
  of_set : IsCondition T (length T.covered + length T.set) some_strictly

abbrev mutual
  -- the symbol stands in the tree
  pub HasSymbol : ℕ → Tm → Type 0
  HasSymbol f (fun g) = g ≡ f
  HasSymbol f (meta z ts) = SomeHasSymbol f ts
  HasSymbol f (lam a t) = HasSymbol f t
  HasSymbol f (app t u) = HasSymbol f t ⊎ HasSymbol f u
  HasSymbol f _ = ⊥

  pub SomeHasSymbol : ℕ → Tms → Type 0
  SomeHasSymbol f none = ⊥
  SomeHasSymbol f (more t ts) = HasSymbol f t ⊎ SomeHasSymbol f ts

-- the symbol stands in an argument of a side of the pair
abbrev pub StandsInPair : ℕ → PairData → Type 0
StandsInPair f p = SomeHasSymbol f (tms_of p.left) ⊎ SomeHasSymbol f (tms_of p.right)

-- the symbol is used in the condition
abbrev pub UsesSymbol : TaskData → Condition → ℕ → Type 0
UsesSymbol T (covers_rule r) f = HasSymbol f r.left ⊎ HasSymbol f r.right
UsesSymbol T (covers_pair p) f = StandsInPair f p
UsesSymbol T some_strictly f = (p : PairData) × InSet T.pairs T.set p × StandsInPair f p

-- the marked symbol of f is used in the condition
abbrev pub UsesMark : TaskData → Condition → ℕ → Type 0
UsesMark T (covers_rule r) f = ⊥
UsesMark T (covers_pair p) f = HeadsASide f p
UsesMark T some_strictly f = (p : PairData) × InSet T.pairs T.set p × HeadsASide f p

-- what has this number is used in the condition: a symbol has its own number, and the marked symbols of the set, which
-- are listed, go on behind all symbols (ours)
abbrev pub UsesNumber : TaskData → List ℕ → Condition → ℕ → Type 0
UsesNumber T marked c n =
    ((n < length T.symbols.funs) × UsesSymbol T c n)
    ⊎ ((i f : ℕ) × (n ≡ length T.symbols.funs + i) × (slice_get marked i ≡ Some f) × UsesMark T c f)

-- no value in the evaluation of the two sides exceeds a limit, and some moves show that the left one is at least the
-- right one, or, where that is asked, that it is greater (ours)
pub record IsMet (left right : Run Polynomial) (strict : Bool) : Type 0 where
  pub left_side : IsSide left left.result
  pub right_side : IsSide right right.result
  pub moves : List Transfer
  pub covers : CoversSides left right strict moves

module _ (T : TaskData) (R : ReadingsData) where
  -- the condition is met by the sides of a pair, under the readings
  abbrev pub IsMetBy : PairData → Bool → Type 0
  IsMetBy p strict = IsMet (pair_run T.symbols T.rules R p false) (pair_run T.symbols T.rules R p true) strict

  -- the condition holds under these readings (ours)
  abbrev pub Meets : Condition → Type 0
  Meets (covers_rule r) = IsMet (rule_run R r false) (rule_run R r true) false
  Meets (covers_pair p) = IsMetBy p false
  Meets some_strictly = (p : PairData) × InSet T.pairs T.set p × IsMetBy p true

  -- the condition with that number fails
  abbrev pub Fails : ℕ → Type 0
  Fails k = (c : Condition) × IsCondition T k c × (Meets c → ⊥)

  -- the readings let a pair of the set go: all conditions hold (ours)
  abbrev pub LetsGo : Type 0
  LetsGo = (k : ℕ) (c : Condition) → IsCondition T k c → Meets c

-- no readings of the space let a pair of the set go (ours)
abbrev pub HasNoInterpretation : TaskData → Type 0
HasNoInterpretation T = (R : ReadingsData) → AreOfSpace T R → LetsGo T R → ⊥
