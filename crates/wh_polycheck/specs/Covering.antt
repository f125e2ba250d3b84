-- When readings of all symbols and lists of moves show that no rule and no pair of a set grows, and that some of its
-- pairs shrink.
use Rattle.std.specs.Prelude.{List, Bool, true, false, Contains}
use Rattle.wh_terms.specs.Typing.{Symbols}
use Rattle.wh_terms.specs.Rules.{RewriteRule}
use Rattle.wh_pairs.specs.PairData.{PairData}
use Rattle.wh_reduction_pairs.specs.TaskData.{TaskData, IsTask}
use Rattle.wh_reduction_pairs.specs.ReductionPair.{Evidence, Showing, IsReductionPair}
use Rattle.wh_poly.specs.Polynomials.{Polynomial}
use Rattle.wh_hopoly.specs.Evaluation.{Run, evaluate}
use Rattle.wh_hopoly.specs.Moves.{Transfer, IsCover, IsStrictCover}
use Rattle.wh_system.specs.CanonicalView.{side_of}
use Rattle.wh_polycheck.specs.Sides.{types_of_metas, side_expression, marked_expression}
use Rattle.wh_polycheck.specs.Marks.{Mark, with_marks, mark_number, head_of_side, arguments_of_side, HasMark, HasMarkedSides}
use Rattle.wh_polycheck.specs.Readings.{ReadingsData, AreNormal, AreReadingsFor}

-- the evaluation of a side of a rule (Fuhs and Kop 2012)
abbrev pub rule_run : ReadingsData → RewriteRule → Bool → Run Polynomial
rule_run R r right = evaluate R.symbols (types_of_metas r.metas) (side_expression r.metas (side_of right r))

-- the evaluation of a side of a pair, whose marked symbols have interpretations of their own (Fuhs and Kop 2012)
abbrev pub pair_run : Symbols → List RewriteRule → ReadingsData → PairData → Bool → Run Polynomial
pair_run S rules R p right =
    evaluate (with_marks S rules R.symbols R.marks) (types_of_metas p.metas)
    (marked_expression p.metas (mark_number R.symbols R.marks (head_of_side p right)) (arguments_of_side p right))

-- the moves show that the first side is at least the second one, or, where that is asked, that it is greater
abbrev pub CoversSides : Run Polynomial → Run Polynomial → Bool → List Transfer → Type 0
CoversSides left right false ms = IsCover left.result right.result ms
CoversSides left right true ms = IsStrictCover left.result right.result ms

-- what moves show of the two sides of a rule, and of those of a pair
abbrev pub by_moves : Symbols → List RewriteRule → ReadingsData → Showing (List Transfer)
by_moves S rules R = record {
  rule = λ r ms. CoversSides (rule_run R r false) (rule_run R r true) false ms;
  pair = λ p strict ms. CoversSides (pair_run S rules R p false) (pair_run S rules R p true) strict ms;
}

-- the conditions of a node of interpretations on a set of pairs (Kop 2012 and Fuhs and Kop 2012, the reduction pair
-- processor; the form is ours)
pub record IsCovering (T : TaskData) (R : ReadingsData) (E : Evidence (List Transfer)) : Type 0 where
  -- what is read are the system's symbols and the marked symbols of the set, in order, each by a polynomial that is
  -- normal in its scope
  pub readings : AreReadingsFor T R
  pub normal : AreNormal T.symbols T.rules R
  -- moves show that no rule and no pair of the set grows, and that the dropped pairs shrink
  pub lines : IsReductionPair (by_moves T.symbols T.rules R) T E

-- the pairs of the list have typed and closed sides: with marks for its two symbols each has all that the evaluation of
-- its sides asks (ours)
abbrev pub HaveTypedSides : Symbols → List RewriteRule → List PairData → Type 0
HaveTypedSides S rules pairs =
    (marks : List Mark) (p : PairData) → Contains pairs p → HasMark marks p.left_fun → HasMark marks p.right_fun
    → HasMarkedSides S rules marks p

-- the task is one over pairs whose sides are typed
pub record IsTypedTask (T : TaskData) : Type 0 where
  pub task : IsTask T
  pub typed : HaveTypedSides T.symbols T.rules T.pairs
