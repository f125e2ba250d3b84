-- What can be wrong with a node of interpretations, and what comes first.
use Rattle.std.specs.Prelude.{ℕ, ◌<◌, ◌≡◌, ◌⊎◌, List, Some, Bool, true, false, Contains, slice_get}
use Rattle.wh_types.specs.Ty.{arguments}
use Rattle.wh_terms.specs.Typing.{Symbols}
use Rattle.wh_terms.specs.Rules.{RewriteRule}
use Rattle.wh_pairs.specs.Drops.{IsBadDrop}
use Rattle.wh_reduction_pairs.specs.TaskData.{TaskData}
use Rattle.wh_reduction_pairs.specs.ReductionPair.{Evidence, Showing, IsRightRule}
use Rattle.wh_reduction_pairs.specs.FirstFault.{Blaming, AreBadLines, AreCounted, IsFirstRuleFault, IsFirstPairFault}
use Rattle.wh_poly.specs.Polynomials.{Polynomial, Normal}
use Rattle.wh_hopoly.specs.Evaluation.{Run, Interpretation, NormalInterpretations}
use Rattle.wh_poly.specs.Excesses.{ExceedsAs}
use Rattle.wh_hopoly.specs.Moves.{Transfer}
use Rattle.wh_poly.specs.declared.excess.Excess.{Excess}
use Rattle.wh_polycheck.specs.Marks.{Mark, marked_types}
use Rattle.wh_polycheck.specs.Readings.{ReadingsData, AreNormal}
use Rattle.wh_polycheck.specs.CoverFaults.{IsFirstCoverFault, IsFirstStrictCoverFault}
use Rattle.wh_polycheck.specs.declared.fault.CoverFault.{CoverFault}
use Rattle.wh_polycheck.specs.Covering.{rule_run, pair_run, CoversSides}
use Rattle.wh_polycheck.specs.Small.{Limits, without_limits, with_limits, StaysWithin}
use Rattle.wh_usable.specs.Closed.{IsClosed}
use Rattle.wh_usable.specs.Open.{IsFirstOpen}
use Rattle.wh_poly_covering.specs.declared.fault.CoveringFault.{CoveringFault}
use Rattle.wh_poly_covering.specs.declared.fault.CoveringFault.TheVariants.{BadPolynomial, BadLines, BadDrop, NotClosed, Rule, Pair}
use Rattle.wh_poly_covering.specs.declared.fault.LineFault.{LineFault}
use Rattle.wh_poly_covering.specs.declared.fault.LineFault.TheVariants as line

-- some value on the way exceeds this limit
abbrev pub RunExceeds : Run Polynomial → Excess → Type 0
RunExceeds run e = (w : Polynomial) × Contains run.values w × ExceedsAs e w

-- the first thing wrong with moves that are to show that a polynomial is at least another, or greater
abbrev pub IsFirstFaultOfMoves : Bool → Polynomial → Polynomial → List Transfer → CoverFault → Type 0
IsFirstFaultOfMoves false left right ms f = IsFirstCoverFault left right ms f
IsFirstFaultOfMoves true left right ms f = IsFirstStrictCoverFault left right ms f

-- the first thing wrong with a line: the left side is evaluated, then the right one, then the moves are looked at
-- (ours)
abbrev pub IsFirstLineFault : Limits → Run Polynomial → Run Polynomial → Bool → List Transfer → LineFault → Type 0
IsFirstLineFault limits left right strict ms (line.Cover f) =
    StaysWithin limits left × StaysWithin limits right × IsFirstFaultOfMoves strict left.result right.result ms f
IsFirstLineFault with_limits left right strict ms (line.Exceeds e) = RunExceeds left e ⊎ (StaysWithin with_limits left × RunExceeds right e)
IsFirstLineFault without_limits left right strict ms (line.Exceeds e) = ⊥

-- nothing is wrong with it
abbrev pub IsRightLine : Limits → Run Polynomial → Run Polynomial → Bool → List Transfer → Type 0
IsRightLine limits left right strict ms = StaysWithin limits left × StaysWithin limits right × CoversSides left right strict ms

-- what a line of moves shows within the limits
abbrev pub right_lines : Limits → Symbols → List RewriteRule → ReadingsData → Showing (List Transfer)
right_lines limits S rules R = record {
  rule = λ r ms. IsRightLine limits (rule_run R r false) (rule_run R r true) false ms;
  pair = λ p strict ms. IsRightLine limits (pair_run S rules R p false) (pair_run S rules R p true) strict ms;
}

-- what is wrong first with a line of moves within the limits
abbrev pub wrong_lines : Limits → Symbols → List RewriteRule → ReadingsData → Blaming (List Transfer) LineFault
wrong_lines limits S rules R = record {
  rule = λ r ms f. IsFirstLineFault limits (rule_run R r false) (rule_run R r true) false ms f;
  pair = λ p strict ms f. IsFirstLineFault limits (pair_run S rules R p false) (pair_run S rules R p true) strict ms f;
}

-- the interpretation of the symbol f is the first that is not normal in the scope of its type's arguments
abbrev pub IsFirstNotNormal : List Interpretation → ℕ → Type 0
IsFirstNotNormal symbols f =
    (s : Interpretation) × (slice_get symbols f ≡ Some s) × (Normal (arguments s.kind) s.polynomial → ⊥)
    × ((g : ℕ) (u : Interpretation) → g < f → slice_get symbols g ≡ Some u → Normal (arguments u.kind) u.polynomial)

-- the interpretation of the marked symbol of f is the first that is not normal in the scope of its arguments
abbrev pub IsFirstNotNormalMark : Symbols → List RewriteRule → List Mark → ℕ → Type 0
IsFirstNotNormalMark S rules marks f =
    (i : ℕ) × (m : Mark) × (slice_get marks i ≡ Some m) × (m.symbol ≡ f) × (Normal (marked_types S rules f) m.polynomial → ⊥)
    × ((j : ℕ) (u : Mark) → j < i → slice_get marks j ≡ Some u → Normal (marked_types S rules u.symbol) u.polynomial)

-- all that is asked before the first line of moves is looked at
pub record IsReady (T : TaskData) (R : ReadingsData) (E : Evidence (List Transfer)) : Type 0 where
  pub normal : AreNormal T.symbols T.rules R
  pub counted : AreCounted T E
  pub closed : IsClosed T

module _ (limits : Limits) (T : TaskData) (R : ReadingsData) where
  -- the first thing wrong with the lines of the rules
  abbrev pub IsFirstWrongRule : List (List Transfer) → ℕ → LineFault → Type 0
  IsFirstWrongRule = IsFirstRuleFault (right_lines limits T.symbols T.rules R) (wrong_lines limits T.symbols T.rules R) T

  -- the first thing wrong with the lines of the pairs
  abbrev pub IsFirstWrongPair : List (List Transfer) → List ℕ → ℕ → LineFault → Type 0
  IsFirstWrongPair = IsFirstPairFault (right_lines limits T.symbols T.rules R) (wrong_lines limits T.symbols T.rules R) T

  -- the first thing wrong: an interpretation, the numbers of lines, the list of dropped pairs, that the rules are not
  -- closed for the set, the rules in order, the pairs of the set in order, each line with all its tests before the next
  -- (ours)
  abbrev pub IsFirstCoveringFault : Evidence (List Transfer) → CoveringFault → Type 0
  IsFirstCoveringFault E (BadPolynomial f false) = IsFirstNotNormal R.symbols f
  IsFirstCoveringFault E (BadPolynomial f true) = NormalInterpretations R.symbols × IsFirstNotNormalMark T.symbols T.rules R.marks f
  IsFirstCoveringFault E BadLines = AreNormal T.symbols T.rules R × AreBadLines T E
  IsFirstCoveringFault E BadDrop = AreNormal T.symbols T.rules R × (AreBadLines T E → ⊥) × IsBadDrop T.set E.drop
  IsFirstCoveringFault E (NotClosed f) = AreNormal T.symbols T.rules R × AreCounted T E × IsFirstOpen T f
  IsFirstCoveringFault E (Rule r f) = IsReady T R E × IsFirstWrongRule E.of_rules r f
  IsFirstCoveringFault E (Pair n f) = IsReady T R E
      × ((k : ℕ) → IsRightRule (right_lines limits T.symbols T.rules R) T E.of_rules k)
      × IsFirstWrongPair E.of_pairs E.drop n f
