-- The answers of the calls that test single lines of moves.
use Rattle.std.specs.Prelude.{ℕ, ◌≡◌, List, Bool, Result}
use Rattle.wh_types.specs.Outcome.{MatchOr}
use Rattle.wh_types.specs.declared.want.Or.{Or}
use Rattle.wh_reduction_pairs.specs.TaskData.{TaskData}
use Rattle.wh_poly.specs.Polynomials.{Polynomial}
use Rattle.wh_hopoly.specs.Evaluation.{Run}
use Rattle.wh_poly.specs.Limits.{Exceeds}
use Rattle.wh_hopoly.specs.Moves.{Transfer}
use Rattle.wh_poly.specs.declared.excess.Excess.{Excess}
use Rattle.wh_poly.specs.declared.excess.Excess.TheVariants as excess
use Rattle.wh_hopoly.specs.declared.fault.PolyFault.{PolyFault}
use Rattle.wh_hopoly.specs.declared.fault.PolyFault.TheVariants as poly
use Rattle.wh_polycheck.specs.CoverFaults.{IsNormal}
use Rattle.wh_polycheck.specs.Readings.{ReadingsData}
use Rattle.wh_poly_covering.specs.CoveringFaults.{RunExceeds, IsFirstLineFault, IsRightLine, IsFirstWrongRule, IsFirstWrongPair}
use Rattle.wh_polycheck.specs.Small.{with_limits, StaysWithin}
use Rattle.wh_poly_covering.specs.declared.fault.CoveringFault.{CoveringFault}
use Rattle.wh_poly_covering.specs.declared.fault.CoveringFault.TheVariants.{Rule, Pair}
use Rattle.wh_poly_covering.specs.declared.fault.LineFault.{LineFault}
use Rattle.wh_poly_covering.specs.declared.fault.LineFault.TheVariants as line

-- the limit that a fault of an evaluation names (ours)
abbrev pub limit_of : PolyFault → Excess
limit_of (poly.Overflow k) = excess.Overflow
limit_of (poly.TooLarge k) = excess.TooLarge

-- p is what a side comes to: the normal result of its evaluation, in which no value exceeds a limit (ours)
pub record IsSide (run : Run Polynomial) (p : Polynomial) : Type 0 where
  pub is : p ≡ run.result
  pub normal : IsNormal p
  pub fits : Exceeds p → ⊥
  pub within : StaysWithin with_limits run

-- some evaluation has it as its result
abbrev pub IsSomeSide : Polynomial → Type 0
IsSomeSide p = (run : Run Polynomial) × IsSide run p

-- the fault is that some value of the evaluation exceeds a limit (ours)
abbrev pub IsExcessOf : Run Polynomial → LineFault → Type 0
IsExcessOf run (line.Exceeds e) = RunExceeds run e
IsExcessOf run (line.Cover f) = ⊥

-- what is answered for a line: that nothing is wrong with it, or what is wrong first
abbrev pub IsAnswerOf : Run Polynomial → Run Polynomial → Bool → List Transfer → Result (Unit {0}) (Or LineFault) → Type 0
IsAnswerOf left right strict ms result =
    MatchOr result (λ _. IsRightLine with_limits left right strict ms) (IsFirstLineFault with_limits left right strict ms)

-- the fault is the first one of the rules in order (ours)
abbrev pub IsFirstOfRules : TaskData → ReadingsData → List (List Transfer) → CoveringFault → Type 0
IsFirstOfRules T R lines (Rule r f) = IsFirstWrongRule with_limits T R lines r f
IsFirstOfRules T R lines _ = ⊥

-- the fault is the first one of the pairs of the set in order (ours)
abbrev pub IsFirstOfPairs : TaskData → ReadingsData → List (List Transfer) → List ℕ → CoveringFault → Type 0
IsFirstOfPairs T R lines drop (Pair n f) = IsFirstWrongPair with_limits T R lines drop n f
IsFirstOfPairs T R lines drop _ = ⊥
