-- The answers of a search for interpretations: a node of the space whose conditions hold.
use Rattle.std.specs.Prelude.{ℕ, ◌≡◌, ◌^◌, List, Option, Some, None, All, Contains, length, slice_get, false, true}
use Rattle.wh_system.specs.Systems.{SystemData}
use Rattle.wh_pairs.specs.PairData.{PairData, IsIncreasing}
use Rattle.wh_reduction_pairs.specs.TaskData.{TaskData, whole_task}
use Rattle.wh_reduction_pairs.specs.ReductionPair.{Evidence}
use Rattle.wh_hopoly.specs.Moves.{Transfer, IsStrictCover}
use Rattle.wh_polycheck.specs.Readings.{ReadingsData}
use Rattle.wh_polycheck.specs.Covering.{pair_run, IsCovering}
use Rattle.wh_polycheck.specs.Small.{IsSmall}
use Rattle.wh_cert.specs.Written as w
use Rattle.wh_cert.specs.Limits.{NodeFits, NodeWithin, IsOfVersion}
use Rattle.wh_proof.specs.Nodes.{poly}
use Rattle.wh_proof.specs.Looked.{SaysNode, covered_rules, poly_task}
use Rattle.wh_poly_moves.specs.Found.{AreApart}
use Rattle.wh_poly_guesses.specs.Coefficients.{AreOfSpace}

-- the set of pairs of a system, with all its rules to be covered
abbrev pub task_of : SystemData → List PairData → List ℕ → TaskData
task_of d ps set = whole_task d.symbols d.rules ps set

-- each pair of the set that its line covers strictly is dropped
abbrev pub DropsAllStrict : TaskData → ReadingsData → Evidence (List Transfer) → Type 0
DropsAllStrict T R E =
    (i n : ℕ) (p : PairData) (ms : List Transfer) → slice_get T.set i ≡ Some n → slice_get T.pairs n ≡ Some p
    → slice_get E.of_pairs i ≡ Some ms
    → IsStrictCover (pair_run T.symbols T.rules R p false).result (pair_run T.symbols T.rules R p true).result ms → Contains E.drop n

-- the version of certificates whose nodes of interpretations list rules, or list none
abbrev pub version_with : Option (List ℕ) → ℕ
version_with None = 1
version_with (Some listed) = 2

-- the node is one of interpretations, whose conditions hold of the set and of the rules that it lists, or of all rules
-- where it lists none (ours)
pub record IsInterpretationOver (d : SystemData) (ps : List PairData) (set : List ℕ) (usable : Option (List ℕ)) (line : w.Node)
    : Type 0 where
  pub readings : ReadingsData
  pub evidence : Evidence (List Transfer)
  -- the lines of the node say these readings, moves and dropped pairs
  pub says : SaysNode d line (poly (covered_rules usable (length d.rules)) readings evidence)
  pub covering : IsCovering (poly_task d ps set usable) readings evidence
  -- no value in the evaluation of the sides exceeds a limit
  pub small : IsSmall (poly_task d ps set usable) readings
  -- each symbol is read by a polynomial that is tried for its type, and each marked one for the arguments that its
  -- rules need
  pub of_space : AreOfSpace (poly_task d ps set usable) readings
  -- in each line no two moves are between the same monomials
  pub rules_apart : All AreApart evidence.of_rules
  pub pairs_apart : All AreApart evidence.of_pairs
  pub increasing : IsIncreasing evidence.drop
  pub all_strict : DropsAllStrict (poly_task d ps set usable) readings evidence
  -- the node is of its version, and within the limits of certificates
  pub version : IsOfVersion (version_with usable) line
  pub fits : NodeFits line
  pub within : NodeWithin (2 ^ 32) line

-- the node is an interpretation that lists no rules, so that all are to be covered
abbrev pub IsInterpretation : SystemData → List PairData → List ℕ → w.Node → Type 0
IsInterpretation d ps set line = IsInterpretationOver d ps set None line
