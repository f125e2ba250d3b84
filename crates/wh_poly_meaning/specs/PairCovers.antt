-- Pairs that are covered, and what their marked calls are worth.
use Rattle.std.specs.Prelude.{ℕ, List, true, false}
use Rattle.wh_terms.specs.Tree.{tms_of}
use Rattle.wh_terms.specs.Typing.{Symbols}
use Rattle.wh_terms.specs.Rules.{RewriteRule}
use Rattle.wh_pairs.specs.PairData.{PairData}
use Rattle.wh_proof_calls.specs.MarkedCalls.{MarkedCall}
use Rattle.wh_hopoly.specs.Moves.{Transfer}
use Rattle.wh_polycheck.specs.Marks.{marked_types, with_marks, mark_number, HasMarkedSides}
use Rattle.wh_polycheck.specs.Readings.{ReadingsData}
use Rattle.wh_polycheck.specs.Covering.{by_moves}
use Rattle.wh_poly_meaning.specs.Calls.{call_value}

-- what a marked call is worth: its mark reads its symbol, as a function of its arguments to numbers (Fuhs and Kop 2012)
abbrev pub worth_of : Symbols → List RewriteRule → ReadingsData → MarkedCall → ℕ
worth_of S rules R c =
    call_value S (with_marks S rules R.symbols R.marks) (mark_number R.symbols R.marks c.symbol) (marked_types S rules c.symbol) 0
    (tms_of c.arguments)

-- the sides of a pair are well made, and moves show that the left one covers the right one (Fuhs and Kop 2012)
pub record PairIsCovered (S : Symbols) (rules : List RewriteRule) (R : ReadingsData) (p : PairData) : Type 0 where
  pub sides : HasMarkedSides S rules R.marks p
  pub moves : List Transfer
  pub cover : (by_moves S rules R).pair p false moves

-- moves show that the left side covers the right one strictly
abbrev pub PairIsStrictlyCovered : Symbols → List RewriteRule → ReadingsData → PairData → Type 0
PairIsStrictlyCovered S rules R p = (ms : List Transfer) × (by_moves S rules R).pair p true ms
