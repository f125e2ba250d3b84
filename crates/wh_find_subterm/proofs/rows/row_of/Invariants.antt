use Rattle.std.proofs.Common.{◌≡◌, drop}
use Rattle.wh_find_subterm.specs.Rows.{row_of}
use Rattle.wh_find_subterm.proofs.rows.row_of.Given as goal

abbrev pub invariant-loop-row : goal.invariant-loop-row
invariant-loop-row l = row_of (drop l.row-index l.rows) l.symbol ≡ row_of l.rows l.symbol
