use Rattle.std.proofs.Common.{◌≡◌, false, get_or, map, take}
use Rattle.wh_subterm.specs.SubtermRows.{chosen}
use Rattle.wh_find_subterm.specs.Reading.{chosen_by}
use Rattle.wh_find_subterm.proofs.reading.choices_by.Given as goal

abbrev pub invariant-loop-row : goal.invariant-loop-row
invariant-loop-row l = map chosen l.args ≡ chosen_by (λ x. get_or l.values x false) (take l.row-index l.rows)
