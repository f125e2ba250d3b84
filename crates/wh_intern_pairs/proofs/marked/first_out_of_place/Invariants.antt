use Rattle.std.proofs.Common.{map}
use Rattle.wh_system.specs.SystemView.{system_data}
use Rattle.wh_subterm.specs.SubtermRows.{IsPlace, chosen}
use Rattle.wh_pairs.proofs.ByPlace.{Before}
use Rattle.wh_intern_pairs.proofs.marked.first_out_of_place.Given as goal

abbrev pub invariant-loop-choice : goal.invariant-loop-choice
invariant-loop-choice l = (Before (IsPlace (system_data l.system).rules) (map chosen l.args) l.choice-index)
