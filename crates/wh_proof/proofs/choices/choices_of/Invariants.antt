use Rattle.std.proofs.Common.{◌≤◌, length, map, take, drop}
use Rattle.wh_system.specs.SystemView.{system_data}
use Rattle.wh_subterm.specs.SubtermRows.{chosen}
use Rattle.wh_cert.specs.Said.{said_arg}
use Rattle.wh_proof.specs.Looked.{SayChoices}
use Rattle.wh_proof.proofs.ChoiceLemmas.{LeavesChoices}
use Rattle.wh_proof.proofs.choices.choices_of.Given as goal

abbrev pub invariant-loop-arg : goal.invariant-loop-arg
invariant-loop-arg l =
    (l.next ≤ length l.names)
    × SayChoices (system_data l.system) (map said_arg (take l.arg-index l.args)) (map chosen l.choices)
    × LeavesChoices (system_data l.system) (map said_arg l.args) (map said_arg (drop l.arg-index l.args)) l.next
