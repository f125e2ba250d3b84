use Rattle.std.proofs.Common.{All, map, take}
use Rattle.wh_system.specs.SystemView.{system_data}
use Rattle.wh_subterm.specs.SubtermRows.{chosen}
use Rattle.wh_cert.specs.Limits.{ArgFits}
use Rattle.wh_cert.specs.Said.{said_arg}
use Rattle.wh_proof.specs.Looked.{SayChoices}
use Rattle.wh_proof.proofs.written.lines_of_choices.Given as goal

abbrev pub invariant-loop-choice : goal.invariant-loop-choice
invariant-loop-choice l = record {
  said : SayChoices (system_data l.system) (map said_arg l.args) (map chosen (take l.choice-index l.choices));
  fit : All ArgFits (map said_arg l.args);
}
