use Rattle.std.proofs.Common.{◌≡◌, drop}
use Rattle.wh_answer.specs.Texts.{all_named}
use Rattle.wh_answer.proofs.print.put_names.Given as goal

abbrev pub invariant-loop-name : goal.invariant-loop-name
invariant-loop-name l = all_named l.text (drop l.name-index l.names) ≡ all_named l.fn.text l.names
