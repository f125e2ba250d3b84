use Rattle.std.proofs.Common.{◌≡◌, drop}
use Rattle.wh_text.specs.Erase.{rtms}
use Rattle.wh_system_resolve.specs.Form.{are_names}
use Rattle.wh_system_resolve.proofs.form.are_names.Given as goal

abbrev pub invariant-loop-item : goal.invariant-loop-item
invariant-loop-item l = are_names (rtms l.items) ≡ are_names (rtms (drop l.item-index l.items))
