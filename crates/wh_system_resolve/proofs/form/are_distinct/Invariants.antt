use Rattle.std.proofs.Common.{◌≡◌, [], drop, reverse}
use Rattle.wh_terms.specs.Erase.{tms}
use Rattle.wh_system_resolve.specs.Form.{are_distinct_bound}
use Rattle.wh_system_resolve.proofs.form.are_distinct.Given as goal

abbrev pub invariant-loop-item : goal.invariant-loop-item
invariant-loop-item l = are_distinct_bound [] (tms l.items) ≡ are_distinct_bound (reverse l.seen.items) (tms (drop l.item-index l.items))
