-- Each name is new, so it joins.
use Rattle.wh_system_making.proofs.TableLemmas.{new_name, joined, taken_next}
use Rattle.std.proofs.Common.{ap, ◌∙◌}
use Rattle.wh_system_parts.specs.Naming.{is_declared}
use Rattle.wh_system_making.proofs.tables.table_of.Goals as goal

pub loop-name-preserved : goal.loop-name-preserved
loop-name-preserved c =
    let names = c.args.names.now in
    let i = c.loop-name.name-index in
    let name = c.name-item.result in
    let new = ap (λ table. is_declared table name) c.loop-name.invariant ∙ new_name names i name c.requires.distinct c.loop-name-test.true c.name-item.is in
    taken_next names c.loop-name.table c.add.new.self i name c.loop-name-test.true c.name-item.is c.loop-name.invariant
    (joined c.in_ok-add.field-0 c.loop-name.table c.add.new.self name new c.in_ok-add.ensures.ok)
