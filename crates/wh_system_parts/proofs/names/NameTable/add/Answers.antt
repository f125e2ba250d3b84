use Rattle.std.proofs.Common.{sym, ◌∙◌}
use Rattle.wh_system_parts.proofs.NameLemmas.{table_added}
use Rattle.wh_system_parts.proofs.names.NameTable.add.Goals as goal

pub returns-clause-ok : goal.returns-clause-ok
returns-clause-ok c =
    table_added c.in_ok-joined.joined c.self.inside.names.keys c.insert.new.self.keys c.in_ok-new.field-0 c.args.self.now c.args.name.now
    (sym c.self.view_is) (c.in_ok-new.ensures ∙ c.bytes.ensures.value) c.in_ok-joined.ensures.added c.in_ok-joined.ensures.keys
