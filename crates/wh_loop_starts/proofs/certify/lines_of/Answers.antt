-- Each entry is a typed put.
use Rattle.wh_system.specs.SystemView.{system_data}
use Rattle.wh_no.specs.Valid.{IsPutOver}
use Rattle.wh_loop_starts.proofs.EntryLemmas.{entry_has}
use Rattle.wh_loop_starts.proofs.certify.lines_of.Goals as goal

pub line_of-requires : goal.line_of-requires
line_of-requires c =
    entry_has (IsPutOver (system_data c.args.system.now).symbols) c.args.entries.now c.loop-entry.entry-index c.entry-item.result c.requires c.loop-entry-test.true c.entry-item.is
