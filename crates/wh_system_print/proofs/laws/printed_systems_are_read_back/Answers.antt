-- The system is well made.
use Rattle.wh_system.specs.SystemView.{system_data}
use Rattle.wh_system_print.proofs.ReadBack.{text_read_back}
use Rattle.wh_system_print.proofs.laws.printed_systems_are_read_back.Goals as goal

pub returns : goal.returns
returns c = text_read_back (system_data c.args.system.now) c.is_well_made.ensures
