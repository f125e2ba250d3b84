use Rattle.wh_system.proofs.MadeDecided.{system_is_well_made}
use Rattle.wh_system.proofs.system.System.is_well_made.Goals as goal

pub returns : goal.returns
returns c = system_is_well_made c.args.self.now
