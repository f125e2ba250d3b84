use Rattle.std.proofs.Common.{sym, arith}
use Rattle.wh_system.specs.SystemView.{system_data}
use Rattle.wh_system.proofs.NoNeed.{no_need}
use Rattle.wh_system.proofs.system.System.need.Goals as goal

-- there is a number for each symbol
pub returns-else-k-len : goal.returns-else-k-len
returns-else-k-len c =
    let system = c.args.self.now in
    let s = system_data system in
    sym (no_need s.symbols s.rules c.is_well_made.ensures.rules c.args.k (omega (arith, c.is_well_made.ensures.symbols_named, system.each_need, c.len.ensures, c.if-k-len.false)))
