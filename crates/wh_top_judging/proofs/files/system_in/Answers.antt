use Rattle.std.proofs.Common.{sym, subst}
use Rattle.wh_types.specs.Limits.{system_limit}
use Rattle.wh_system.specs.SystemView.{system_data}
use Rattle.wh_top_judging.specs.Outcomes.{Shelves, Told, AreWithin, outside}
use Rattle.wh_top_judging.proofs.Standing.{read_stands}
use Rattle.wh_top_judging.proofs.files.system_in.Goals as goal

pub returns-in-Ok-clause-read : goal.returns-in-Ok-clause-read
returns-in-Ok-clause-read g c =
    let s : Shelves = outside (g.S.Shelf.held c.args.shelf.now) (g.S.Shelf.faults c.args.shelf.now) (g.S.Shelf.faults c.read_whole.new.shelf) in
    let file = c.args.file.now in
    read_stands s file c.as_slice.result.now system_data c.read_system.result c.map_err.result
    (subst (λ b. Told (s.held file) (AreWithin system_limit b)) (sym c.as_slice.ensures) c.in-Ok.ensures.whole)
    c.read_system.ensures.read c.read_system.ensures.refused c.map_err.ensures.cases
