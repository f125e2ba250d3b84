use Rattle.std.proofs.Common.{◌≡◌}
use Rattle.wh_system.specs.SystemView.{system_data}
use Rattle.wh_answer.specs.declared.report.ReasonWord.TheVariants.{TooManyPairs}
use Rattle.wh_answer.specs.declared.report.Report.TheVariants.{Refused}
use Rattle.wh_pairs.specs.SystemPairs.{HasTooManyPairs}
use Rattle.wh_top_judging.specs.Outcomes.{Shelves, outside, StandsBySystem, StandsByText}
use Rattle.wh_top_judging.proofs.Standing.{carry, too_many_stand, text_stands}
use Rattle.wh_top_judging.proofs.files.problem_in.Goals as goal

pub returns-in_err-system-clause-read : goal.returns-in_err-system-clause-read
returns-in_err-system-clause-read g c =
    let s : Shelves = outside (g.S.Shelf.held c.args.shelf.now) (g.S.Shelf.faults c.args.shelf.now) (g.S.Shelf.faults c.system_in.new.shelf) in
    let file = c.args.file.now in
    carry c.from_residual.result c.in_err-system.field-0.0 _ (StandsByText s file) (StandsBySystem s file) _ c.from_residual.ensures.1 c.in_err-system.ensures.read
    (λ o h. text_stands s file o h)

pub returns-in_err-pairs-clause-read : goal.returns-in_err-pairs-clause-read
returns-in_err-pairs-clause-read g c =
    let s : Shelves = outside (g.S.Shelf.held c.args.shelf.now) (g.S.Shelf.faults c.args.shelf.now) (g.S.Shelf.faults c.system_in.new.shelf) in
    let d = system_data c.in_ok-system.system in
    carry c.from_residual-in_err-pairs.result c.in_err-pairs.field-0.0 _ (λ o. (o ≡ Refused TooManyPairs 0) × HasTooManyPairs d) (StandsBySystem s c.args.file.now) _ c.from_residual-in_err-pairs.ensures.1 c.in_err-pairs.ensures
    (λ o h. too_many_stand s c.args.file.now d o c.in_ok-system.ensures.read h.0 h.1)
