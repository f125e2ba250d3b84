use Rattle.std.proofs.Common.{subst, sym}
use Rattle.wh_system.specs.SystemView.{system_data}
use Rattle.wh_top_judging.specs.Outcomes.{Shelves, StandsByText, outside}
use Rattle.wh_top_judging.proofs.Standing.{carry}
use Rattle.wh_types.specs.Outcome.{MatchOr}
use Rattle.wh_top_reducing.specs.Telling.{TellsReduced}
use Rattle.wh_top_replies.specs.Reducing.{IsNotReduced, StandsForReduction}
use Rattle.wh_top_replies.proofs.Reductions.{reduction_stands, reduced_begins, text_reduction}
use Rattle.wh_top_replies.proofs.reducing.reduce_file.Goals as goal

pub returns-in_err-system-clause-reduced : goal.returns-in_err-system-clause-reduced
returns-in_err-system-clause-reduced g c =
    let s : Shelves = outside (g.S.Shelf.held c.args.shelf.now) (g.S.Shelf.faults c.args.shelf.now) (g.S.Shelf.faults c.system_in.new.shelf) in
    let file = c.args.file.now in
    let term = c.args.term.now in
    carry c.from_residual.result c.in_err-system.field-0.0 _ (StandsByText s file) (StandsForReduction s file term) _ c.from_residual.ensures.1
    c.in_err-system.ensures.read (λ o h. text_reduction s file term o h)

pub returns-clause-reduced : goal.returns-clause-reduced
returns-clause-reduced g c =
    let s : Shelves = outside (g.S.Shelf.held c.args.shelf.now) (g.S.Shelf.faults c.args.shelf.now) (g.S.Shelf.faults c.system_in.new.shelf) in
    let d = system_data c.in_ok-system.system in
    reduction_stands s c.args.file.now c.args.term.now c.args.steps d c.reduced_in.result c.in_ok-system.ensures.read
    (subst (λ t. MatchOr c.reduced_in.result (TellsReduced d t c.args.steps) (IsNotReduced d t)) c.as_bytes.ensures.value c.reduced_in.ensures)

pub returns-clause-begins : goal.returns-clause-begins
returns-clause-begins g c =
    let d = system_data c.in_ok-system.system in
    reduced_begins d c.args.term.now c.args.steps c.reduced_in.result
    (subst (λ t. MatchOr c.reduced_in.result (TellsReduced d t c.args.steps) (IsNotReduced d t)) c.as_bytes.ensures.value c.reduced_in.ensures)
