use Rattle.wh_system.specs.SystemView.{system_data}
use Rattle.wh_pairs.specs.Views.{pairs_data}
use Rattle.wh_top_judging.specs.Outcomes.{Shelves, outside}
use Rattle.wh_top_replies.proofs.Refutals.{refuted_told, told_begins}
use Rattle.wh_top_replies.proofs.refuting.refute_file.Goals as goal

pub returns-clause-refuted : goal.returns-clause-refuted
returns-clause-refuted g c =
    let s : Shelves = outside (g.S.Shelf.held c.args.shelf.now) (g.S.Shelf.faults c.args.shelf.now) (g.S.Shelf.faults c.problem_in.new.shelf) in
    let problem = c.in_ok-problem.problem in
    refuted_told s c.args.file.now c.args.options.now (system_data problem.system) (pairs_data problem.pairs) c.in_ok-refuted_in.field-0
    c.in_ok-problem.ensures.read c.in_ok-refuted_in.ensures

pub returns-clause-begins : goal.returns-clause-begins
returns-clause-begins g c =
    let problem = c.in_ok-problem.problem in
    told_begins (system_data problem.system) (pairs_data problem.pairs) c.args.options.now c.in_ok-refuted_in.field-0 c.in_ok-refuted_in.ensures
