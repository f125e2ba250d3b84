use Rattle.wh_system.specs.SystemView.{system_data}
use Rattle.wh_pairs.specs.Views.{pairs_data}
use Rattle.wh_top_judging.proofs.Standing.{told_with}
use Rattle.wh_top_judging.specs.Outcomes.{Shelves, outside, StandsBySystem}
use Rattle.wh_explain.specs.Meaning.{Finds, IsUnweighed}
use Rattle.wh_explain.proofs.Texts.{carry_cause, means_loop, means_proof, unweighed_system}
use Rattle.wh_explain.proofs.explain.by_search.Goals as goal

pub returns-clause-says : goal.returns-clause-says
returns-clause-says g c =
    told_with (g.S.Shelf.held c.args.shelf.now c.args.file.now) (system_data c.in_ok-problem.problem.system) (pairs_data c.in_ok-problem.problem.pairs)
    (λ d ps. Finds d ps c.in_ok-searched.field-0) c.in_ok-problem.ensures.read c.in_ok-searched.ensures.finds

pub returns-clause-proof : goal.returns-clause-proof
returns-clause-proof g c =
    means_proof (g.S.Shelf.held c.args.shelf.now c.args.file.now) (system_data c.in_ok-problem.problem.system) c.in_ok-searched.field-0
    c.in_ok-problem.ensures.read.0 c.in_ok-searched.ensures.means

pub returns-clause-endless : goal.returns-clause-endless
returns-clause-endless g c =
    means_loop (g.S.Shelf.held c.args.shelf.now c.args.file.now) (system_data c.in_ok-problem.problem.system) c.in_ok-searched.field-0
    c.in_ok-problem.ensures.read.0 c.in_ok-searched.ensures.means

pub returns-in_err-problem-clause-unweighed : goal.returns-in_err-problem-clause-unweighed
returns-in_err-problem-clause-unweighed g c =
    let s : Shelves = outside (g.S.Shelf.held c.args.shelf.now) (g.S.Shelf.faults c.args.shelf.now) (g.S.Shelf.faults c.problem_in.new.shelf) in
    carry_cause c.from_residual.result c.in_err-problem.field-0.0 _ (StandsBySystem s c.args.file.now) IsUnweighed c.from_residual.ensures.1
    c.in_err-problem.ensures.read (unweighed_system s c.args.file.now)
