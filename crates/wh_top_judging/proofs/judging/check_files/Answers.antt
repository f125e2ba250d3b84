use Rattle.wh_system.specs.SystemView.{system_data}
use Rattle.wh_pairs.specs.Views.{pairs_data}
use Rattle.wh_top_judging.specs.Outcomes.{Shelves, outside}
use Rattle.wh_top_judging.proofs.Standing.{file_stands}
use Rattle.wh_top_judging.proofs.judging.check_files.Goals as goal

pub returns-clause-stands : goal.returns-clause-stands
returns-clause-stands g c =
    let s : Shelves = outside (g.S.Shelf.held c.args.shelf.now) (g.S.Shelf.faults c.args.shelf.now) (g.S.Shelf.faults c.judge_file.new.shelf) in
    let mid = c.problem_in.new.shelf in
    file_stands s c.args.file.now c.args.cert.now (system_data c.in_ok-problem.problem.system) (pairs_data c.in_ok-problem.problem.pairs)
    (g.S.Shelf.held mid c.args.cert.now) (g.S.Shelf.faults mid c.args.cert.now) c.judge_file.result c.in_ok-problem.ensures.read
    (c.in_ok-problem.ensures.kept c.args.cert.now) (c.in_ok-problem.ensures.later c.args.cert.now) c.judge_file.ensures.judged
