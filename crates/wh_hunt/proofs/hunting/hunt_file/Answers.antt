use Rattle.wh_system.specs.SystemView.{system_data}
use Rattle.wh_pairs.specs.Views.{pairs_data}
use Rattle.wh_top_judging.specs.Outcomes.{Shelves, outside}
use Rattle.wh_top_replies.proofs.Searching.{search_stands}
use Rattle.wh_hunt.specs.Hunting.{usual_options}
use Rattle.wh_hunt.proofs.Meaning.{searched_is_hunted}
use Rattle.wh_hunt.proofs.hunting.hunt_file.Goals as goal

pub returns-clause-found : goal.returns-clause-found
returns-clause-found g c =
    let s : Shelves = outside (g.S.Shelf.held c.args.shelf.now) (g.S.Shelf.faults c.args.shelf.now) (g.S.Shelf.faults c.problem_in.new.shelf) in
    let problem = c.in_ok-problem.problem in
    searched_is_hunted s c.args.file.now c.found_text.result
    (search_stands s c.args.file.now usual_options (system_data problem.system) (pairs_data problem.pairs) c.found_text.result
    c.in_ok-problem.ensures.read c.found_text.ensures.found)
