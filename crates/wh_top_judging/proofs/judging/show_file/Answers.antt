use Rattle.std.proofs.Common.{◌++◌}
use Rattle.wh_system_print.specs.SystemText.{system_text}
use Rattle.wh_system_print.specs.PairText.{pairs_text}
use Rattle.wh_system.specs.SystemView.{system_data}
use Rattle.wh_pairs.specs.Views.{pairs_data}
use Rattle.wh_top_judging.specs.Texts.{IsShown}
use Rattle.wh_top_judging.proofs.Standing.{told_with}
use Rattle.wh_top_judging.proofs.judging.show_file.Goals as goal

pub returns-clause-shows : goal.returns-clause-shows
returns-clause-shows g c =
    let problem = c.in_ok-problem.problem in
    told_with (g.S.Shelf.held c.args.shelf.now c.args.file.now) (system_data problem.system) (pairs_data problem.pairs) (IsShown c.in_ok-shown.field-0) c.in_ok-problem.ensures.read
    (c.in_ok-shown.ensures, c.printed_systems_are_read_back.ensures)

pub returns-clause-begins : goal.returns-clause-begins
returns-clause-begins g c =
    let problem = c.in_ok-problem.problem in
    (system_text (system_data problem.system) ++ pairs_text (system_data problem.system) (pairs_data problem.pairs), c.in_ok-shown.ensures)
