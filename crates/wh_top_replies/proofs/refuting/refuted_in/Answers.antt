use Rattle.wh_system.specs.SystemView.{system_data}
use Rattle.wh_pairs.specs.Views.{pairs_data}
use Rattle.wh_top_replies.proofs.Refutals.{verdict_there, verdict_told}
use Rattle.wh_top_replies.proofs.refuting.refuted_in.Goals as goal

pub verdict_line-requires : goal.verdict_line-requires
verdict_line-requires c =
    verdict_there (system_data c.args.problem.now.system) (pairs_data c.args.problem.now.pairs) c.args.options.now c.in_ok-verdict.verdict
    c.is_well_made.ensures c.in_ok-verdict.ensures

pub returns : goal.returns
returns c =
    verdict_told (system_data c.args.problem.now.system) (pairs_data c.args.problem.now.pairs) c.args.options.now c.in_ok-verdict.verdict
    c.verdict_line.result c.in_ok-verdict.ensures c.verdict_line.ensures
