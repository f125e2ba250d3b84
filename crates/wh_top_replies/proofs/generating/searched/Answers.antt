use Rattle.wh_pairs.specs.Views.{pairs_data}
use Rattle.wh_top_replies.proofs.generating.searched.Goals as goal

pub outcome_of-requires : goal.outcome_of-requires
outcome_of-requires c = (pairs_data c.args.pairs.now, c.in_ok-answer.ensures)

pub returns : goal.returns
returns c = c.outcome_of.ensures (pairs_data c.args.pairs.now) c.in_ok-answer.ensures
