use Rattle.wh_system.specs.SystemView.{system_data}
use Rattle.wh_pairs.specs.Views.{pairs_data}
use Rattle.wh_interpreting.proofs.InterpretedLemmas.{ends_given_up, ends_none}
use Rattle.wh_interpreting.proofs.interpretations.by_list.Goals as goal

pub returns-in-Nothing : goal.returns-in-Nothing
returns-in-Nothing c =
    ends_none (system_data c.args.system.now) (pairs_data c.args.pairs.now) c.args.set.now c.args.listed c.args.budget c.most_learnt-most.result
    c.in_ok-node.field-0 c.requires.listed c.in_ok-node.ensures c.in-Nothing.is

pub returns-in-Spent : goal.returns-in-Spent
returns-in-Spent c =
    ends_given_up (system_data c.args.system.now) (pairs_data c.args.pairs.now) c.args.set.now c.args.listed c.args.budget c.most_learnt-most.result
    c.in_ok-node.field-0 _ c.requires.listed c.in_ok-node.ensures c.in-Spent.is c.most_learnt-most.ensures.less c.most_learnt-most.ensures.share
