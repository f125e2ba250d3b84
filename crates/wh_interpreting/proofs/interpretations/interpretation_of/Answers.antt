use Rattle.wh_system.specs.SystemView.{system_data}
use Rattle.wh_pairs.specs.Views.{pairs_data}
use Rattle.wh_interpreting.proofs.InterpretedLemmas.{by_search_if}
use Rattle.wh_interpreting.proofs.interpretations.interpretation_of.Goals as goal

pub returns : goal.returns
returns c =
    let lists = rw c.in_default-2.is at c.in_ok-node-2.ensures in
    by_search_if (system_data c.args.system.now) (pairs_data c.args.pairs.now) c.args.set.now c.args.budget c.find_interpretation.result lists
    c.find_interpretation.ensures
