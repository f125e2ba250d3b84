use Rattle.wh_system.specs.SystemView.{system_data}
use Rattle.wh_pairs.specs.Views.{pairs_data}
use Rattle.wh_interpreting.proofs.InterpretedLemmas.{none_asked}
use Rattle.wh_interpreting.proofs.interpretations.by_usable_rules.Goals as goal

pub returns-in-None : goal.returns-in-None
returns-in-None c =
    none_asked (system_data c.args.system.now) (pairs_data c.args.pairs.now) c.args.set.now c.args.budget c.args.usable c.requires.usable c.in-None.is
