use Rattle.std.proofs.Common.{◌<◌, length}
use Rattle.wh_pairs.specs.PairData.{within}
use Rattle.wh_system_print.specs.NameViews.{printed_names}
use Rattle.wh_system_print.proofs.ListPrinting.{at_copy}
use Rattle.wh_system_print.proofs.pairs.print_conditions.Goals as goal

pub print_meta-requires : goal.print_meta-requires
print_meta-requires c =
    at_copy (λ w. w.meta < length (printed_names c.args.names.now).metas) within c.args.conditions.now c.loop-condition.condition-index (record { meta = 0; place = 0 }) c.requires c.loop-condition-test.true
