use Rattle.wh_terms.specs.Erase.{tm}
use Rattle.wh_system.specs.Canonical.{IsNamedBelow}
use Rattle.wh_system_print.specs.NameViews.{printed_names}
use Rattle.wh_system_print.proofs.ListPrinting.{at_item}
use Rattle.wh_system_print.proofs.pairs.print_arguments.Goals as goal

pub print_tree-requires : goal.print_tree-requires
print_tree-requires c =
    at_item (IsNamedBelow (printed_names c.args.names.now) 0) tm c.args.arguments.now c.loop-argument.argument-index c.argument-item.result c.requires c.loop-argument-test.true c.argument-item.is
