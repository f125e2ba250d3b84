use Rattle.std.proofs.Common.{length}
use Rattle.wh_types.specs.Ty.{SortsBelow}
use Rattle.wh_types.specs.Erase.{ty}
use Rattle.wh_system_print.proofs.ListPrinting.{at_item}
use Rattle.wh_system_print.proofs.declarations.print_further.Goals as goal

pub print_type-requires : goal.print_type-requires
print_type-requires c =
    at_item (SortsBelow (length c.args.sorts.now)) ty c.args.kinds.now c.loop-kind.kind-index c.kind-item.result c.requires c.loop-kind-test.true c.kind-item.is
