use Rattle.wh_types.specs.Ty.{SortsBelow}
use Rattle.wh_types.specs.Erase.{ty}
use Rattle.std.proofs.Common.{length, arith}
use Rattle.wh_system_print.proofs.ListPrinting.{at_index}
use Rattle.wh_system_print.proofs.declarations.print_funs.Goals as goal

pub print_fun-requires : goal.print_fun-requires
print_fun-requires c =
    at_index (SortsBelow (length c.args.sorts.now)) ty c.args.kinds.now c.loop-k.k c.index-kinds-k.result c.requires.sorted (omega (arith, c.loop-k-test.true, c.requires.each)) c.index-kinds-k.is
