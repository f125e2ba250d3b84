use Rattle.std.proofs.Common.{length, arith}
use Rattle.wh_terms.specs.Erase.{declared_meta}
use Rattle.wh_system_print.specs.Sorted.{IsSorted}
use Rattle.wh_system_print.proofs.ListPrinting.{at_index}
use Rattle.wh_system_print.proofs.declarations.print_further_metas.Goals as goal

pub print_meta-requires : goal.print_meta-requires
print_meta-requires c =
    at_index (IsSorted (length c.args.sorts.now)) declared_meta c.args.metas.now c.loop-k.k c.index-metas-k.result c.requires.sorted (omega (arith, c.loop-k-test.true, c.requires.each)) c.index-metas-k.is
