use Rattle.std.proofs.Common.{length, arith, sym, ◌∙◌}
use Rattle.wh_terms.specs.Erase.{declared_meta}
use Rattle.wh_system_print.specs.Sorted.{IsSorted}
use Rattle.wh_system_print.proofs.ListPrinting.{at_index, some_left}
use Rattle.wh_system_print.proofs.declarations.print_metas.Goals as goal

pub print_meta-requires : goal.print_meta-requires
print_meta-requires c =
    at_index (IsSorted (length c.args.sorts.now)) declared_meta c.args.metas.now 0 c.index-metas-0.result c.requires.sorted (omega (arith, c.requires.each, some_left c.args.names.now (sym c.is_empty.ensures ∙ c.if-is_empty.false))) c.index-metas-0.is
