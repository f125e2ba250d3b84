use Rattle.std.proofs.Common.{◌+◌, ◌*◌, ◌≤◌, length}
use Rattle.wh_types.specs.Ty.{SortsBelow}
use Rattle.wh_types.specs.Erase.{ty}
use Rattle.wh_text.specs.Spelling.{put_type}
use Rattle.wh_text.proofs.PrintLemmas.{Leaves}
use Rattle.wh_system.specs.Canonical.{raw_type_of}
use Rattle.wh_system_print.proofs.TypePrinting.{weight}
use Rattle.wh_system_print.proofs.types.+print_type.Given as goal

abbrev pub decreases-print_type : goal.decreases-print_type
decreases-print_type l = 2 * weight (ty l.kind.now)

abbrev pub decreases-print_part : goal.decreases-print_part
decreases-print_part l = 2 * weight (ty l.kind.now) + 1

-- the type here is left to print
abbrev pub invariant-print_type-loop-here : goal.invariant-print_type-loop-here
invariant-print_type-loop-here l = record {
  left : Leaves l.initial.out l.out (put_type (raw_type_of l.sorts (ty l.here))) (put_type (raw_type_of l.sorts (ty l.kind)));
  sorted : SortsBelow (length l.sorts) (ty l.here);
  light : weight (ty l.here) ≤ weight (ty l.kind);
}
