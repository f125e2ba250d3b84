use Rattle.std.proofs.Common.{drop}
use Rattle.wh_types.specs.Erase.{tys}
use Rattle.wh_text.proofs.PrintLemmas.{Leaves}
use Rattle.wh_system_print.specs.SystemText.{put_further}
use Rattle.wh_system_print.proofs.declarations.print_further.Given as goal

-- the types from here on are left to print
abbrev pub invariant-loop-kind : goal.invariant-loop-kind
invariant-loop-kind l = Leaves l.initial.out l.out (put_further l.sorts (tys (drop l.kind-index l.kinds))) (put_further l.sorts (tys l.kinds))
