use Rattle.std.proofs.Common.{drop}
use Rattle.wh_terms.specs.Erase.{declared_metas}
use Rattle.wh_text.proofs.PrintLemmas.{Leaves}
use Rattle.wh_system_print.specs.SystemText.{put_further_metas}
use Rattle.wh_system_print.proofs.declarations.print_further_metas.Given as goal

-- the meta-variables from here on are left to print
abbrev pub invariant-loop-k : goal.invariant-loop-k
invariant-loop-k l = Leaves l.initial.out l.out (put_further_metas l.sorts (drop l.k l.names) (declared_metas (drop l.k l.metas))) (put_further_metas l.sorts (drop 1 l.names) (drop 1 (declared_metas l.metas)))
