use Rattle.std.proofs.Common.{All, take}
use Rattle.wh_bench_sat.proofs.Shown.{IsShort}
use Rattle.wh_bench_sat.proofs.lrat.are_short.Given as goal

abbrev pub invariant-loop-entry : goal.invariant-loop-entry
invariant-loop-entry l = All IsShort (take l.entry-index l.entries)
