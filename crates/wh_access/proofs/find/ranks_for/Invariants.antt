use Rattle.wh_access.specs.Tables.{LeadsIn, LeadsStrictlyIn}
use Rattle.wh_access.proofs.RankLemmas.{RanksSoFar}
use Rattle.wh_access.proofs.find.ranks_for.Given as goal

abbrev pub invariant-loop-sort : goal.invariant-loop-sort
invariant-loop-sort l = RanksSoFar (LeadsIn l.demands) (LeadsStrictlyIn l.demands) l.sorts l.sort l.numbers.items
