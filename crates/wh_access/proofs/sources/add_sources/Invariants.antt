use Rattle.std.proofs.Common.{length}
use Rattle.wh_access.specs.Tables.{LeadsIn}
use Rattle.wh_access.proofs.SourceLemmas.{Adding}
use Rattle.wh_access.proofs.sources.add_sources.Given as goal

abbrev pub invariant-loop-sort : goal.invariant-loop-sort
invariant-loop-sort l = Adding (LeadsIn l.demands) l.sorts l.goal l.at l.here (length l.initial.found.items) l.sort l.found.items l.seen.items
