use Rattle.std.proofs.Common.{◌≤◌, ◌-◌, length}
use Rattle.wh_access.specs.Sources.{Begun, Marks}
use Rattle.wh_access.specs.Tables.{LeadsIn}
use Rattle.wh_access.proofs.sources.sources.Given as goal

abbrev pub invariant-loop-at : goal.invariant-loop-at
invariant-loop-at l = record {
  begun : Begun (LeadsIn l.demands) l.sorts l.goal l.found.items l.at;
  marks : Marks l.sorts l.found.items l.seen.items;
  within : l.at ≤ length l.found.items;
}

abbrev pub decreases-loop-at : goal.decreases-loop-at
decreases-loop-at l = l.sorts - l.at
