use Rattle.std.proofs.Common.{◌<◌, length}
use Rattle.wh_access.specs.Sources.{IsWay, LeadsBy, sort_at}
use Rattle.wh_access.proofs.SourceLemmas.{StandsFrom}
use Rattle.wh_access.proofs.sources.way_from.Given as goal

abbrev pub invariant-loop-at : goal.invariant-loop-at
invariant-loop-at l = record {
  within : l.at < length l.found;
  stands : StandsFrom l.found l.at l.way;
  way : IsWay (LeadsBy l.found) (sort_at l.found l.start) (sort_at l.found l.at) l.way;
}

abbrev pub decreases-loop-at : goal.decreases-loop-at
decreases-loop-at l = l.at
