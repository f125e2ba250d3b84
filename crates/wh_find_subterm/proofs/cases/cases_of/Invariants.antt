use Rattle.std.proofs.Common.{◌≡◌, ◌+◌, map, take}
use Rattle.wh_pairs.specs.PairData.{pair_data}
use Rattle.wh_find_subterm.specs.Cases.{AreCases, spots}
use Rattle.wh_find_subterm.proofs.cases.cases_of.Given as goal

abbrev pub invariant-loop-number : goal.invariant-loop-number
invariant-loop-number l = record {
  own : l.own ≡ l.end + l.number-index;
  cases : AreCases (spots l.rows (map pair_data l.pairs) l.end (take l.number-index l.set)) l.cases.items;
}
