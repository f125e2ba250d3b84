use Rattle.std.proofs.lemmas.Option.{MatchOption-at_some}
use Rattle.wh_pairs.specs.PairData.{pair_data}
use Rattle.wh_find_subterm.proofs.sight.is_below_in.Goals as goal

pub returns-in-Some : goal.returns-in-Some
returns-in-Some c = c.is_below_by_number.ensures (pair_data c.args.sight.now.pair.now) (MatchOption-at_some _ _ _ c.in-Some.is c.requires.sight)
