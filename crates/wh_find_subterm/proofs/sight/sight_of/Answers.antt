use Rattle.std.proofs.lemmas.Option.{MatchOption-at_some}
use Rattle.wh_find_subterm.proofs.SightLemmas.{sides_there}
use Rattle.wh_find_subterm.proofs.sight.sight_of.Goals as goal

pub returns-clause-sides : goal.returns-clause-sides
returns-clause-sides c =
    let are = MatchOption-at_some _ _ _ c.in-Some.is c.requires.numbered in
    sides_there c.in-Some.numbered.now c.args.pairs.now c.args.number c.as_slice.result.now c.index-as_slice-number.result
    c.index-pairs-number.result are c.requires.number c.as_slice.ensures c.index-as_slice-number.is c.index-pairs-number.is
