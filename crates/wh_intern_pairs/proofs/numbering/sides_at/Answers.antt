-- The left side, and then the right one.
use Rattle.std.proofs.Common.{map}
use Rattle.wh_terms.specs.Erase.{tm}
use Rattle.wh_pairs.specs.PairData.{pair_data}
use Rattle.wh_intern.specs.TableTrees.{trees}
use Rattle.wh_intern_pairs.specs.NumberedSides.{IsPartOfOne, IsPartOfSides}
use Rattle.wh_intern_pairs.proofs.JoinLaws.{joins_as, joins_then}
use Rattle.wh_intern_pairs.proofs.EntryLaws.{right_parts, entry_made}
use Rattle.wh_intern_pairs.proofs.numbering.sides_at.Goals as goal

pub returns-in_err-right-clause-joins : goal.returns-in_err-right-clause-joins
returns-in_err-right-clause-joins c =
    let b = trees c.left_numbers.new.table in
    let d = trees c.numbers_of.new.table in
    let xs = c.args.pairs.now in
    let us = c.as_slice.result.now in
    joins_then (trees c.args.table.now) b d (IsPartOfSides (map pair_data xs)) c.left_numbers.ensures.joins
    (joins_as b d (IsPartOfOne (map tm us)) (IsPartOfSides (map pair_data xs)) c.numbers_of.ensures.joins
    (right_parts xs c.args.place c.index-pairs-place.result c.requires.within c.index-pairs-place.is us c.as_slice.ensures))

pub returns-clause-joins : goal.returns-clause-joins
returns-clause-joins c =
    let b = trees c.left_numbers.new.table in
    let d = trees c.numbers_of.new.table in
    let xs = c.args.pairs.now in
    let us = c.as_slice.result.now in
    joins_then (trees c.args.table.now) b d (IsPartOfSides (map pair_data xs)) c.left_numbers.ensures.joins
    (joins_as b d (IsPartOfOne (map tm us)) (IsPartOfSides (map pair_data xs)) c.numbers_of.ensures.joins
    (right_parts xs c.args.place c.index-pairs-place.result c.requires.within c.index-pairs-place.is us c.as_slice.ensures))

pub returns-clause-sides : goal.returns-clause-sides
returns-clause-sides c =
    let us = c.as_slice.result.now in
    entry_made (trees c.left_numbers.new.table) (trees c.numbers_of.new.table) (IsPartOfOne (map tm us)) c.args.pairs.now c.args.place
    c.index-pairs-place.result c.requires.within c.index-pairs-place.is c.in_ok-left.left c.in_ok-right.right us c.as_slice.ensures
    c.numbers_of.ensures.joins c.in_ok-left.ensures.numbers c.in_ok-right.ensures.numbers
