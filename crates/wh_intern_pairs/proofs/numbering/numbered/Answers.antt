-- One pair more.
use Rattle.std.proofs.Common.{[], map, sym, subst}
use Rattle.wh_pairs.specs.PairData.{pair_data}
use Rattle.wh_intern.specs.TableTrees.{trees}
use Rattle.wh_intern_pairs.specs.NumberedSides.{AreSides, IsPartOfSides}
use Rattle.wh_intern_pairs.proofs.JoinLaws.{joins_none, joins_then}
use Rattle.wh_intern_pairs.proofs.EntryLaws.{no_sides, sides_next}
use Rattle.wh_intern_pairs.proofs.numbering.numbered.Goals as goal

pub loop-place-init : goal.loop-place-init
loop-place-init c = record {
  sides = subst (λ l. AreSides (trees c.args.table.now) l []) (sym c.new-list.ensures) (no_sides (trees c.args.table.now));
  joins = joins_none (trees c.args.table.now) (IsPartOfSides (map pair_data c.args.pairs.now));
}

pub loop-place-preserved : goal.loop-place-preserved
loop-place-preserved c =
    let b = trees c.loop-place.table in
    let d = trees c.sides_at.new.table in
    let xs = c.args.pairs.now in record {
      sides = sides_next b d (IsPartOfSides (map pair_data xs)) xs c.loop-place.place c.loop-place.list c.push.new.self c.in_ok-sides.sides
          c.sides_at.ensures.joins c.loop-place-test.true c.loop-place.invariant.sides c.in_ok-sides.ensures.sides c.in_ok-push.ensures.ok;
      joins = joins_then (trees c.args.table.now) b d (IsPartOfSides (map pair_data xs)) c.loop-place.invariant.joins c.sides_at.ensures.joins;
    }

pub returns-in_err-sides-clause-joins : goal.returns-in_err-sides-clause-joins
returns-in_err-sides-clause-joins c =
    joins_then (trees c.args.table.now) (trees c.loop-place.table) (trees c.sides_at.new.table) (IsPartOfSides (map pair_data c.args.pairs.now))
    c.loop-place.invariant.joins c.sides_at.ensures.joins

pub returns-in_err-push-clause-joins : goal.returns-in_err-push-clause-joins
returns-in_err-push-clause-joins c =
    joins_then (trees c.args.table.now) (trees c.loop-place.table) (trees c.sides_at.new.table) (IsPartOfSides (map pair_data c.args.pairs.now))
    c.loop-place.invariant.joins c.sides_at.ensures.joins
