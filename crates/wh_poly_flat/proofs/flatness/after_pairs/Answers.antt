use Rattle.std.proofs.Common.{Option, ℕ, ◌≤◌, None, Some, map, sum_by, get_or, sym, subst}
use Rattle.wh_terms.specs.Budget.{Left}
use Rattle.wh_terms.specs.Erase.{symbols}
use Rattle.wh_pairs.specs.PairData.{PairData, pair_data}
use Rattle.wh_pairs.specs.Sets.{InSet}
use Rattle.wh_pairs.proofs.ByPlace.{number_at, read_map}
use Rattle.wh_poly_flat.specs.Flat.{IsFlatPair, occurrences_at}
use Rattle.wh_poly_flat.proofs.RoomLemmas.{IsFlatAt, walk_next, walk_stops, walk_ends, left_at, left_pairs}
use Rattle.wh_poly_flat.proofs.flatness.after_pairs.Goals as goal

pub loop-number-preserved : goal.loop-number-preserved
loop-number-preserved c =
    let S = symbols c.args.signature.now in
    let pairs = c.args.pairs.now in
    let ps = map pair_data pairs in
    let set = c.args.set.now in
    let i = c.loop-number.number-index in
    let n = get_or set i 0 in
    let p = c.index-pairs-number.result in
    let there = read_map pair_data pairs n p (c.requires i 0 c.loop-number-test.true) c.index-pairs-number.is in
    walk_next (IsFlatAt S ps) (occurrences_at ps) set c.args.room i c.loop-number.rest c.in_ok-rest.rest n (number_at set i c.loop-number-test.true) c.loop-number.invariant
    (left_at S ps n c.loop-number.rest (pair_data p) there (Some c.in_ok-rest.rest) c.in_ok-rest.ensures)

pub returns-in_err-rest : goal.returns-in_err-rest
returns-in_err-rest c =
    let S = symbols c.args.signature.now in
    let pairs = c.args.pairs.now in
    let ps = map pair_data pairs in
    let set = c.args.set.now in
    let room = c.args.room in
    let i = c.loop-number.number-index in
    let n = get_or set i 0 in
    let p = c.index-pairs-number.result in
    let there = read_map pair_data pairs n p (c.requires i 0 c.loop-number-test.true) c.index-pairs-number.is in
    let stops = walk_stops (IsFlatAt S ps) (occurrences_at ps) set room i c.loop-number.rest n (number_at set i c.loop-number-test.true) c.loop-number.invariant
    (left_at S ps n c.loop-number.rest (pair_data p) there None c.in_err-rest.ensures) in
    subst (λ (answer : Option ℕ). Left room (sum_by (occurrences_at ps) set) (((p : PairData) → InSet ps set p → IsFlatPair S p) × (sum_by (occurrences_at ps) set ≤ room)) answer)
    (sym c.from_residual.ensures) (left_pairs S ps set room None stops)

pub returns : goal.returns
returns c =
    let S = symbols c.args.signature.now in
    let ps = map pair_data c.args.pairs.now in
    let set = c.args.set.now in
    let rest = c.loop-number.rest in
    left_pairs S ps set c.args.room (Some rest) (walk_ends (IsFlatAt S ps) (occurrences_at ps) set c.args.room c.loop-number.number-index rest c.loop-number-test.false c.loop-number.invariant)
