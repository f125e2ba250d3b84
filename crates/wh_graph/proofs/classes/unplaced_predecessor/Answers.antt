use Rattle.std.proofs.Common.{◌≡◌, Some, length, get_or, slice_get, sym, ap, ◌∙◌, arith}
use Rattle.wh_pairs.proofs.ByPlace.{number_at}
use Rattle.wh_graph.specs.Classes.{IsPlaced}
use Rattle.wh_graph.proofs.GraphLemmas.{row_at, row_within, passed_on, passed_edges, edge_at}
use Rattle.wh_graph.proofs.classes.unplaced_predecessor.Goals as goal

pub first_unplaced-place-requires : goal.first_unplaced-place-requires
first_unplaced-place-requires c =
    let rows = c.args.rows.now in
    let v = c.args.vertex in
    let row = c.as_slice-row.result.now in
    let at : slice_get rows v ≡ Some row = row_at rows v c.index-rows-vertex.result c.requires.vertex c.index-rows-vertex.is ∙ ap Some (sym c.as_slice-row.ensures) in
    row_within rows v (length c.args.of.now) row c.requires.within at c.requires.size

pub returns-then-place-row : goal.returns-then-place-row
returns-then-place-row c =
    let P = IsPlaced c.args.of.now in
    let rows = c.args.rows.now in
    let v = c.args.vertex in
    let next = c.args.next.now in
    let row = c.as_slice-row.result.now in
    let place = c.first_unplaced-place.result in
    let at : slice_get rows v ≡ Some row = row_at rows v c.index-rows-vertex.result c.requires.vertex c.index-rows-vertex.is ∙ ap Some (sym c.as_slice-row.ensures) in
    let was = number_at next v (omega (arith, c.requires.vertex, c.requires.passed.size)) in
    let here = number_at row place c.if-place-row.true in
    record {
      passed = passed_on P rows next v (get_or next v 0) place row c.requires.passed at was c.first_unplaced-place.ensures.passed;
      found = (edge_at rows v place (get_or row place 0) row at here, c.first_unplaced-place.ensures.found (get_or row place 0) here);
    }

pub returns-else-place-row : goal.returns-else-place-row
returns-else-place-row c =
    let P = IsPlaced c.args.of.now in
    let rows = c.args.rows.now in
    let v = c.args.vertex in
    let next = c.args.next.now in
    let row = c.as_slice-row.result.now in
    let place = c.first_unplaced-place.result in
    let at : slice_get rows v ≡ Some row = row_at rows v c.index-rows-vertex.result c.requires.vertex c.index-rows-vertex.is ∙ ap Some (sym c.as_slice-row.ensures) in
    let was = number_at next v (omega (arith, c.requires.vertex, c.requires.passed.size)) in
    record {
      passed = passed_on P rows next v (get_or next v 0) place row c.requires.passed at was c.first_unplaced-place.ensures.passed;
      found = passed_edges P rows next v (get_or next v 0) place row c.requires.passed at was c.first_unplaced-place.ensures.passed c.if-place-row.false;
    }
