use Rattle.std.proofs.Common.{◌++◌, map, take, get_or, append_assoc, ap, sym, ◌∙◌}
use Rattle.wh_poly_space.specs.Spots.{spot_of_two, rows_of}
use Rattle.wh_poly_space.proofs.SpotLemmas.{rows_more}
use Rattle.wh_poly_space.proofs.spots.add_rows.Goals as goal

pub loop-x-preserved : goal.loop-x-preserved
loop-x-preserved c =
    let firsts = c.args.firsts.now in
    let seconds = c.args.seconds.now in
    let i = c.loop-x.x-index in
    let start = c.args.spots.now.items in
    c.in_ok-add_row.ensures ∙ ap (λ l. l ++ map (spot_of_two (get_or firsts i 0)) seconds) c.loop-x.invariant
    ∙ append_assoc start (rows_of (take i firsts) seconds) (map (spot_of_two (get_or firsts i 0)) seconds)
    ∙ ap (λ l. start ++ l) (sym (rows_more firsts seconds i c.loop-x-test.true))
