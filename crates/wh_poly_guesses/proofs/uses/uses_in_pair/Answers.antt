use Rattle.std.proofs.Common.{ap, sym, ◌∙◌}
use Rattle.wh_terms.specs.Erase.{tms as trees}
use Rattle.wh_pairs.specs.PairData.{pair_data}
use Rattle.wh_pairs.proofs.AlikeLemmas.{tms_of_map}
use Rattle.wh_poly_guesses.proofs.UseLemmas.{pair_uses}
use Rattle.wh_poly_guesses.proofs.uses.uses_in_pair.Goals as goal

pub returns : goal.returns
returns c =
    let p = c.args.pair.now in
    pair_uses c.args.first c.args.marked.now (pair_data p) (record { left = c.in_ok-left.left; right = c.in_ok-right.right }) (trees c.deref.result.now) (trees p.right) c.place_of-left.result c.place_of-right.result c.requires.increasing
    (tms_of_map p.left.value ∙ ap trees (sym c.deref.ensures)) (tms_of_map p.right) c.in_ok-left.ensures c.in_ok-right.ensures c.place_of-left.ensures c.place_of-right.ensures
