use Rattle.std.proofs.Common.{map}
use Rattle.wh_terms.specs.Erase.{symbols}
use Rattle.wh_pairs.specs.PairData.{pair_data}
use Rattle.wh_poly_flat.specs.Flat.{occurrences_at}
use Rattle.wh_poly_flat.proofs.RoomLemmas.{Passed, IsFlatAt}
use Rattle.wh_poly_flat.proofs.flatness.after_pairs.Given as goal

abbrev pub invariant-loop-number : goal.invariant-loop-number
invariant-loop-number l =
    let pairs = map pair_data l.fn.pairs in
    Passed (IsFlatAt (symbols l.fn.signature) pairs) (occurrences_at pairs) l.fn.set l.fn.room l.number-index l.rest
