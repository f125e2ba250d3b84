-- The numbers of the sides of a pair, among those of all pairs.
use Rattle.std.proofs.Common.{◌≡◌, ℕ, ◌<◌, List, length, map, get_or, Some, slice_get, ap, subst, arith}
use Rattle.std.proofs.lemmas.List.{length-map}
use Rattle.wh_pairs.specs.PairData.{pair_data}
use Rattle.wh_pairs.specs.declared.pair.Pair.{Pair}
use Rattle.wh_pairs.proofs.ByPlace.{read, read_map}
use Rattle.wh_intern.specs.TableTrees.{trees}
use Rattle.wh_intern.specs.declared.sides.Sides.{Sides}
use Rattle.wh_intern_pairs.specs.NumberedSides.{AreSidesOf}
use Rattle.wh_intern_pairs.specs.Numberings.{IsNumbering}
use Rattle.wh_intern_pairs.specs.declared.numbered.Numbered.{Numbered}

pub sides_there : (n : Numbered) (xs : List Pair) (k : ℕ) (ss : List Sides) (s : Sides) (x : Pair) → IsNumbering n (map pair_data xs) → k < length xs
    → ss ≡ n.sides → s ≡ get_or ss k s → x ≡ get_or xs k x → AreSidesOf (trees n.table) s (pair_data x)
sides_there n xs k ss s x are within same is also =
    let low : k < length ss = omega (arith, within, are.long, length-map xs pair_data, ap length same) in
    are.each k s (pair_data x) (subst (λ l. slice_get l k ≡ Some s) same (read ss k s low is)) (read_map pair_data xs k x within also)
