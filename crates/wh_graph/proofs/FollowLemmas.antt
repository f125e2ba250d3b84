-- Which pair may follow which, by their numbers.
use Rattle.std.proofs.Common.{◌≡◌, ℕ, List, Some, slice_get, subst}
use Rattle.wh_terms.specs.Rules.{RewriteRule}
use Rattle.wh_pairs.specs.PairData.{PairData}
use Rattle.wh_graph.specs.May.{May, Follows}
use Rattle.wh_pairs.proofs.ByPlace.{some_one}

pub follows_from : (rules : List RewriteRule) (pairs : List PairData) (a b : ℕ) (x y : PairData) → slice_get pairs a ≡ Some x → slice_get pairs b ≡ Some y → May rules x y → Follows rules pairs a b
follows_from rules pairs a b x y first second may = (x, y, first, second, may)

pub follows_may : (rules : List RewriteRule) (pairs : List PairData) (a b : ℕ) (x y : PairData) → slice_get pairs a ≡ Some x → slice_get pairs b ≡ Some y → Follows rules pairs a b → May rules x y
follows_may rules pairs a b x y first second (u, v, here, there, may) =
    subst (May rules x) (some_one there second) (subst (λ p. May rules p v) (some_one here first) may)
