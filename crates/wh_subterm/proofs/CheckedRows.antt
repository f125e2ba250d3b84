-- What a check of a projection answers.
use Rattle.std.proofs.Common.{◌≡◌, ℕ, List, Result, map, MatchResult, Contains, All, subst}
use Rattle.wh_terms.specs.Rules.{RewriteRule}
use Rattle.wh_pairs.specs.PairData.{PairData, pair_data}
use Rattle.wh_pairs.specs.declared.pair.Pair as pair
use Rattle.wh_subterm.specs.Projections.{Chosen}
use Rattle.wh_subterm.specs.declared.projection.Choice as code
use Rattle.wh_subterm.specs.declared.projection.SubtermFault.{SubtermFault}
use Rattle.wh_subterm.specs.SubtermRows.{AreForMarked, IsPlace, IsDecreasing, IsFirstSubtermFault, IsProjection, chosen}
use Rattle.wh_pairs.specs.Drops.{IsBadDrop}
use Rattle.wh_pairs.proofs.DropLemmas.{drops_some, drops_once, drops_within}

abbrev pub Checked : List RewriteRule → List pair.Pair → List ℕ → List code.Choice → List ℕ → Result (Unit {0}) SubtermFault → Type 0
Checked rules pairs set args drop r = MatchResult r (λ _. IsProjection rules (map pair_data pairs) set (map chosen args) drop) (IsFirstSubtermFault rules (map pair_data pairs) set (map chosen args) drop)

-- the same lists under other names
pub checked_same : (rules : List RewriteRule) (ps qs : List pair.Pair) (ms ns : List ℕ) (cs ds : List code.Choice) (drop : List ℕ) (r : Result (Unit {0}) SubtermFault) → ps ≡ qs → ms ≡ ns → cs ≡ ds
    → Checked rules ps ms cs drop r → Checked rules qs ns ds drop r
checked_same rules ps qs ms ns cs ds drop r p m c checked =
    subst (λ bs. Checked rules qs ns bs drop r) c (subst (λ ks. Checked rules qs ks cs drop r) m (subst (λ us. Checked rules us ms cs drop r) p checked))

-- what the conditions say, once all are tested
pub projection_passed : (rules : List RewriteRule) (pairs : List PairData) (set : List ℕ) (args : List Chosen) (drop : List ℕ) → AreForMarked pairs set args → All (IsPlace rules) args → (IsBadDrop set drop → ⊥)
    → ((n : ℕ) → Contains set n → IsDecreasing pairs args drop n) → IsProjection rules pairs set args drop
projection_passed rules pairs set args drop marked places good decreasing =
    let within = drops_within set drop good in
    record {
      marked = marked;
      places = places;
      some_dropped = drops_some set drop good;
      once = drops_once set drop good;
      within = within;
      decreasing = λ n a found at. (decreasing n found a at).0;
      below = λ n a found at. (decreasing n (subst (Contains set) found.2 (within found.0 n found.1)) a at).1 found;
    }
