-- The numbers that are chosen, and their trees.
use Rattle.std.proofs.Common.{◌≡◌, ℕ, ◌+◌, ◌<◌, ◌≤◌, List, length, map, All, Some, slice_get, Contains, subst, arith}
use Rattle.std.proofs.lemmas.Option.{slice_get_within, get_or_from_slice_get}
use Rattle.wh_terms.specs.Tree.{Tm}
use Rattle.wh_pairs.specs.PairData.{IsIncreasing}
use Rattle.wh_pairs.proofs.ByPlace.{unmap, remap}
use Rattle.wh_subterm.specs.Projections.{Chosen, IsProjected}
use Rattle.wh_subterm.specs.SubtermRows.{chosen_symbols}
use Rattle.wh_subterm.proofs.ChoiceLemmas.{one_choice, symbol_chosen}
use Rattle.wh_intern.specs.Trees.{tree_at}
use Rattle.wh_intern_pairs.specs.SidesAsPairs.{IsChosenNumber}

-- where the choice is none of the places

pub number_unchosen : (args : List Chosen) (f : ℕ) (ns : List ℕ) (n : ℕ) → (Contains (chosen_symbols args) f → ⊥) → IsChosenNumber args f ns n → ⊥
number_unchosen args f ns n none (i, found, at) = none (symbol_chosen args (record { symbol = f; argument = i + 1 }) found)

pub number_zero : (args : List Chosen) (f a : ℕ) (ns : List ℕ) (n : ℕ) → IsIncreasing (chosen_symbols args)
    → Contains args (record { symbol = f; argument = a }) → (1 ≤ a → ⊥) → IsChosenNumber args f ns n → ⊥
number_zero args f a ns n up here small (i, found, at) =
    let same = one_choice args f a (i + 1) up here found in small (omega arith)

pub number_past : (args : List Chosen) (f a : ℕ) (ns : List ℕ) (n : ℕ) → IsIncreasing (chosen_symbols args)
    → Contains args (record { symbol = f; argument = a }) → length ns < a → IsChosenNumber args f ns n → ⊥
number_past args f a ns n up here past (i, found, at) =
    let same = one_choice args f a (i + 1) up here found in
    let within = slice_get_within ns i n at in omega arith

pub number_at_place : (args : List Chosen) (f a : ℕ) (ns : List ℕ) (i n : ℕ) → Contains args (record { symbol = f; argument = a }) → a ≡ i + 1
    → slice_get ns i ≡ Some n → IsChosenNumber args f ns n
number_at_place args f a ns i n here is at = (i, subst (λ b. Contains args (record { symbol = f; argument = b })) is here, at)

-- the chosen number has the projected tree

pub tree_projected : (args : List Chosen) (f : ℕ) (ns : List ℕ) (n : ℕ) (ts : List Tm) → IsChosenNumber args f ns n
    → IsProjected args f (map (tree_at ts) ns) (tree_at ts n)
tree_projected args f ns n ts (i, found, at) = (i, found, remap (tree_at ts) ns i n at)

pub no_tree_projected : (args : List Chosen) (f : ℕ) (ns : List ℕ) (ts : List Tm) → ((n : ℕ) → IsChosenNumber args f ns n → ⊥)
    → (t : Tm) → IsProjected args f (map (tree_at ts) ns) t → ⊥
no_tree_projected args f ns ts none t (i, found, at) = let (n, there, is) = unmap (tree_at ts) ns i t at in none n (i, found, there)

pub chosen_below : (args : List Chosen) (f : ℕ) (ns : List ℕ) (n k : ℕ) → IsChosenNumber args f ns n → All (λ m. m < k) ns → n < k
chosen_below args f ns n k (i, found, at) all =
    subst (λ m. m < k) (get_or_from_slice_get ns i n n at) (all i n (slice_get_within ns i n at))
