-- What can be wrong with the projection and the drop list of a proof node, and what comes first.
use Rattle.std.specs.Prelude.{ℕ, ◌<◌, ◌≤◌, ◌≡◌, ◌≢◌, ◌⊎◌, List, [], Some, map, All, Contains, slice_get}
use Rattle.wh_terms.specs.Rules.{RewriteRule}
use Rattle.wh_system.specs.Needs.{need_of}
use Rattle.wh_pairs.specs.PairData.{PairData}
use Rattle.wh_pairs.specs.Drops.{IsBadDrop}
use Rattle.wh_pairs.specs.Marked.{AreMarked}
use Rattle.wh_subterm.specs.Projections.{Chosen, Equal, Below}
use Rattle.wh_subterm.specs.declared.projection.Choice as code
use Rattle.wh_subterm.specs.declared.projection.SubtermFault.{SubtermFault}
use Rattle.wh_subterm.specs.declared.projection.SubtermFault.TheVariants.{BadArgs, NoProjection, BadArgument, BadDrop, NotDecreasing}

-- what a `Choice` stands for
abbrev pub chosen : code.Choice → Chosen
chosen c = record { symbol = c.symbol; argument = c.argument }

abbrev pub chosen_symbols : List Chosen → List ℕ
chosen_symbols = map (λ c. c.symbol)

-- the choices are for the marked symbols of the set
abbrev pub AreForMarked : List PairData → List ℕ → List Chosen → Type 0
AreForMarked pairs set args = AreMarked pairs set (chosen_symbols args)

-- the symbol has rules that need no argument
abbrev pub HasNone : List RewriteRule → Chosen → Type 0
HasNone rules c = need_of rules c.symbol ≡ Some 0

-- the number is that of an argument which the rules of the symbol need
abbrev pub IsPlace : List RewriteRule → Chosen → Type 0
IsPlace rules c = (need : ℕ) × (need_of rules c.symbol ≡ Some need) × (0 < c.argument) × (c.argument ≤ need)

-- the pair with the number is neither equal nor below, or it is dropped and not below
abbrev pub IsNotDecreasing : List PairData → List Chosen → List ℕ → ℕ → Type 0
IsNotDecreasing pairs args drop n =
    (a : PairData) × (slice_get pairs n ≡ Some a)
    × (((Equal args a ⊎ Below args a) → ⊥) ⊎ (Contains drop n × (Below args a → ⊥)))

-- the pair with the number is equal or below, and below if it is dropped
abbrev pub IsDecreasing : List PairData → List Chosen → List ℕ → ℕ → Type 0
IsDecreasing pairs args drop n =
    (a : PairData) → slice_get pairs n ≡ Some a → (Equal args a ⊎ Below args a) × (Contains drop n → Below args a)

-- P holds of no choice
abbrev pub NoneIs : (Chosen → Type 0) → List Chosen → Type 0
NoneIs P args = (c : Chosen) → Contains args c → P c → ⊥

-- the number f is the symbol of the first choice that P holds of
abbrev pub IsFirstOf : (Chosen → Type 0) → List Chosen → ℕ → Type 0
IsFirstOf P args f =
    (i : ℕ) × (c : Chosen) × (slice_get args i ≡ Some c) × (c.symbol ≡ f) × P c
    × ((j : ℕ) (d : Chosen) → j < i → slice_get args j ≡ Some d → P d → ⊥)

-- the choices make each pair of the set equal or below, and each dropped one below (Kop 2012, the subterm criterion;
-- the form is ours)
pub record IsProjection (rules : List RewriteRule) (pairs : List PairData) (set : List ℕ) (args : List Chosen)
    (drop : List ℕ) : Type 0 where
  pub marked : AreForMarked pairs set args
  pub places : All (IsPlace rules) args
  -- some pair is dropped
  pub some_dropped : drop ≢ []
  -- no pair is dropped twice
  pub once : (i j n : ℕ) → slice_get drop i ≡ Some n → slice_get drop j ≡ Some n → i ≡ j
  -- what is dropped is of the set
  pub within : All (Contains set) drop
  pub decreasing : (n : ℕ) (a : PairData) → Contains set n → slice_get pairs n ≡ Some a → Equal args a ⊎ Below args a
  pub below : (n : ℕ) (a : PairData) → Contains drop n → slice_get pairs n ≡ Some a → Below args a

-- the first thing wrong, in this order (ours)
abbrev pub IsFirstSubtermFault : List RewriteRule → List PairData → List ℕ → List Chosen → List ℕ → SubtermFault → Type 0
IsFirstSubtermFault rules pairs set args drop BadArgs = AreForMarked pairs set args → ⊥
IsFirstSubtermFault rules pairs set args drop (NoProjection f) = AreForMarked pairs set args × IsFirstOf (HasNone rules) args f
IsFirstSubtermFault rules pairs set args drop (BadArgument f) =
    AreForMarked pairs set args × NoneIs (HasNone rules) args × IsFirstOf (λ c. IsPlace rules c → ⊥) args f
IsFirstSubtermFault rules pairs set args drop BadDrop =
    AreForMarked pairs set args × All (IsPlace rules) args × IsBadDrop set drop
IsFirstSubtermFault rules pairs set args drop (NotDecreasing n) =
    AreForMarked pairs set args × All (IsPlace rules) args × (IsBadDrop set drop → ⊥)
    × Contains set n × IsNotDecreasing pairs args drop n
    × ((m : ℕ) → m < n → Contains set m → IsNotDecreasing pairs args drop m → ⊥)
