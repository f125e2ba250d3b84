-- How often a number is listed in blocks, as the test of a partition counts it.
use Rattle.std.specs.Prelude.{ℕ, ◌<◌, ◌≡◌, ◌⊎◌, List, Some, Contains, slice_get}
use Rattle.wh_graph.specs.Components.{StandsAt}
use Rattle.wh_graph.specs.Blocks.{IsListed, IsRepeated}
use Rattle.wh_graph.specs.declared.places.Times.{Times}
use Rattle.wh_graph.specs.declared.places.Times.TheVariants.{Never, Once, Often}

-- the two together
abbrev pub plus : Times → Times → Times
plus Never b = b
plus a Never = a
plus a b = Often

-- `TimesIn list n i t`: how often the number n stands before place i of the list
abbrev pub TimesIn : List ℕ → ℕ → ℕ → Times → Type 0
TimesIn list n i Never = (k : ℕ) → k < i → slice_get list k ≡ Some n → ⊥
TimesIn list n i Once = (k : ℕ) × (k < i) × (slice_get list k ≡ Some n) × ((j : ℕ) → j < i → slice_get list j ≡ Some n → j ≡ k)
TimesIn list n i Often = (j k : ℕ) × (j < k) × (slice_get list j ≡ Some n) × (slice_get list k ≡ Some n)

-- `TimesListed blocks n i t`: how often the number n stands in the blocks before block i
abbrev pub TimesListed : List (List ℕ) → ℕ → ℕ → Times → Type 0
TimesListed blocks n i Never = (j k : ℕ) → j < i → StandsAt blocks j k n → ⊥
TimesListed blocks n i Once = (j k : ℕ) × (j < i) × StandsAt blocks j k n × ((l m : ℕ) → l < i → StandsAt blocks l m n → (l ≡ j) × (m ≡ k))
TimesListed blocks n i Often = IsRepeated blocks n

-- `AreCounted set blocks i times`: at the place of each number of the set, how often it stands in the blocks before
-- block i
abbrev pub AreCounted : List ℕ → List (List ℕ) → ℕ → List Times → Type 0
AreCounted set blocks i times =
    (p n : ℕ) → slice_get set p ≡ Some n → (t : Times) × (slice_get times p ≡ Some t) × TimesListed blocks n i t

-- `AreAdded set list i old new`: at the place of each number of the set, how often it stands in the list before place i
-- is added
abbrev pub AreAdded : List ℕ → List ℕ → ℕ → List Times → List Times → Type 0
AreAdded set list i old new =
    (p n : ℕ) (a : Times) → slice_get set p ≡ Some n → slice_get old p ≡ Some a
    → (b : Times) × TimesIn list n i b × (slice_get new p ≡ Some (plus a b))

-- the number is in the list and not in the set
abbrev pub IsStrayIn : List ℕ → List ℕ → ℕ → Type 0
IsStrayIn set list n = Contains list n × (Contains set n → ⊥)

-- the number is listed and not in the set
abbrev pub IsStray : List ℕ → List (List ℕ) → ℕ → Type 0
IsStray set blocks n = IsListed blocks n × (Contains set n → ⊥)

-- the number is in the set and not listed, or listed more than once
abbrev pub IsUneven : List ℕ → List (List ℕ) → ℕ → Type 0
IsUneven set blocks n = Contains set n × (IsRepeated blocks n ⊎ (IsListed blocks n → ⊥))
