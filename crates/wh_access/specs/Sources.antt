-- The sorts from which a relation leads to a goal, as a list in which each entry names the one that comes next.
use Rattle.std.specs.Prelude.{ℕ, ◌≡◌, ◌≢◌, ◌<◌, ◌↔◌, Bool, true, false, List, [], ◌∷◌, length, slice_index_or, AllPairs}
use Rattle.wh_access.specs.declared.sources.Source.{Source}

-- the sort of the entry at k
abbrev pub sort_at : List Source → ℕ → ℕ
sort_at xs k = (slice_index_or xs k (record { sort = 0; next = 0 })).sort

-- the index of the entry that comes next after the one at k
abbrev pub next_at : List Source → ℕ → ℕ
next_at xs k = (slice_index_or xs k (record { sort = 0; next = 0 })).next

-- the sort s has an entry
abbrev pub Lists : List Source → ℕ → Type 0
Lists xs s = (k : ℕ) × (k < length xs) × (sort_at xs k ≡ s)

-- a list begun at the goal, among the sorts below n, whose entries before number `at` have all sorts that P leads from
-- to them
pub record Begun (P : ℕ → ℕ → Type 0) (n goal : ℕ) (xs : List Source) (at : ℕ) : Type 0 where
  -- the first entry is the goal
  pub nonempty : 0 < length xs
  pub first : sort_at xs 0 ≡ goal
  -- each is one of the sorts, and none has two entries
  pub within : (k : ℕ) → k < length xs → sort_at xs k < n
  pub apart : (j k : ℕ) → j < k → k < length xs → sort_at xs j ≢ sort_at xs k
  -- P leads from each but the first to an earlier one
  pub earlier : (k : ℕ) → 0 < k → k < length xs → next_at xs k < k
  pub linked : (k : ℕ) → 0 < k → k < length xs → P (sort_at xs k) (sort_at xs (next_at xs k))
  -- each sort from which P leads to an entry before number `at` has an entry
  pub closed : (k s : ℕ) → k < at → k < length xs → s < n → P s (sort_at xs k) → Lists xs s

-- the list is whole
abbrev pub AreSources : (ℕ → ℕ → Type 0) → ℕ → ℕ → List Source → Type 0
AreSources P n goal xs = Begun P n goal xs (length xs)

-- the marks are at the sorts that have an entry
pub record Marks (n : ℕ) (xs : List Source) (seen : List Bool) : Type 0 where
  pub each : length seen ≡ n
  pub marked : (s : ℕ) → s < n → (slice_index_or seen s false ≡ true) ↔ Lists xs s

-- an entry other than the first has the sort s, and the entry that it names has t
abbrev pub LeadsBy : List Source → ℕ → ℕ → Type 0
LeadsBy xs s t = (k : ℕ) × (0 < k) × (k < length xs) × (sort_at xs k ≡ s) × (sort_at xs (next_at xs k) ≡ t)

-- P leads from s along the list to t
abbrev pub LeadsUpTo : (ℕ → ℕ → Type 0) → ℕ → List ℕ → ℕ → Type 0
LeadsUpTo P s [] t = s ≡ t
LeadsUpTo P s (u ∷ us) t = P s u × LeadsUpTo P u us t

-- a way from s to t: each sort once, and P leads from each to the next
abbrev pub IsWay : (ℕ → ℕ → Type 0) → ℕ → ℕ → List ℕ → Type 0
IsWay P s t way = (us : List ℕ) × (way ≡ s ∷ us) × LeadsUpTo P s us t × AllPairs (λ x y. x ≢ y) way
