-- Lists of natural numbers, compared lexicographically.
use Rattle.std.specs.Prelude.{ℕ, ◌<◌, ◌≤◌, ◌≡◌, ◌⊎◌, List, ◌∷◌, length}

-- `IsLess l m`: the two lists differ, and at the first place where they do l has the smaller number; where one list
-- ends and the other goes on, neither is less
abbrev pub IsLess : List ℕ → List ℕ → Type 0
IsLess (n ∷ l) (k ∷ m) = (n < k) ⊎ ((n ≡ k) × IsLess l m)
IsLess _ _ = ⊥

-- l is m, or less than m
abbrev pub IsNotMore : List ℕ → List ℕ → Type 0
IsNotMore l m = (l ≡ m) ⊎ IsLess l m

-- `LeadsDown n l m`: the list m is less than l, and has at most n numbers
abbrev pub LeadsDown : ℕ → List ℕ → List ℕ → Type 0
LeadsDown n l m = (length m ≤ n) × IsLess m l
