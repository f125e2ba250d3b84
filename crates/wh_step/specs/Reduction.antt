-- Reductions and their length: `Bounded` terms have a bound on it, `Unbounded` terms have none.
use Rattle.std.specs.Prelude.{ℕ, ◌≡◌, ◌≤◌, List, [], ◌∷◌, length}
use Rattle.wh_terms.specs.Tree.{Tm}
use Rattle.wh_terms.specs.Rules.{RewriteRule}
use Rattle.wh_step.specs.Step.{Step}

-- `Walk R a l`: from a on, each member of l is reached from the one before by R
abbrev pub Walk : {A : Type 0} → (A → A → Type 0) → A → List A → Type 0
Walk R a [] = Unit {0}
Walk R a (b ∷ l) = R a b × Walk R b l

-- the last of a and l
abbrev pub last_of : {A : Type 0} → A → List A → A
last_of a [] = a
last_of a (b ∷ l) = last_of b l

-- a reduction: a first term and the terms after it, each a step from the one before. Its length, the number of its
-- steps, is the length of the list (Kop 2012)
abbrev pub Reduction : List RewriteRule → Tm → List Tm → Type 0
Reduction rules = Walk (Step rules)

-- there is a number that no reduction from t exceeds in length: t is bounded, and no reduction from it goes on for ever
abbrev pub Bounded : List RewriteRule → Tm → Type 0
Bounded rules t = (n : ℕ) × ((l : List Tm) → Reduction rules t l → length l ≤ n)

-- for every number n there is a reduction of n steps from t
abbrev pub Unbounded : List RewriteRule → Tm → Type 0
Unbounded rules t = (n : ℕ) → (l : List Tm) × Reduction rules t l × (length l ≡ n)
