-- A thing with the least number of all that have a property, as long as numbers fit in 32 bits.
use Rattle.std.specs.Prelude.{ℕ, ◌<◌, ◌≤◌, ◌^◌, Option, None, Some}

-- the answer Some a has the least number of all that P holds of, and its number is below 2^32; the answer None says
-- that all of them have numbers of 2^32 or more (ours)
abbrev pub IsLeast : {A : Type 0} → (A → ℕ) → (A → Type 0) → Option A → Type 0
IsLeast {A} number P None = (a : A) → P a → 2 ^ 32 ≤ number a
IsLeast {A} number P (Some a) = (number a < 2 ^ 32) × P a × ((b : A) → P b → number a ≤ number b)

-- the number of each thing is itself
abbrev pub own : ℕ → ℕ
own n = n

-- a fact that can't be refuted: what can be kept of a fact beside data
abbrev pub NotRefuted : Type 0 → Type 0
NotRefuted A = (A → ⊥) → ⊥
