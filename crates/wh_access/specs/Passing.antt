-- Systems whose right sides use nothing that the left sides do not make accessible.
use Rattle.std.specs.Prelude.{ℕ, ◌≡◌, ◌<◌, List, Some, slice_get, All, Contains}
use Rattle.wh_terms.specs.Tree.{Tm}
use Rattle.wh_terms.specs.Typing.{Symbols}
use Rattle.wh_terms.specs.Sight.{Occurs}
use Rattle.wh_terms.specs.Rules.{RewriteRule}
use Rattle.wh_step_laws.specs.Ranks.{rank_of, IsAccessible}
use Rattle.wh_system.specs.Systems.{SystemData}
use Rattle.wh_access.specs.Readings.{Place, reading_of}

-- all places on the way are accessible
abbrev pub AllAccessible : Symbols → (ℕ → ℕ) → List Place → Type 0
AllAccessible S rank = All (λ p. IsAccessible S rank p.symbol p.index)

-- the left side l is read for z
abbrev pub IsRead : Tm → ℕ → Type 0
IsRead l z = (way : List Place) × (reading_of l z ≡ Some way)

-- the left side l is read for z on a way of accessible places
abbrev pub Passes : Symbols → (ℕ → ℕ) → Tm → ℕ → Type 0
Passes S rank l z = (way : List Place) × (reading_of l z ≡ Some way) × AllAccessible S rank way

-- Q holds of the left side and each meta-variable that occurs in the right side
abbrev pub EachUsed : (Tm → ℕ → Type 0) → RewriteRule → Type 0
EachUsed Q r = (z : ℕ) → Occurs z r.right → Q r.left z

-- the rules are passing under the ranks: each meta-variable of a right side is read on a way of accessible places
-- (Fuhs and Kop 2019, accessible function passing; the ranks of sorts are ours)
abbrev pub Passing : Symbols → (ℕ → ℕ) → List RewriteRule → Type 0
Passing S rank rules = (r : RewriteRule) → Contains rules r → EachUsed (Passes S rank) r

-- the rule number i is the first with a meta-variable of its right side of which Q does not hold, and z is the least
-- of these in it
pub record IsFirstWithout (Q : Tm → ℕ → Type 0) (rules : List RewriteRule) (i z : ℕ) : Type 0 where
  pub here : (r : RewriteRule) × (slice_get rules i ≡ Some r) × Occurs z r.right × (Q r.left z → ⊥)
      × ((y : ℕ) → y < z → Occurs y r.right → Q r.left y)
  pub before : (j : ℕ) (r : RewriteRule) → j < i → slice_get rules j ≡ Some r → EachUsed Q r

-- the first rule, and in it the least meta-variable, that breaks passing
abbrev pub IsFirstBreak : Symbols → (ℕ → ℕ) → List RewriteRule → ℕ → ℕ → Type 0
IsFirstBreak S rank = IsFirstWithout (Passes S rank)

-- the first rule, and in it the least meta-variable, that is used and not read
abbrev pub IsFirstUnread : List RewriteRule → ℕ → ℕ → Type 0
IsFirstUnread = IsFirstWithout IsRead

-- the system is passing under a list of ranks, one for each sort
abbrev pub IsPassing : SystemData → List ℕ → Type 0
IsPassing d ranks = Passing d.symbols (rank_of ranks) d.rules

-- the rule and the meta-variable of a system that are its first break of passing
abbrev pub IsFirstBreakIn : SystemData → List ℕ → ℕ → ℕ → Type 0
IsFirstBreakIn d ranks = IsFirstBreak d.symbols (rank_of ranks) d.rules

-- each meta-variable of a right side is read in the left side
abbrev pub AllRead : List RewriteRule → Type 0
AllRead rules = (r : RewriteRule) → Contains rules r → EachUsed IsRead r
