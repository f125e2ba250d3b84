-- The answer of the search for ranks: ranks that meet all demands, or why there are none.
use Rattle.std.specs.Prelude.{ℕ, ◌≡◌, ◌<◌, ◌≤◌, ◌↔◌, List, length, All}
use Rattle.wh_types.specs.Limits.{most_sorts}
use Rattle.wh_terms.specs.Rules.{RewriteRule}
use Rattle.wh_system.specs.Systems.{SystemData}
use Rattle.wh_step_laws.specs.Ranks.{rank_of}
use Rattle.wh_access.specs.Passing.{AllRead, IsFirstUnread}
use Rattle.wh_access.specs.Demands.{Demand, IsDemand, IsCycle, IsStrictCycle}
use Rattle.wh_access.specs.Tables.{InTables, LeadsIn, LeadsStrictlyIn, LeadsBelow, LeadsStrictlyBelow}
use Rattle.wh_access.specs.declared.find.NoRanks.{NoRanks}
use Rattle.wh_access.specs.declared.find.NoRanks.TheVariants.{Unread, Cycle}
use Rattle.wh_access.specs.declared.demands.Demands.{Demands}

-- why there are no ranks: the first meta-variable that is used and not read, by rule and then by number; or, where each
-- is read, a cycle of demands with a strict one, listed from sort to sort along the demands, so that it can be followed
-- by hand
abbrev pub IsCause : SystemData → NoRanks → Type 0
IsCause d (Unread i z) = IsFirstUnread d.rules i z
IsCause d (Cycle sorts) = AllRead d.rules × IsStrictCycle d.symbols d.rules sorts

-- the first of these causes
abbrev pub IsUnread : List RewriteRule → NoRanks → Type 0
IsUnread rules (Unread i z) = IsFirstUnread rules i z
IsUnread rules (Cycle sorts) = ⊥

-- the second, as the tables have it
abbrev pub IsCycleIn : Demands → ℕ → NoRanks → Type 0
IsCycleIn demands n (Unread i z) = ⊥
IsCycleIn demands n (Cycle sorts) = IsCycle (LeadsBelow demands n) (LeadsStrictlyBelow demands n) sorts

-- the tables have what the rules of the system demand, among the sorts below 256
abbrev pub HasDemands : SystemData → Demands → Type 0
HasDemands d demands = (e : Demand) → e.from < most_sorts → e.to < most_sorts → InTables demands e ↔ IsDemand d.symbols d.rules e

-- one rank for each of the sorts, none above 255, which meet the demands in the tables
pub record MeetTold (demands : Demands) (sorts : ℕ) (ranks : List ℕ) : Type 0 where
  pub count : length ranks ≡ sorts
  pub low : All (λ r. r ≤ 255) ranks
  pub weak : (s t : ℕ) → s < sorts → t < sorts → LeadsIn demands s t → rank_of ranks s ≤ rank_of ranks t
  pub strict : (s t : ℕ) → s < sorts → t < sorts → LeadsStrictlyIn demands s t → rank_of ranks s < rank_of ranks t
