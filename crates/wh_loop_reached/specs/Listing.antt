-- The list of the terms that a search for loops reached, and what is known of its entries.
use Rattle.std.specs.Prelude.{ℕ, ◌≡◌, ◌≢◌, ◌≤◌, ◌<◌, List, ◌++◌, ◌+◌, length, map, All, AllPairs, Contains, Option, Some, None, slice_get}
use Rattle.wh_terms.specs.Tree.{Tm}
use Rattle.wh_terms.specs.Erase.{tm}
use Rattle.wh_terms.specs.Measures.{Fits}
use Rattle.wh_terms.specs.Typing.{WellTyped}
use Rattle.wh_terms.specs.Rules.{RewriteRule}
use Rattle.wh_terms.specs.declared.path.Step as taken
use Rattle.wh_step.specs.Replay.{StepAt, Replays}
use Rattle.wh_system.specs.Systems.{SystemData}
use Rattle.wh_loop_starts.specs.Starts.{IsStart}
use Rattle.wh_loop_starts.specs.Space.{Reached}
use Rattle.wh_loop_reached.specs.Arrivals.{Arrival, arrival, HoldsNoInstance}
use Rattle.wh_loop_steps.specs.Tables.{HasNumber}
use Rattle.wh_loop_reached.specs.Marks.{key_of}
use Rattle.wh_loop_reached.specs.declared.listing.Entry.{Entry}
use Rattle.wh_loop_reached.specs.declared.listing.Origin.{Origin}
use Rattle.wh_loop_reached.specs.declared.listing.Listing.{Listing}

-- the term of the entry
abbrev pub tree : Entry → Tm
tree e = tm e.visit.term

-- what the entry lists
abbrev pub arrival_of : Entry → Arrival
arrival_of e = arrival e.visit

abbrev pub arrivals : List Entry → List Arrival
arrivals entries = map arrival_of entries

-- the term is listed as one that was reached from the start of the rule with the number
abbrev pub IsListed : List Entry → ℕ → Tm → Type 0
IsListed entries n t = Contains (arrivals entries) (record { start = n; term = t })

-- the entry with the number lists this
abbrev pub ListsAt : List Entry → ℕ → Arrival → Type 0
ListsAt entries i a = (e : Entry) × (slice_get entries i ≡ Some e) × (arrival_of e ≡ a)

-- the entry is known to be reached in at most `level` steps, and to end no loop (ours)
pub record IsEntry (d : SystemData) (level : ℕ) (e : Entry) : Type 0 where
  pub low : e.level ≤ level
  pub reached : Reached d.rules e.level e.visit.start (tree e)
  pub typed : WellTyped d.symbols (tree e)
  pub no_instance : HoldsNoInstance d (arrival_of e)

-- the step leads from one entry to the other, which has the same start and a higher level
pub record StepsFrom (rules : List RewriteRule) (p : Entry) (s : taken.Step) (e : Entry) : Type 0 where
  pub same_start : p.visit.start ≡ e.visit.start
  pub higher : p.level < e.level
  pub step : StepAt rules s.rule s.path (tree p) (tree e)
  pub fits : Fits (tree e)

-- the entry is the start itself, or its step leads to it from the entry that it names (ours)
abbrev pub LinkedBy : List RewriteRule → List Entry → Entry → Option Origin → Type 0
LinkedBy rules entries e None = IsStart rules e.visit.start (tree e)
LinkedBy rules entries e (Some o) = (p : Entry) × (slice_get entries o.parent ≡ Some p) × StepsFrom rules p o.step e

abbrev pub IsLinked : List RewriteRule → List Entry → Entry → Type 0
IsLinked rules entries e = LinkedBy rules entries e e.origin

abbrev pub AreAllLinked : List RewriteRule → List Entry → Type 0
AreAllLinked rules entries = All (IsLinked rules entries) entries

-- the number of each entry stands in the row of its term
abbrev pub AreMarked : List (List ℕ) → List Entry → Type 0
AreMarked rows entries = (i : ℕ) (e : Entry) → slice_get entries i ≡ Some e → HasNumber rows (key_of (tree e)) i

-- what is known of the list: of each entry, how it was reached, that no two are the same, and where their numbers stand
-- (ours)
pub record IsListing (d : SystemData) (level : ℕ) (l : Listing) : Type 0 where
  pub each : All (IsEntry d level) l.entries.items
  pub linked : AreAllLinked d.rules l.entries.items
  pub distinct : AllPairs (λ a b. a ≢ b) (arrivals l.entries.items)
  pub marked : AreMarked l.marks l.entries.items
  pub keys : length l.marks ≡ 16384

-- the second list goes on where the first one ends
abbrev pub Extends : List Entry → List Entry → Type 0
Extends old new = (rest : List Entry) × (new ≡ old ++ rest)

-- the second list has what this is, and at most one entry more than the first one
pub record Takes (d : SystemData) (level : ℕ) (old : Listing) (a : Arrival) (new : Listing) : Type 0 where
  pub listing : IsListing d level new
  pub extends : Extends old.entries.items new.entries.items
  pub listed : Contains (arrivals new.entries.items) a
  pub one_more : length new.entries.items ≤ length old.entries.items + 1

-- the steps lead to the entry from its start
pub record LeadTo (rules : List RewriteRule) (e : Entry) (steps : List taken.Step) : Type 0 where
  pub start : Tm
  pub is_start : IsStart rules e.visit.start start
  pub replays : Replays rules steps start (tree e)
  pub few : length steps ≤ e.level
