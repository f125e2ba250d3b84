-- What is known of the list of the terms that were reached while the search goes on.
use Rattle.std.specs.Prelude.{ℕ, Bool, true, false, ◌≡◌, ◌≤◌, ◌<◌, List, ◌+◌, length, Option, Some, None, slice_get}
use Rattle.wh_terms.specs.Tree.{Tm}
use Rattle.wh_terms.specs.Erase.{tm}
use Rattle.wh_terms.specs.Measures.{Fits}
use Rattle.wh_terms.specs.Typing.{WellTyped}
use Rattle.wh_terms.specs.declared.path.Step as taken
use Rattle.wh_terms.specs.declared.term.Term.{Term}
use Rattle.wh_step.specs.Step.{Step}
use Rattle.wh_step.specs.Replay.{StepAt}
use Rattle.wh_system.specs.Systems.{SystemData}
use Rattle.std.specs.Global.{Box}
use Rattle.wh_cert.specs.declared.certificate.NoCertificate.{NoCertificate}
use Rattle.wh_cert.specs.Said.{said_no}
use Rattle.wh_loop_starts.specs.declared.instance.Instance.{Instance}
use Rattle.wh_loop_starts.specs.Starts.{IsStart}
use Rattle.wh_loop_starts.specs.Space.{InSpace, Path, HoldsInstanceOf, HasNoLoop}
use Rattle.wh_loop_starts.specs.Found.{IsInstanceIn, IsLoopCertificate}
use Rattle.wh_loop_steps.specs.StepLists.{IsRuleTable}
use Rattle.wh_loop_reached.specs.declared.listing.Entry.{Entry}
use Rattle.wh_loop_reached.specs.declared.listing.Listing.{Listing}
use Rattle.wh_find_loop.specs.declared.starts.Plan.{Plan}
use Rattle.wh_find_loop.specs.declared.search.Progress.{Progress}
use Rattle.wh_find_loop.specs.declared.search.Progress.TheVariants.{More, Full, Found}
use Rattle.wh_loop_reached.specs.Listing.{tree, IsListed, IsListing, Extends}

-- the term holds no instance of the start of the rule with the number
abbrev pub HasNoInstance : SystemData → ℕ → Tm → Type 0
HasNoInstance d n u = (s : Tm) → IsStart d.rules n s → HoldsInstanceOf d.symbols s u → ⊥

-- what the step leads to from the term, in the space, is listed, and ends no loop
abbrev pub IsTried : SystemData → List Entry → ℕ → Tm → taken.Step → Type 0
IsTried d entries n t s = (u : Tm) → StepAt d.rules s.rule s.path t u → InSpace u → IsListed entries n u × HasNoInstance d n u

-- all that a step leads to from the entry, in the space, is listed, and ends no loop
abbrev pub IsDone : SystemData → List Entry → Entry → Type 0
IsDone d entries e = (u : Tm) → Step d.rules (tree e) u → InSpace u → IsListed entries e.visit.start u × HasNoInstance d e.visit.start u

-- all that a step leads to from the first m entries, in the space, is listed, and ends no loop
abbrev pub AreDone : SystemData → List Entry → ℕ → Type 0
AreDone d entries m = (i : ℕ) (e : Entry) → i < m → slice_get entries i ≡ Some e → IsDone d entries e

-- all that is reached in at most `level` steps is listed
abbrev pub IsComplete : SystemData → ℕ → List Entry → Type 0
IsComplete d level entries = (n k : ℕ) (t : Tm) → k ≤ level → Path d.rules n k t → IsListed entries n t

-- each of the terms is the start of the rule with its number, and there is one for each rule
pub record AreStarts (d : SystemData) (starts : List Term) : Type 0 where
  pub count : length starts ≡ length d.rules
  pub each : (n : ℕ) (t : Term) → slice_get starts n ≡ Some t → IsStart d.rules n (tm t) × WellTyped d.symbols (tm t)

-- the starts of all rules, and the numbers of the rules of each symbol
pub record IsPlan (d : SystemData) (p : Plan) : Type 0 where
  pub starts : AreStarts d p.starts.items
  pub table : IsRuleTable d.rules p.table

-- the entries with these numbers have levels below this one
abbrev pub AreBelow : ℕ → ℕ → List Entry → Type 0
AreBelow level m entries = (i : ℕ) (e : Entry) → i < m → slice_get entries i ≡ Some e → e.level < level

-- how far the search came from one list to the next, where its levels are at most the given one: what P says, or as
-- many entries as may be, or the certificate of a loop
abbrev pub Comes : SystemData → ℕ → ℕ → Type 0 → Listing → Progress → Type 0
Comes d level visited P l More = P
Comes d level visited P l Full = IsListing d level l × (length l.entries.items ≡ visited)
Comes d level visited P l (Found c) = IsLoopCertificate d level (said_no c.value)

-- the list goes on, the steps of the first entries are tried, and it is not full
pub record GoesOn (d : SystemData) (level visited m : ℕ) (old : List Entry) (l : Listing) : Type 0 where
  pub listing : IsListing d level l
  pub extends : Extends old l.entries.items
  pub done : AreDone d l.entries.items m
  pub fewer : length l.entries.items < visited

-- where the step leads from the entry there stands an instance of the start
abbrev pub EndsAt : SystemData → Entry → taken.Step → Tm → Instance → Type 0
EndsAt d e s start i = (last : Tm) × StepAt d.rules s.rule s.path (tree e) last × Fits last × IsInstanceIn d.symbols start last i

-- the list goes on by at most one entry, and the step from the entry with the number is tried
pub record TriesOn (d : SystemData) (level at : ℕ) (s : taken.Step) (old new : Listing) : Type 0 where
  pub listing : IsListing d level new
  pub extends : Extends old.entries.items new.entries.items
  pub one_more : length new.entries.items ≤ length old.entries.items + 1
  pub tried : (e : Entry) → slice_get old.entries.items at ≡ Some e → IsTried d new.entries.items e.visit.start (tree e) s

-- the list goes on and the step is tried, or the certificate of a loop is found
abbrev pub Tries : SystemData → ℕ → ℕ → taken.Step → Listing → Option (Box NoCertificate) → Listing → Type 0
Tries d level at s old None new = TriesOn d level at s old new
Tries d level at s old (Some c) new = IsLoopCertificate d level (said_no c.value)

-- the list goes on by at most one entry, and lists the start, if that is in the space
pub record TakesStart (d : SystemData) (n : ℕ) (t : Tm) (old : List Entry) (new : Listing) : Type 0 where
  pub listing : IsListing d 0 new
  pub extends : Extends old new.entries.items
  pub one_more : length new.entries.items ≤ length old + 1
  pub listed : InSpace t → IsListed new.entries.items n t

-- all starts in the space are listed, and the list is not full; or it is
abbrev pub ListsStarts : SystemData → ℕ → Bool → Listing → Type 0
ListsStarts d visited false l = IsListing d 0 l × IsComplete d 0 l.entries.items × (length l.entries.items < visited)
ListsStarts d visited true l = IsListing d 0 l × (length l.entries.items ≡ visited)

-- all levels are tried: what is reached is listed, the list is not full, and there is no loop
pub record GoesThrough (d : SystemData) (depth visited : ℕ) (l : Listing) : Type 0 where
  pub listing : IsListing d depth l
  pub complete : IsComplete d depth l.entries.items
  pub no_loop : HasNoLoop d depth
  pub fewer : length l.entries.items < visited
