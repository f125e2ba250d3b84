-- What the code keeps and finds out on its way (working forms, cited by private clauses alone).
use Rattle.std.specs.Prelude.{◌≡◌, ℕ, ◌<◌, ◌≤◌, Bool, true, false, List, ◌++◌, length, get_or, map, Option, Some, None, nat_eq}
use Rattle.wh_sat_trail.specs.declared.literal.Literal.{Literal}
use Rattle.wh_sat_trail.specs.declared.entry.Entry.{Entry}
use Rattle.wh_sat_trail.specs.Assignment.{AllBelow, negated}
use Rattle.wh_sat_trail.specs.Member.{member}
use Rattle.wh_refute.specs.Refuting.{IsFalse, IsLeft}
use Rattle.wh_refute.specs.RefuteFaults.{HasForeign, IsStuck, Strays}
use Rattle.wh_refute.specs.declared.fault.RefuteFault.{RefuteFault}
use Rattle.wh_refute.specs.declared.fault.RefuteFault.TheVariants.{BadLiteral, BadHint, Open}
use Rattle.wh_refute.specs.declared.fault.EntryFault.{EntryFault}
use Rattle.wh_refute.specs.declared.fault.EntryFault.TheVariants as fault
use Rattle.wh_refute.specs.declared.truth.Truth.{Truth}
use Rattle.wh_refute.specs.declared.look.Look.{Look}
use Rattle.wh_refute.specs.declared.look.Look.TheVariants.{False, Leaves, Stuck}

-- the marks tell which literals of one sign are true: those with the present number
abbrev pub Marks : List ℕ → ℕ → Bool → List Literal → Type 0
Marks marks now sign t = (v : ℕ) → v < length marks
    → (get_or marks v 0 ≤ now) × (nat_eq (get_or marks v 0) now ≡ member (record { variable = v; positive = sign }) t)

-- what is true of the first n variables is that list
pub record Tells (n : ℕ) (truth : Truth) (t : List Literal) : Type 0 where
  pub wide : length truth.told.items ≡ n
  pub as_wide : length truth.denied.items ≡ n
  pub told : Marks truth.told.items truth.round true t
  pub denied : Marks truth.denied.items truth.round false t

-- what a clause gives
abbrev pub IsLook : List Literal → List Literal → Look → Type 0
IsLook t c False = IsFalse t c
IsLook t c (Leaves l) = IsLeft t c l × (member l t ≡ false)
IsLook t c Stuck = IsStuck t c

-- of a part of a clause: all is false, or just one literal is not
abbrev pub Scanned : List Literal → List Literal → Option Literal → Type 0
Scanned t c None = IsFalse t c
Scanned t c (Some l) = IsLeft t c l

-- the clauses of a list, and behind them those of the entries
abbrev pub with_entries : List (List Literal) → List Entry → List (List Literal)
with_entries given entries = given ++ map (λ (e : Entry). e.clause) entries

-- what is wrong with one entry
abbrev pub IsEntryFault : ℕ → List (List Literal) → Entry → EntryFault → Type 0
IsEntryFault n clauses e fault.Literal = HasForeign n e.clause
IsEntryFault n clauses e (fault.Hint h) = AllBelow n e.clause × Strays clauses 0 (map negated e.clause) e.hints (Some h)
IsEntryFault n clauses e fault.Open = AllBelow n e.clause × Strays clauses 0 (map negated e.clause) e.hints None

-- what is wrong with hints behind these true literals
abbrev pub IsHintFault : List (List Literal) → List Literal → List ℕ → EntryFault → Type 0
IsHintFault clauses t hints fault.Literal = ⊥
IsHintFault clauses t hints (fault.Hint h) = Strays clauses 0 t hints (Some h)
IsHintFault clauses t hints fault.Open = Strays clauses 0 t hints None

-- the fault of a list whose entry number k has that fault
abbrev pub fault_of : ℕ → EntryFault → RefuteFault
fault_of k fault.Literal = BadLiteral k
fault_of k (fault.Hint h) = BadHint k h
fault_of k fault.Open = Open k
