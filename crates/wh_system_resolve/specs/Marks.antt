-- The meta-variables of a left side as flags by their numbers, and the occurrences on the right that are not among them
-- (ours).
use Rattle.std.specs.Prelude.{ℕ, ◌<◌, ◌≡◌, ◌==◌, ◌||◌, not, Bool, false, List, [], Some, Result, length, slice_index_or}
use Rattle.wh_terms.specs.Tree.{Tm, meta, lam, app, Tms, none as no_tms, more as more_tms}
use Rattle.wh_text.specs.RawTree.{Binder, RTm, RTms}
use Rattle.wh_system_parts.specs.declared.fault.SystemFault.{SystemFault}
use Rattle.wh_system_parts.specs.Faults.{IsFirstFault}
use Rattle.wh_system_parts.specs.Naming.{Scope, number_of, meant, all_meant}
use Rattle.wh_system_parts.specs.RuleTests.{occurs, new_meta_tests, new_metas_tests}

-- the meta-variable with the number occurs in the tree
abbrev mutual
  pub occurs_in : ℕ → Tm → Bool
  occurs_in z (meta y ts) = y == z || occurs_in_any z ts
  occurs_in z (lam a t) = occurs_in z t
  occurs_in z (app t u) = occurs_in z t || occurs_in z u
  occurs_in z _ = false

  pub occurs_in_any : ℕ → Tms → Bool
  occurs_in_any z no_tms = false
  occurs_in_any z (more_tms t ts) = occurs_in z t || occurs_in_any z ts

-- the flags of meta-variables that occur are set in `new`, and the others are as in `old`
abbrev pub Marks : List Bool → List Bool → (ℕ → Bool) → Type 0
Marks old new occurs = (z : ℕ) → z < length old → slice_index_or new z false ≡ (slice_index_or old z false || occurs z)

-- a meta-variable whose flag is not set
abbrev pub is_unmarked : List Bool → Tm → Bool
is_unmarked flags (meta z ts) = not (slice_index_or flags z false)
is_unmarked flags _ = false

-- the flag of each meta-variable says whether it occurs in the raw left side
abbrev pub AreMarked : Scope → RTm → List Bool → Type 0
AreMarked s left flags = (n : List ℕ) (z : ℕ) → number_of s.metas n ≡ Some z → slice_index_or flags z false ≡ occurs s [] n left

-- the answer for the meta-variables of a raw term that stands for the tree
abbrev pub TellsNew : List Bool → Tm → RTm → Result (Unit {0}) SystemFault → Type 0
TellsNew flags t r result =
    (s : Scope) (left : RTm) (bs : List Binder) → AreMarked s left flags → meant s bs r ≡ Some t
    → IsFirstFault (new_meta_tests s left bs r) result

-- what an answer about raw terms, one after another, tells of their meta-variables
abbrev pub TellsNewEach : List Bool → Tms → RTms → Result (Unit {0}) SystemFault → Type 0
TellsNewEach flags us ts result =
    (s : Scope) (left : RTm) (bs : List Binder) → AreMarked s left flags → all_meant s bs ts ≡ Some us
    → IsFirstFault (new_metas_tests s left bs ts) result
