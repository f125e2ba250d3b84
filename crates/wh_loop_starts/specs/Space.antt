-- The paths that the search for loops goes, and the loops among them.
use Rattle.std.specs.Prelude.{ℕ, suc, ◌≤◌, List, All, AllPairs}
use Rattle.wh_types.specs.Limits.{greatest_searched}
use Rattle.wh_terms.specs.Tree.{Tm}
use Rattle.wh_terms.specs.Typing.{Symbols}
use Rattle.wh_terms.specs.Measures.{Fits, size}
use Rattle.wh_terms.specs.Rules.{RewriteRule}
use Rattle.wh_step.specs.Step.{Step}
use Rattle.wh_system.specs.Systems.{SystemData}
use Rattle.wh_no.specs.Claim.{Put}
use Rattle.wh_no.specs.Valid.{IsPutOver, IsBelow, HoldsInstance}
use Rattle.wh_loop_starts.specs.Starts.{IsStart}

-- a term on a path fits, and its size is at most 2,048 (ours)
pub record InSpace (t : Tm) : Type 0 where
  pub fits : Fits t
  pub small : size t ≤ greatest_searched

-- `Path rules n k t`: k steps through such terms lead from the start of the rule number n to the term t
pub data Path (rules : List RewriteRule) (n : ℕ) : ℕ → Tm → Type 0 where
  at_start : {t : Tm} → IsStart rules n t → InSpace t → Path rules n 0 t
  further : {k : ℕ} {t u : Tm} → Path rules n k t → Step rules t u → InSpace u → Path rules n (suc k) u

-- the term is reached from the start of the rule number n, in at most `depth` steps (ours)
abbrev pub Reached : List RewriteRule → ℕ → ℕ → Tm → Type 0
Reached rules depth n t = (k : ℕ) × (k ≤ depth) × Path rules n k t

-- the tree u holds an instance of the term t: at some place stands t with typed terms put for some of its variables,
-- where the passed binders are opened by variables whose numbers are above those of t (ours)
abbrev pub HoldsInstanceOf : Symbols → Tm → Tm → Type 0
HoldsInstanceOf S t u = (at : List ℕ) × (puts : List Put) × All (IsPutOver S) puts × AllPairs IsBelow puts × HoldsInstance t puts at u

-- at least one and at most `depth` steps lead from the start s of the rule number n to a term that holds an instance of
-- s (loops: Kop 2012; the space is ours)
abbrev pub IsLoop : SystemData → ℕ → ℕ → Tm → Tm → Type 0
IsLoop d depth n s u = IsStart d.rules n s × ((k : ℕ) × (suc k ≤ depth) × Path d.rules n (suc k) u) × HoldsInstanceOf d.symbols s u

-- there is no such loop
abbrev pub HasNoLoop : SystemData → ℕ → Type 0
HasNoLoop d depth = (n : ℕ) (s u : Tm) → IsLoop d depth n s u → ⊥
