-- The claim of a NO certificate once its names are looked up: a term, steps, a position, and terms for variables.
use Rattle.std.specs.Prelude.{ℕ, ◌==◌, ◌&&◌, List, [], ◌∷◌, if◌then◌else◌}
use Rattle.wh_types.specs.Ty.{Ty, same_ty}
use Rattle.wh_terms.specs.Tree.{Tm, free}
use Rattle.wh_terms.specs.declared.path.Step as taken

-- a term that is put for the free variable of that number and that type (ours)
pub record Put : Type 0 where
  pub number : ℕ
  pub kind : Ty
  pub value : Tm

-- the claim that a term has reductions of every length, since it comes back: the term, steps from it, a place in the
-- last term, and what to put for free variables of the term to get what stands at that place (ours)
pub record Claim : Type 0 where
  pub term : Tm
  pub steps : List taken.Step
  pub at : List ℕ
  pub puts : List Put

-- the term that is put for a free variable: the value for its number and its type, or the variable itself where there
-- is none (ours)
abbrev pub put_for : List Put → ℕ → Ty → Tm
put_for [] x a = free x a
put_for (p ∷ puts) x a = if (p.number == x) && same_ty p.kind a then p.value else put_for puts x a
