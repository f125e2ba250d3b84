-- Computability by recursion on three numbers: the greatest rank in the type, the size of the type, and a bound on the
-- longest sequence of steps and direct subterms from the term.
use Rattle.std.specs.Prelude.{ℕ, zero, suc, ◌≡◌, ◌≤◌, ltb, List, [], length, Some, slice_get}
use Rattle.wh_types.specs.Ty.{Ty, sort, ◌⇒◌}
use Rattle.wh_terms.specs.Tree.{Tm, fun, app, spine}
use Rattle.wh_terms.specs.Typing.{Symbols, Typed}
use Rattle.wh_terms.specs.Rules.{RewriteRule}
use Rattle.wh_step.specs.Step.{Step}
use Rattle.wh_step.specs.Reduction.{Walk, last_of, Reduction, Bounded}
use Rattle.wh_step_laws.specs.DirectSubterms.{StepOrPart}
use Rattle.wh_step_laws.specs.Ranks.{above_ranks, PlaceHas, IsAccessibleIn}
use Rattle.wh_step_laws.specs.Computable.{by_test}

-- no sequence of steps and direct subterms from t is longer than n
abbrev pub NoLonger : List RewriteRule → ℕ → Tm → Type 0
NoLonger rules n t = (l : List Tm) → Walk (StepOrPart (Step rules)) t l → length l ≤ n

-- t reduces to u, by zero or more steps
abbrev pub ReducesTo : List RewriteRule → Tm → Tm → Type 0
ReducesTo rules t u = (l : List Tm) × Reduction rules t l × (last_of t l ≡ u)

-- what is asked of an argument at an accessible place: of one of a sort `Before`, of one of a functional type `Low`
abbrev pub AsksArgument : (Ty → Tm → Type 0) → (ℕ → Tm → Type 0) → Ty → Tm → Type 0
AsksArgument Low Before (sort s) u = Before s u
AsksArgument Low Before (a ⇒ b) u = Low (a ⇒ b) u

-- The term of sort s is well typed and bounded, no sequence of steps and direct subterms from it is longer than n, and
-- wherever it reduces to a symbol with all its arguments, those at accessible places are as asked: those of a
-- functional type are in `Low`, the computability of types with smaller ranks, and those of a sort in `Before`, what is
-- computable within n - 1 (Blanqui, Jouannaud and Okada 2002; Fuhs and Kop 2019; the form is ours)
pub record IsWithin (S : Symbols) (rank : ℕ → ℕ) (rules : List RewriteRule) (Low : Ty → Tm → Type 0) (Before : ℕ → Tm → Type 0)
    (n s : ℕ) (t : Tm) : Type 0 where
  pub typed : Typed S [] [] t (sort s)
  pub bounded : Bounded rules t
  pub no_longer : NoLonger rules n t
  pub accessible : (f i : ℕ) (a : Ty) (ts : List Tm) (u : Tm) → ReducesTo rules t (spine (fun f) ts) → PlaceHas S f i a
      → IsAccessibleIn rank s a → slice_get ts i ≡ Some u → AsksArgument Low Before a u

-- computable within n at a sort of rank k, by recursion on n: `Low` is the computability of types whose ranks are below
-- k, and `LowWithin` computability within a number at sorts of such ranks
abbrev pub WithinAt : Symbols → (ℕ → ℕ) → List RewriteRule → (Ty → Tm → Type 0) → (ℕ → ℕ → Tm → Type 0) → ℕ → ℕ → ℕ → Tm → Type 0
WithinAt S rank rules Low LowWithin k zero s t = IsWithin S rank rules Low (λ r u. ⊥) zero s t
WithinAt S rank rules Low LowWithin k (suc n) s t =
    IsWithin S rank rules Low (λ r u. by_test (ltb (rank r) k) (LowWithin n r u) (WithinAt S rank rules Low LowWithin k n r u)) (suc n) s t

-- computable, for types whose ranks are at most k, by recursion on the type: a term of a sort is computable if it is
-- within some number, and at an arrow it takes computable terms to computable terms (Tait 1967)
abbrev pub NumberedUpTo : Symbols → (ℕ → ℕ) → List RewriteRule → (Ty → Tm → Type 0) → (ℕ → ℕ → Tm → Type 0) → ℕ → Ty → Tm → Type 0
NumberedUpTo S rank rules Low LowWithin k (sort s) t =
    (n : ℕ) × by_test (ltb (rank s) k) (LowWithin n s t) (WithinAt S rank rules Low LowWithin k n s t)
NumberedUpTo S rank rules Low LowWithin k (a ⇒ b) t = Typed S [] [] t (a ⇒ b)
    × ((u : Tm) → NumberedUpTo S rank rules Low LowWithin k a u → NumberedUpTo S rank rules Low LowWithin k b (app t u))

abbrev mutual
  -- computable within n, at sorts whose ranks are below k
  pub WithinBelow : Symbols → (ℕ → ℕ) → List RewriteRule → ℕ → ℕ → ℕ → Tm → Type 0
  WithinBelow S rank rules zero n s t = ⊥
  WithinBelow S rank rules (suc k) n s t = by_test (ltb (rank s) k) (WithinBelow S rank rules k n s t)
      (WithinAt S rank rules (NumberedBelow S rank rules k) (WithinBelow S rank rules k) k n s t)

  -- computable, for types whose ranks are below k
  pub NumberedBelow : Symbols → (ℕ → ℕ) → List RewriteRule → ℕ → Ty → Tm → Type 0
  NumberedBelow S rank rules zero a t = ⊥
  NumberedBelow S rank rules (suc k) a t = NumberedUpTo S rank rules (NumberedBelow S rank rules k) (WithinBelow S rank rules k) k a t

-- t is computable within n as a term of sort s
abbrev pub IsComputableWithin : Symbols → (ℕ → ℕ) → List RewriteRule → ℕ → ℕ → Tm → Type 0
IsComputableWithin S rank rules n s t = WithinBelow S rank rules (suc (rank s)) n s t

-- t is computable by the three numbers as a term of type a
abbrev pub IsNumbered : Symbols → (ℕ → ℕ) → List RewriteRule → Ty → Tm → Type 0
IsNumbered S rank rules a t = NumberedBelow S rank rules (above_ranks rank a) a t

-- what is asked of an argument of sort r in a term that is computable within n: that it is so within n - 1
abbrev pub IsWithinLess : Symbols → (ℕ → ℕ) → List RewriteRule → ℕ → ℕ → Tm → Type 0
IsWithinLess S rank rules zero r u = ⊥
IsWithinLess S rank rules (suc n) r u = IsComputableWithin S rank rules n r u
