-- Computability of terms by ranks of sorts and by types (Tait's method), from which termination follows.
use Rattle.std.specs.Prelude.{ℕ, zero, suc, ◌≡◌, Bool, true, false, ltb, List, [], ◌∷◌, Some, slice_get}
use Rattle.wh_types.specs.Ty.{Ty, sort, ◌⇒◌, SortsBelow}
use Rattle.wh_terms.specs.Tree.{Tm, fun, app, spine}
use Rattle.wh_terms.specs.Typing.{Symbols, Typed}
use Rattle.wh_step_laws.specs.Ranks.{RanksBelow, above_ranks, PlaceHas, IsAccessibleIn}

-- A term of sort s is computable if it is well typed, all its reducts are computable, and, where it is a symbol with
-- all its arguments, those at accessible places are computable: of a sort of equal rank by this very definition, of a
-- type with smaller ranks by `Low`, the computability of those types (Blanqui, Jouannaud and Okada 2002; Fuhs and Kop
-- 2019; that it is a family of proofs over a recursion on ranks is ours)
pub data ComputableAt (S : Symbols) (rank : ℕ → ℕ) (R : Tm → Tm → Type 0) (Low : Ty → Tm → Type 0) : ℕ → Tm → Type 0 where
  computable_at : {s : ℕ} {t : Tm}
      → Typed S [] [] t (sort s)
      → ((u : Tm) → R t u → ComputableAt S rank R Low s u)
      → ((f i r : ℕ) (ts : List Tm) (u : Tm) → t ≡ spine (fun f) ts → PlaceHas S f i (sort r) → rank r ≡ rank s → slice_get ts i ≡ Some u
      → ComputableAt S rank R Low r u)
      → ((f i : ℕ) (a : Ty) (ts : List Tm) (u : Tm) → t ≡ spine (fun f) ts → PlaceHas S f i a → RanksBelow rank (rank s) a
      → slice_get ts i ≡ Some u → Low a u)
      → ComputableAt S rank R Low s t

-- P where the test holds, Q where it fails
abbrev pub by_test : Bool → Type 0 → Type 0 → Type 0
by_test true P Q = P
by_test false P Q = Q

-- computability for types whose sorts have ranks up to k, if Low is that for ranks below k: at an arrow it takes
-- computable terms to computable terms (Tait 1967)
abbrev pub ComputableUpTo : Symbols → (ℕ → ℕ) → (Tm → Tm → Type 0) → (Ty → Tm → Type 0) → ℕ → Ty → Tm → Type 0
ComputableUpTo S rank R Low k (sort s) t = by_test (ltb (rank s) k) (Low (sort s) t) (ComputableAt S rank R Low s t)
ComputableUpTo S rank R Low k (a ⇒ b) t = Typed S [] [] t (a ⇒ b)
    × ((u : Tm) → ComputableUpTo S rank R Low k a u → ComputableUpTo S rank R Low k b (app t u))

-- computability for types whose sorts have ranks below k
abbrev pub ComputableBelow : Symbols → (ℕ → ℕ) → (Tm → Tm → Type 0) → ℕ → Ty → Tm → Type 0
ComputableBelow S rank R zero a t = ⊥
ComputableBelow S rank R (suc k) a t = ComputableUpTo S rank R (ComputableBelow S rank R k) k a t

-- t is computable as a term of type a, for the steps R and under the ranks
abbrev pub Computable : Symbols → (ℕ → ℕ) → (Tm → Tm → Type 0) → Ty → Tm → Type 0
Computable S rank R a = ComputableBelow S rank R (above_ranks rank a) a

-- computability at the sort s: the term is well typed, its reducts are computable, and so is each argument at an
-- accessible place, where the term is a symbol with arguments
pub record IsComputableAtSort (S : Symbols) (rank : ℕ → ℕ) (R : Tm → Tm → Type 0) (s : ℕ) (t : Tm) : Type 0 where
  pub typed : Typed S [] [] t (sort s)
  pub reducts : (u : Tm) → R t u → Computable S rank R (sort s) u
  pub accessible : (f i : ℕ) (a : Ty) (ts : List Tm) (u : Tm) → t ≡ spine (fun f) ts → PlaceHas S f i a → IsAccessibleIn rank s a
      → slice_get ts i ≡ Some u → Computable S rank R a u

-- computability at the arrow a ⇒ b: the term is well typed, and takes computable terms to computable ones
pub record IsComputableAtArrow (S : Symbols) (rank : ℕ → ℕ) (R : Tm → Tm → Type 0) (a b : Ty) (t : Tm) : Type 0 where
  pub typed : Typed S [] [] t (a ⇒ b)
  pub takes : (u : Tm) → Computable S rank R a u → Computable S rank R b (app t u)

-- trees that are, one by one, computable terms of the types, all of known sorts
abbrev pub ComputableList : Symbols → (ℕ → ℕ) → (Tm → Tm → Type 0) → List Ty → List Tm → Type 0
ComputableList S rank R [] [] = Unit {0}
ComputableList S rank R (a ∷ cs) (t ∷ ts) = SortsBelow S.sorts a × Computable S rank R a t × ComputableList S rank R cs ts
ComputableList S rank R cs ts = ⊥
