-- Simple types, as trees without pointers: what all definitions speak of.
use Rattle.std.specs.Prelude.{ℕ, ◌<◌, ◌==◌, ◌&&◌, Bool, false, List, [], ◌∷◌}

infixr 60 ◌⇒◌
-- a type is a sort, told by its number, or an arrow of two types (Kop 2012, simple types)
pub data Ty : Type 0 where
  sort : (s : ℕ) → Ty
  ◌⇒◌ : (a b : Ty) → Ty
  deriving Discrete as Ty-discrete
  deriving IsSet as Ty-is_set

-- every type is `A1 ⇒ .. ⇒ Am ⇒ s`: its argument types `A1` to `Am`, of which there are its arity (Kop 2012)
abbrev pub arguments : Ty → List Ty
arguments (sort s) = []
arguments (a ⇒ b) = a ∷ arguments b

-- the sort `s` of the result
abbrev pub result_sort : Ty → ℕ
result_sort (sort s) = s
result_sort (a ⇒ b) = result_sort b

-- every sort in the type has a number below n
abbrev pub SortsBelow : ℕ → Ty → Type 0
SortsBelow n (sort s) = s < n
SortsBelow n (a ⇒ b) = SortsBelow n a × SortsBelow n b

-- whether two types are equal, as a test
abbrev pub same_ty : Ty → Ty → Bool
same_ty (sort s) (sort t) = s == t
same_ty (a ⇒ b) (c ⇒ d) = same_ty a c && same_ty b d
same_ty _ _ = false
