-- Nodes without pointers, their equality as a test, and what is hashed of them.
use Rattle.std.specs.Prelude.{ℕ, ◌==◌, ◌&&◌, ◌++◌, Bool, false, List}
use Rattle.std.specs.Hash as fed
use Rattle.std.specs.Str.{bytes_eq}
use Rattle.wh_types.specs.Ty.{Ty, same_ty, result_sort}
use Rattle.wh_types.specs.Erase.{ty}
use Rattle.wh_intern.specs.declared.part.Part.{Part}
use Rattle.wh_intern.specs.declared.part.Part.TheVariants.{Bound, Free, Fun, Meta, Lam, App}

-- a node whose parts are told by their numbers
pub data PartTree : Type 0 where
  bound : (i : ℕ) → PartTree
  free : (x : ℕ) (a : Ty) → PartTree
  fun : (f : ℕ) → PartTree
  meta : (z : ℕ) (ns : List ℕ) → PartTree
  lam : (a : Ty) (n : ℕ) → PartTree
  app : (m n : ℕ) → PartTree

-- the node that a `Part` stands for
abbrev pub part_tree : Part → PartTree
part_tree (Bound i) = bound i
part_tree (Free x a) = free x (ty a)
part_tree (Fun f) = fun f
part_tree (Meta z ns) = meta z ns
part_tree (Lam a n) = lam (ty a) n
part_tree (App m n) = app m n

-- whether two nodes are equal, as a test
abbrev pub same_part_tree : PartTree → PartTree → Bool
same_part_tree (bound i) (bound j) = i == j
same_part_tree (free x a) (free y b) = (x == y) && same_ty a b
same_part_tree (fun f) (fun g) = f == g
same_part_tree (meta y ms) (meta z ns) = (y == z) && bytes_eq ms ns
same_part_tree (lam a m) (lam b n) = (m == n) && same_ty a b
same_part_tree (app k m) (app l n) = (k == l) && (m == n)
same_part_tree _ _ = false

abbrev pub same_part : Part → Part → Bool
same_part a b = same_part_tree (part_tree a) (part_tree b)

-- what is hashed of a node: of a type its result alone
abbrev pub hashed_tree : PartTree → List (List ℕ)
hashed_tree (bound i) = fed.u32 i
hashed_tree (free x a) = fed.u8 1 ++ fed.u32 x ++ fed.u32 (result_sort a)
hashed_tree (fun f) = fed.u8 2 ++ fed.u32 f
hashed_tree (meta z ns) = fed.u8 3 ++ fed.u32 z ++ fed.slice fed.u32 ns
hashed_tree (lam a n) = fed.u8 4 ++ fed.u32 n ++ fed.u32 (result_sort a)
hashed_tree (app m n) = fed.u32 m ++ fed.u32 n

abbrev pub hashed : Part → List (List ℕ)
hashed p = hashed_tree (part_tree p)
