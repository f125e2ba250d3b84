-- The numbers of the symbols that stand in the conditions.
use Rattle.std.specs.Prelude.{ℕ, ◌+◌, ◌≡◌, ◌↔◌, List, ◌++◌, Some, length, drop, slice_get, Contains}
use Rattle.std.specs.List.{flat_map}
use Rattle.std.specs.Global.{Vec}
use Rattle.wh_poly_guesses.specs.declared.uses.Uses.{Uses}

-- the numbers of the symbols on the two sides
abbrev pub on_sides : Uses → List ℕ
on_sides u = u.left.items ++ u.right.items

-- the lists have the same numbers
abbrev pub HaveSame : List ℕ → List ℕ → Type 0
HaveSame ns ms = (n : ℕ) → Contains ns n ↔ Contains ms n

-- the lists have the numbers of the symbols in each condition, and the last list has those of all conditions behind the
-- rules
pub record AreNumbers (rules : ℕ) (uses : List Uses) (made : List (Vec ℕ)) : Type 0 where
  pub count : length made ≡ length uses + 1
  pub each : (k : ℕ) (u : Uses) (ns : Vec ℕ) → slice_get uses k ≡ Some u → slice_get made k ≡ Some ns
      → HaveSame ns.items (on_sides u)
  pub last : (ns : Vec ℕ) → slice_get made (length uses) ≡ Some ns → HaveSame ns.items (flat_map on_sides (drop rules uses))
