-- Flows of units between the monomials of two polynomials, and how they change.
use Rattle.std.specs.Prelude.{ℕ, ◌≡◌, ◌≢◌, ◌≤◌, ◌<◌, ◌+◌, ◌-◌, List, [], ◌∷◌, length, map, slice_index, slice_index_or, slice_set, All, nat_lt}
use Rattle.std.specs.List.{filter}
use Rattle.wh_types.specs.Limits.{coefficient_end}
use Rattle.wh_poly.specs.Polynomials.{Polynomial}
use Rattle.wh_hopoly.specs.Moves.{Transfer, Good, IsCover, given_by, taken_by}
use Rattle.wh_poly.specs.declared.polynomial.Monomial.{Monomial, out-Monomial}
use Rattle.wh_poly.specs.Erase.{sum_of}
use Rattle.wh_hopoly.specs.Erase.{transfers}
use Rattle.wh_poly_moves.specs.declared.flow.Flow.{Flow}

-- how many units the monomial i of the list has, or 0 where there is none (ours)
abbrev pub units : List Monomial → ℕ → ℕ
units xs i = slice_index (map (λ x. (out-Monomial x).coefficient) xs) i

-- a unit of the left monomial i may go to the right monomial j (ours)
abbrev pub CanGive : List Monomial → List Monomial → ℕ → ℕ → Type 0
CanGive left right i j = Good (sum_of left) (sum_of right) (record { from = i; to = j; amount = 0 })

-- the move at a place, or one of no units where there is none (ours)
abbrev pub move_at : List Transfer → ℕ → Transfer
move_at ms e = slice_index_or ms e (record { from = 0; to = 0; amount = 0 })

-- no move of the list is from i to j (ours)
abbrev pub NoneBetween : ℕ → ℕ → List Transfer → Type 0
NoneBetween i j ms = All (λ m. m.from ≡ i → m.to ≡ j → ⊥) ms

-- the move at the place is from i to j (ours)
pub record IsBetween (i j : ℕ) (ms : List Transfer) (e : ℕ) : Type 0 where
  pub here : e < length ms
  pub from : (move_at ms e).from ≡ i
  pub to : (move_at ms e).to ≡ j

-- no two moves are between the same two monomials, by the moves behind each (ours)
abbrev pub AreDistinct : List Transfer → Type 0
AreDistinct [] = Unit {0}
AreDistinct (m ∷ ms) = NoneBetween m.from m.to ms × AreDistinct ms

-- the moves, and what they leave: each move is good, no two are between the same monomials, what the moves take from a
-- left monomial and what it has free make its coefficient, and what they bring to a right one and what it wants make
-- its own (ours)
pub record IsFlow (left right : List Monomial) (flow : Flow) : Type 0 where
  pub free_long : length flow.free.items ≡ length left
  pub want_long : length flow.want.items ≡ length right
  pub good : All (Good (sum_of left) (sum_of right)) (transfers flow.moves.items)
  pub distinct : AreDistinct (transfers flow.moves.items)
  pub given : (i : ℕ) → given_by i (transfers flow.moves.items) + slice_index flow.free.items i ≡ units left i
  pub taken : (j : ℕ) → taken_by j (transfers flow.moves.items) + slice_index flow.want.items j ≡ units right j
  pub left_fits : (i : ℕ) → units left i < coefficient_end
  pub right_fits : (j : ℕ) → units right j < coefficient_end

-- there are two sides between which this is a flow (ours)
abbrev pub IsSomeFlow : Flow → Type 0
IsSomeFlow flow = (left : List Monomial) × (right : List Monomial) × IsFlow left right flow

-- the moves of the first list stand at the same places in the second, with no smaller amounts but at one place (ours)
pub record AreKeptBut (lessened : ℕ → Type 0) (old new : List Transfer) : Type 0 where
  pub long : length old ≤ length new
  pub from : (e : ℕ) → e < length old → (move_at new e).from ≡ (move_at old e).from
  pub to : (e : ℕ) → e < length old → (move_at new e).to ≡ (move_at old e).to
  pub amount : (e : ℕ) → e < length old → (lessened e → ⊥) → (move_at old e).amount ≤ (move_at new e).amount

-- `amount` units have gone from one monomial to the other, and the flow is still one between any two sides where the
-- one can give to the other (ours)
pub record HasGiven (old : Flow) (giver taker amount : ℕ) (new : Flow) : Type 0 where
  pub free : new.free.items ≡ slice_set old.free.items giver (slice_index old.free.items giver - amount)
  pub want : new.want.items ≡ slice_set old.want.items taker (slice_index old.want.items taker - amount)
  pub kept : AreKeptBut (λ e. ⊥) (transfers old.moves.items) (transfers new.moves.items)
  pub flow : (left right : List Monomial) → IsFlow left right old → CanGive left right giver taker → IsFlow left right new

-- `amount` units of a move have gone back (ours)
pub record HasTakenBack (old : Flow) (place amount : ℕ) (new : Flow) : Type 0 where
  pub free : let giver = (move_at (transfers old.moves.items) place).from in new.free.items ≡ slice_set old.free.items giver
      (slice_index old.free.items giver + amount)
  pub want : let taker = (move_at (transfers old.moves.items) place).to in new.want.items ≡ slice_set old.want.items taker
      (slice_index old.want.items taker + amount)
  pub kept : AreKeptBut (λ e. e ≡ place) (transfers old.moves.items) (transfers new.moves.items)
  pub flow : (left right : List Monomial) → IsFlow left right old → IsFlow left right new

-- units of a move come from another giver instead: what is wanted is as before, and the first giver has something free
-- if both had something (ours)
pub record IsRerouted (old : Flow) (place giver first : ℕ) (new : Flow) : Type 0 where
  pub first_is : first ≡ (move_at (transfers old.moves.items) place).from
  pub free_long : length new.free.items ≡ length old.free.items
  pub free : 0 < slice_index old.free.items giver → 0 < (move_at (transfers old.moves.items) place).amount
      → 0 < slice_index new.free.items first
  pub want : new.want.items ≡ old.want.items
  pub kept : AreKeptBut (λ e. e ≡ place) (transfers old.moves.items) (transfers new.moves.items)
  pub flow : (left right : List Monomial) → IsFlow left right old
      → CanGive left right giver (move_at (transfers old.moves.items) place).to → IsFlow left right new

-- two flows leave the same wanted, but at one right monomial (ours)
abbrev pub WantsAlike : ℕ → Flow → Flow → Type 0
WantsAlike root old new = (j : ℕ) → j ≢ root → slice_index new.want.items j ≡ slice_index old.want.items j

-- the moves of the list that bring something (ours)
abbrev pub positives : List Transfer → List Transfer
positives = filter (λ m. nat_lt 0 m.amount)

-- some moves cover one polynomial by the other (ours)
abbrev pub IsSomeCover : Polynomial → Polynomial → Type 0
IsSomeCover left right = (ms : List Transfer) × IsCover left right ms
