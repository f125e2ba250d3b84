-- What moves take and bring, when one of them changes or another joins.
use Rattle.std.proofs.Common.{◌≡◌, ℕ, zero, suc, ◌+◌, ◌<◌, ◌≤◌, ◌==◌, inl, inr, if◌then◌else◌, List, [], ◌∷◌, ◌++◌, length, get_or, set, arith}
use Rattle.std.proofs.lemmas.Bool.{cases_eq}
use Rattle.wh_hopoly.specs.Moves.{Transfer, units_at}
use Rattle.wh_polycheck.proofs.AmountWalk.{if_other, if_same}

-- what one move adds to the units at a place
abbrev pub share : (Transfer → ℕ) → ℕ → Transfer → ℕ
share place i m = if place m == i then m.amount else 0

-- a choice by two numbers
-- the units at a place, by the first move
pub units_first : (place : Transfer → ℕ) (i : ℕ) (m : Transfer) (ms : List Transfer) → units_at place i (m ∷ ms) ≡ share place i m + units_at place i ms
units_first place i m ms = elim (cases_eq (place m) i) [
  | inl same ↦ let a = if_same (place m) i (m.amount + units_at place i ms) (units_at place i ms) same in let b = if_same (place m) i m.amount 0 same in omega (arith, a, b)
  | inr other ↦ let a = if_other (place m) i (m.amount + units_at place i ms) (units_at place i ms) other in let b = if_other (place m) i m.amount 0 other in omega (arith, a, b)
]

pub units_push : (place : Transfer → ℕ) (i : ℕ) (ms : List Transfer) (m : Transfer) → units_at place i (ms ++ m ∷ []) ≡ units_at place i ms + share place i m
units_push place i [] m = let a = units_first place i m [] in omega (arith, a)
units_push place i (n ∷ ms) m =
    let a = units_first place i n (ms ++ m ∷ []) in let b = units_first place i n ms in let c = units_push place i ms m in omega (arith, a, b, c)

pub units_set : (place : Transfer → ℕ) (i : ℕ) (ms : List Transfer) (e : ℕ) (m d : Transfer) → e < length ms
    → units_at place i (set ms e m) + share place i (get_or ms e d) ≡ units_at place i ms + share place i m
units_set place i [] e m d h = absurd (omega (arith, h))
units_set place i (n ∷ ms) zero m d h = let a = units_first place i n ms in let b = units_first place i m ms in omega (arith, a, b)
units_set place i (n ∷ ms) (suc e) m d h =
    let a = units_first place i n ms in let b = units_first place i n (set ms e m) in
    let c = units_set place i ms e m d (omega (arith, h)) in omega (arith, a, b, c)

-- one move takes no more than all
pub units_of_one : (place : Transfer → ℕ) (ms : List Transfer) (e : ℕ) (d : Transfer) → e < length ms → (get_or ms e d).amount ≤ units_at place (place (get_or ms e d)) ms
units_of_one place [] e d h = absurd (omega (arith, h))
units_of_one place (n ∷ ms) zero d h =
    let a = units_first place (place n) n ms in let b : share place (place n) n ≡ n.amount = if_same (place n) (place n) n.amount 0 (omega arith) in omega (arith, a, b)
units_of_one place (n ∷ ms) (suc e) d h =
    let a = units_first place (place (get_or ms e d)) n ms in let b = units_of_one place ms e d (omega (arith, h)) in omega (arith, a, b)
