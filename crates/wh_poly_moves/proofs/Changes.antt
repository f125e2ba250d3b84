-- A flow whose moves change by units from one monomial to another.
use Rattle.std.proofs.Common.{◌≡◌, ℕ, ◌+◌, ◌-◌, ◌<◌, ◌≤◌, ◌==◌, inl, inr, if◌then◌else◌, List, length, get_or, set, ap, sym, subst, ◌∙◌, arith}
use Rattle.std.specs.List.{All}
use Rattle.std.proofs.lemmas.List.{get_or-set_same, get_or-set_other, length-set}
use Rattle.std.proofs.lemmas.Bool.{cases_eq}
use Rattle.wh_hopoly.specs.Moves.{Transfer, Good, given_by, taken_by}
use Rattle.wh_poly.specs.declared.polynomial.Monomial.{Monomial}
use Rattle.wh_poly.specs.Erase.{sum_of}
use Rattle.wh_hopoly.specs.Erase.{transfers}
use Rattle.wh_poly_moves.specs.declared.flow.Flow.{Flow}
use Rattle.wh_poly_moves.specs.Flows.{IsFlow, AreDistinct, units}
use Rattle.wh_polycheck.proofs.AmountWalk.{if_other, if_same}

-- the moves take `amount` units more from one place and bring them to another
pub record AddTo (giver taker amount : ℕ) (old new : List Transfer) : Type 0 where
  pub from : (i : ℕ) → given_by i new ≡ given_by i old + (if giver == i then amount else 0)
  pub to : (j : ℕ) → taken_by j new ≡ taken_by j old + (if taker == j then amount else 0)

-- a sum of what moves take and what is left stays the same
spent_more : (xs : List ℕ) (k amount i : ℕ) (a b c : ℕ) → k < length xs → amount ≤ get_or xs k 0 → b ≡ a + (if k == i then amount else 0)
    → a + get_or xs i 0 ≡ c → b + get_or (set xs k (get_or xs k 0 - amount)) i 0 ≡ c
spent_more xs k amount i a b c h l e f = elim (cases_eq k i) [
  | inl same ↦
      let x = if_same k i amount 0 same in
      let y : get_or (set xs k (get_or xs k 0 - amount)) i 0 ≡ get_or xs k 0 - amount = subst (λ j. get_or (set xs k (get_or xs k 0 - amount)) j 0 ≡ get_or xs k 0 - amount) same (get_or-set_same xs k (get_or xs k 0 - amount) 0 h) in
      let z : get_or xs k 0 ≡ get_or xs i 0 = ap (λ j. get_or xs j 0) same in
      omega (arith, x, y, z, l, e, f)
  | inr other ↦
      let x = if_other k i amount 0 other in
      let y = get_or-set_other xs k i (get_or xs k 0 - amount) 0 (λ e. other (sym e)) in
      omega (arith, x, y, e, f)
]

spent_less : (xs : List ℕ) (k amount i : ℕ) (a b c : ℕ) → k < length xs → a ≡ b + (if k == i then amount else 0)
    → a + get_or xs i 0 ≡ c → b + get_or (set xs k (get_or xs k 0 + amount)) i 0 ≡ c
spent_less xs k amount i a b c h e f = elim (cases_eq k i) [
  | inl same ↦
      let x = if_same k i amount 0 same in
      let y : get_or (set xs k (get_or xs k 0 + amount)) i 0 ≡ get_or xs k 0 + amount = subst (λ j. get_or (set xs k (get_or xs k 0 + amount)) j 0 ≡ get_or xs k 0 + amount) same (get_or-set_same xs k (get_or xs k 0 + amount) 0 h) in
      let z : get_or xs k 0 ≡ get_or xs i 0 = ap (λ j. get_or xs j 0) same in
      omega (arith, x, y, z, e, f)
  | inr other ↦
      let x = if_other k i amount 0 other in
      let y = get_or-set_other xs k i (get_or xs k 0 + amount) 0 (λ e. other (sym e)) in
      omega (arith, x, y, e, f)
]

pub flow_given : (left right : List Monomial) (old new : Flow) (giver taker amount : ℕ) → IsFlow left right old
    → giver < length old.free.items → taker < length old.want.items → amount ≤ get_or old.free.items giver 0 → amount ≤ get_or old.want.items taker 0
    → new.free.items ≡ set old.free.items giver (get_or old.free.items giver 0 - amount)
    → new.want.items ≡ set old.want.items taker (get_or old.want.items taker 0 - amount)
    → AddTo giver taker amount (transfers old.moves.items) (transfers new.moves.items)
    → All (Good (sum_of left) (sum_of right)) (transfers new.moves.items) → AreDistinct (transfers new.moves.items)
    → IsFlow left right new
flow_given left right old new giver taker amount f h k lg lt ef ew added good distinct = record {
  free_long = ap length ef ∙ length-set old.free.items giver _ ∙ f.free_long;
  want_long = ap length ew ∙ length-set old.want.items taker _ ∙ f.want_long;
  good = good;
  distinct = distinct;
  given = λ i. subst (λ xs. given_by i (transfers new.moves.items) + get_or xs i 0 ≡ units left i) (sym ef)
      (spent_more old.free.items giver amount i _ _ _ h lg (added.from i) (f.given i));
  taken = λ j. subst (λ xs. taken_by j (transfers new.moves.items) + get_or xs j 0 ≡ units right j) (sym ew)
      (spent_more old.want.items taker amount j _ _ _ k lt (added.to j) (f.taken j));
  left_fits = f.left_fits;
  right_fits = f.right_fits;
}

pub flow_taken_back : (left right : List Monomial) (old new : Flow) (giver taker amount : ℕ) → IsFlow left right old
    → giver < length old.free.items → taker < length old.want.items
    → new.free.items ≡ set old.free.items giver (get_or old.free.items giver 0 + amount)
    → new.want.items ≡ set old.want.items taker (get_or old.want.items taker 0 + amount)
    → AddTo giver taker amount (transfers new.moves.items) (transfers old.moves.items)
    → All (Good (sum_of left) (sum_of right)) (transfers new.moves.items) → AreDistinct (transfers new.moves.items)
    → IsFlow left right new
flow_taken_back left right old new giver taker amount f h k ef ew added good distinct = record {
  free_long = ap length ef ∙ length-set old.free.items giver _ ∙ f.free_long;
  want_long = ap length ew ∙ length-set old.want.items taker _ ∙ f.want_long;
  good = good;
  distinct = distinct;
  given = λ i. subst (λ xs. given_by i (transfers new.moves.items) + get_or xs i 0 ≡ units left i) (sym ef)
      (spent_less old.free.items giver amount i _ _ _ h (added.from i) (f.given i));
  taken = λ j. subst (λ xs. taken_by j (transfers new.moves.items) + get_or xs j 0 ≡ units right j) (sym ew)
      (spent_less old.want.items taker amount j _ _ _ k (added.to j) (f.taken j));
  left_fits = f.left_fits;
  right_fits = f.right_fits;
}
