-- Where a search ends without a path, the right monomials that it got to want more than those that could give to them have.
use Rattle.std.proofs.Common.{◌≡◌, ℕ, zero, suc, ◌<◌, ◌≤◌, inl, inr, Bool, false, IsTrue, Option, Some, None, IsSome, MatchOption, is_some, List, [], ◌∷◌, length, get_or, map, sym, subst, arith}
use Rattle.std.specs.List.{All, Contains}
use Rattle.std.proofs.lemmas.List.{length-map, get_or_past}
use Rattle.std.proofs.lemmas.List.Elements.{All-weaker, All-contains_itself}
use Rattle.std.proofs.lemmas.Bool.{cases_lt}
use Rattle.wh_poly.specs.Polynomials.{Factors}
use Rattle.wh_hopoly.specs.Moves.{Transfer, Good, MonomialAt, given_by, taken_by, IsCover}
use Rattle.wh_poly.specs.declared.polynomial.Monomial.{Monomial, out-Monomial}
use Rattle.wh_poly.specs.Erase.{sum_of}
use Rattle.wh_hopoly.specs.Erase.{transfers}
use Rattle.wh_poly_moves.specs.declared.flow.Flow.{Flow}
use Rattle.wh_poly_moves.specs.declared.search.Search.{Search}
use Rattle.wh_poly_moves.specs.Found.{NoneCovers}
use Rattle.wh_poly_moves.specs.Flows.{IsFlow, CanGive, units}
use Rattle.wh_poly_moves.specs.Paths.{mark, target, IsReached, IsSpent}
use Rattle.wh_poly_moves.proofs.Sums.{sum_below, sum_at_most, sum_less, sum_by_moves, total_at_most}
use Rattle.wh_poly_moves.proofs.FlowSteps.{can_give_from, can_give_to}
use Rattle.wh_poly_moves.proofs.VisitWalk.{PathWalk}
use Rattle.wh_polycheck.proofs.AmountWalk.{monomial_there}

-- coefficients of monomials
pub units_here : (xs : List Monomial) (i c : ℕ) (us : Factors) → MonomialAt (sum_of xs) i c us → units xs i ≡ c
units_here [] i c us m = absurd m
units_here (x ∷ xs) zero c us m = m.0
units_here (x ∷ xs) (suc i) c us m = units_here xs i c us m

pub units_past : (xs : List Monomial) (i : ℕ) → length xs ≤ i → units xs i ≡ 0
units_past xs i h = get_or_past (map (λ x. (out-Monomial x).coefficient) xs) i 0 (let e = length-map xs (λ x. (out-Monomial x).coefficient) in omega (arith, e, h))

-- all moves of a list are between monomials that are there
pub good_between : (left right : List Monomial) (m : Transfer) → Good (sum_of left) (sum_of right) m → CanGive left right m.from m.to
good_between left right m g = record { given = g.given; taken = g.taken; giver = g.giver; taker = g.taker; source = g.source; target = g.target; fits = g.fits }

all_from : (left right : List Monomial) (ms : List Transfer) → All (Good (sum_of left) (sum_of right)) ms → All (λ m. m.from < length left) ms
all_from left right ms g = All-weaker (Good (sum_of left) (sum_of right)) (λ m. m.from < length left) (λ m g. can_give_from left right m.from m.to (good_between left right m g)) ms g

all_to : (left right : List Monomial) (ms : List Transfer) → All (Good (sum_of left) (sum_of right)) ms → All (λ m. m.to < length right) ms
all_to left right ms g = All-weaker (Good (sum_of left) (sum_of right)) (λ m. m.to < length right) (λ m g. can_give_to left right m.from m.to (good_between left right m g)) ms g

pub cover_good : (left right : List Monomial) (ms : List Transfer) → IsCover (sum_of left) (sum_of right) ms → All (Good (sum_of left) (sum_of right)) ms
cover_good left right ms c = All-weaker (Contains ms) (Good (sum_of left) (sum_of right)) c.good ms (All-contains_itself ms)

-- the marked left monomials and the right ones that the search got to
is_marked : Search → ℕ → Bool
is_marked search i = is_some (mark search.givers.items i)

is_reached : Search → ℕ → Bool
is_reached search j = get_or search.reached.items j false

module _ (left right : List Monomial) (flow : Flow) (root : ℕ) (search : Search) (at : ℕ) (f : IsFlow left right flow) (w : PathWalk left right flow root search at)
    (past : length search.steps.items ≤ at) where
  spent_at : (i : ℕ) → IsSome (mark search.givers.items i) → (p : ℕ) × IsSpent left right flow search.steps.items i p
  spent_at i t = go (mark search.givers.items i) (w.search.spent i) t
    where
      go : (o : Option ℕ) → MatchOption o (Unit {0}) (IsSpent left right flow search.steps.items i) → IsSome o → (p : ℕ) × IsSpent left right flow search.steps.items i p
      go None m t = cc
      go (Some p) m t = (p, m)

  -- what the marked ones have goes to those that were got to
  have_at_most : sum_below (is_marked search) (units left) (length left) ≤ sum_below (is_reached search) (λ j. taken_by j (transfers flow.moves.items)) (length right)
  unfolding is_marked is_reached
  have_at_most =
      let ms = transfers flow.moves.items in
      let a = sum_at_most (is_marked search) (units left) (λ i. given_by i ms) (length left) (λ i t. let (p, s) = spent_at i t in let x = f.given i in let y = s.spent in omega (arith, x, y)) in
      let b = sum_by_moves (is_marked search) (λ m. m.from) (length left) ms (all_from left right ms f.good) in
      let c = total_at_most (is_marked search) (is_reached search) (λ m. m.from) (λ m. m.to) ms (All-weaker (λ m. IsSome (mark search.givers.items m.from) → 0 < m.amount → IsReached search.reached.items m.to)
      (λ m. 0 < m.amount → IsTrue (is_marked search m.from) → IsTrue (is_reached search m.to)) (λ m g some t. g t some) ms w.reached) in
      let d = sum_by_moves (is_reached search) (λ m. m.to) (length right) ms (all_to left right ms f.good) in
      omega (arith, a, b, c, d)

  -- and is less than what these want in all
  want_more : root < length right → 0 < get_or flow.want.items root 0
      → sum_below (is_reached search) (λ j. taken_by j (transfers flow.moves.items)) (length right) < sum_below (is_reached search) (units right) (length right)
  unfolding is_reached
  want_more h wants = sum_less (is_reached search) (λ j. taken_by j (transfers flow.moves.items)) (units right) (length right) root
      (λ j _. let x = f.taken j in omega (arith, x)) h
      (subst (IsReached search.reached.items) w.root_is (w.search.marked 0 w.search.begun))
      (let x = f.taken root in omega (arith, x, wants))

  -- moves that cover would bring them all from the marked ones
  cover_brings : (os : List Transfer) → IsCover (sum_of left) (sum_of right) os
      → sum_below (is_reached search) (units right) (length right) ≤ sum_below (is_marked search) (units left) (length left)
  unfolding is_marked is_reached
  cover_brings os c =
      let good = cover_good left right os c in
      let a = sum_at_most (is_reached search) (units right) (λ j. taken_by j os) (length right) (λ j _. covered os c j) in
      let b = sum_by_moves (is_reached search) (λ m. m.to) (length right) os (all_to left right os good) in
      let d = total_at_most (is_reached search) (is_marked search) (λ m. m.to) (λ m. m.from) os (All-weaker (Good (sum_of left) (sum_of right))
      (λ m. 0 < m.amount → IsTrue (is_reached search m.to) → IsTrue (is_marked search m.from)) (λ m g _ t. from_marked m g t) os good) in
      let e = sum_by_moves (is_marked search) (λ m. m.from) (length left) os (all_from left right os good) in
      let k = sum_at_most (is_marked search) (λ i. given_by i os) (units left) (length left) (λ i t. let (p, s) = spent_at i t in not_over os c i (can_give_from left right i (target search.steps.items p) s.gives)) in
      omega (arith, a, b, d, e, k)
    where
      covered : (os : List Transfer) → IsCover (sum_of left) (sum_of right) os → (j : ℕ) → units right j ≤ taken_by j os
      covered os c j = elim (cases_lt j (length right)) [
        | inl below ↦ let (d, us, m) = monomial_there right j below in let x = c.covered j d us m in let y = units_here right j d us m in omega (arith, x, y)
        | inr past ↦ let y = units_past right j past in omega (arith, y)
      ]

      not_over : (os : List Transfer) → IsCover (sum_of left) (sum_of right) os → (i : ℕ) → i < length left → given_by i os ≤ units left i
      not_over os c i h = let (d, us, m) = monomial_there left i h in let x = c.not_over_spent i d us m in let y = units_here left i d us m in omega (arith, x, y)

      from_marked : (m : Transfer) → Good (sum_of left) (sum_of right) m → IsReached search.reached.items m.to → IsSome (mark search.givers.items m.from)
      from_marked m g r = let (p, b, e) = w.search.known m.to r in
          w.visited p (omega (arith, b, past)) m.from (subst (CanGive left right m.from) (sym e) (good_between left right m g))

  pub none_covers : root < length right → 0 < get_or flow.want.items root 0 → NoneCovers (sum_of left) (sum_of right)
  none_covers h wants os c = let a = have_at_most in let b = want_more h wants in let d = cover_brings os c in omega (arith, a, b, d)
