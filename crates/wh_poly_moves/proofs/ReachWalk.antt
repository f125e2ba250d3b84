-- A walk over the moves, which gets to the right monomials of those from a marked left one.
use Rattle.std.proofs.Common.{ℕ, ◌+◌, ◌<◌, ◌≤◌, inl, inr, IsSome, List, length, refl, ap, sym, subst, arith}
use Rattle.std.proofs.lemmas.List.Elements.{All-get_or, All-from_get_or}
use Rattle.std.proofs.lemmas.Bool.{cases_eq}
use Rattle.wh_hopoly.specs.Moves.{Good}
use Rattle.wh_poly.specs.declared.polynomial.Monomial.{Monomial}
use Rattle.wh_poly.specs.Erase.{sum_of}
use Rattle.wh_hopoly.specs.Erase.{transfers}
use Rattle.wh_poly_moves.specs.declared.flow.Flow.{Flow}
use Rattle.wh_poly_moves.specs.declared.search.Search.{Search}
use Rattle.wh_poly_moves.specs.Flows.{IsFlow, move_at}
use Rattle.wh_poly_moves.specs.Paths.{mark, IsReached, IsSearch, HasReached, HasStepped, ReachesBy}
use Rattle.wh_poly_moves.proofs.FlowSteps.{can_give_to, can_give_from}
use Rattle.wh_poly_moves.proofs.SearchSteps.{reaches, reaches_keep, reaches_steps, steps_twice}

-- the right monomials of the first n moves are reached, where their left ones are marked
abbrev pub HasReachedBelow : Flow → Search → ℕ → Type 0
HasReachedBelow flow search n = (e : ℕ) → e < n → e < length (transfers flow.moves.items) → IsSome (mark search.givers.items (move_at (transfers flow.moves.items) e).from)
    → 0 < (move_at (transfers flow.moves.items) e).amount → IsReached search.reached.items (move_at (transfers flow.moves.items) e).to

-- the ends of a move are there
pub giver_listed : (left right : List Monomial) (flow : Flow) (search : Search) (e : ℕ) → IsFlow left right flow → IsSearch left right flow search
    → e < length (transfers flow.moves.items) → (move_at (transfers flow.moves.items) e).from < length search.givers.items
giver_listed left right flow search e f s h =
    let g = All-get_or (Good (sum_of left) (sum_of right)) (transfers flow.moves.items) e (record { from = 0; to = 0; amount = 0 }) h f.good in
    let w = can_give_from left right (move_at (transfers flow.moves.items) e).from (move_at (transfers flow.moves.items) e).to
    (record { given = g.given; taken = g.taken; giver = g.giver; taker = g.taker; source = g.source; target = g.target; fits = g.fits }) in
    let l = s.givers_long in omega (arith, w, l)

pub taker_listed : (left right : List Monomial) (flow : Flow) (search : Search) (e : ℕ) → IsFlow left right flow → IsSearch left right flow search
    → e < length (transfers flow.moves.items) → (move_at (transfers flow.moves.items) e).to < length search.reached.items
taker_listed left right flow search e f s h =
    let g = All-get_or (Good (sum_of left) (sum_of right)) (transfers flow.moves.items) e (record { from = 0; to = 0; amount = 0 }) h f.good in
    let w = can_give_to left right (move_at (transfers flow.moves.items) e).from (move_at (transfers flow.moves.items) e).to
    (record { given = g.given; taken = g.taken; giver = g.giver; taker = g.taker; source = g.source; target = g.target; fits = g.fits }) in
    let l = s.reached_long in omega (arith, w, l)

-- one move further
pub reached_by : (flow : Flow) (old new : Search) (n : ℕ) → HasReachedBelow flow old n
    → (move_at (transfers flow.moves.items) n).to < length old.reached.items
    → ReachesBy n (move_at (transfers flow.moves.items) n) old new → HasReachedBelow flow new (n + 1)
reached_by flow old new n before here by e h l marked some = elim (cases_eq e n) [
  | inl same ↦
      let m = subst (λ e. IsSome (mark old.givers.items (move_at (transfers flow.moves.items) e).from)) same
      (subst (λ gs. IsSome (mark gs (move_at (transfers flow.moves.items) e).from)) by.givers marked) in
      subst (λ e. IsReached new.reached.items (move_at (transfers flow.moves.items) e).to) (sym same) (by.done m)
  | inr other ↦ reaches_keep old new n (move_at (transfers flow.moves.items) e).to (move_at (transfers flow.moves.items) n) here by
      (before e (omega (arith, h, other)) l (subst (λ gs. IsSome (mark gs (move_at (transfers flow.moves.items) e).from)) by.givers marked) some)
]

-- a move that brings nothing needs nothing
pub reached_past : (flow : Flow) (search : Search) (n : ℕ) → HasReachedBelow flow search n → (move_at (transfers flow.moves.items) n).amount ≤ 0
    → HasReachedBelow flow search (n + 1)
reached_past flow search n before none e h l marked some = elim (cases_eq e n) [
  | inl same ↦ let a = ap (λ e. (move_at (transfers flow.moves.items) e).amount) same in absurd (omega (arith, a, none, some))
  | inr other ↦ before e (omega (arith, h, other)) l marked some
]

pub reached_all : (flow : Flow) (search : Search) (n : ℕ) → HasReachedBelow flow search n → length (transfers flow.moves.items) ≤ n → HasReached flow search
reached_all flow search n below past = All-from_get_or (λ m. IsSome (mark search.givers.items m.from) → 0 < m.amount → IsReached search.reached.items m.to) (transfers flow.moves.items)
    (record { from = 0; to = 0; amount = 0 }) (λ e h. below e (omega (arith, h, past)) h)

-- what the walk keeps
pub record ReachWalk (flow : Flow) (start now : Search) (n : ℕ) : Type 0 where
  pub search : (left right : List Monomial) → IsFlow left right flow → IsSearch left right flow start → IsSearch left right flow now
  pub stepped : HasStepped start now
  pub reached : HasReachedBelow flow now n

pub walk_starts : (flow : Flow) (start : Search) → ReachWalk flow start start 0
walk_starts flow start = record {
  search = λ left right f s. s;
  stepped = record { givers = refl; long = omega arith; kept = λ p h. refl };
  reached = λ e h. absurd (omega (arith, h));
}

pub walk_reaches : (flow : Flow) (start now next : Search) (n : ℕ) → ((left : List Monomial) × (right : List Monomial) × IsFlow left right flow × IsSearch left right flow start)
    → n < length (transfers flow.moves.items) → 0 < (move_at (transfers flow.moves.items) n).amount
    → ReachWalk flow start now n → ReachesBy n (move_at (transfers flow.moves.items) n) now next → ReachWalk flow start next (n + 1)
walk_reaches flow start now next n (left, right, f, s) h some w by = record {
  search = λ left right f s. reaches left right flow now next n f (w.search left right f s) h some by;
  stepped = steps_twice start now next w.stepped (reaches_steps now next n (move_at (transfers flow.moves.items) n) by);
  reached = reached_by flow now next n w.reached (taker_listed left right flow now n f (w.search left right f s) h) by;
}

pub walk_passes : (flow : Flow) (start now : Search) (n : ℕ) → (move_at (transfers flow.moves.items) n).amount ≤ 0 → ReachWalk flow start now n → ReachWalk flow start now (n + 1)
walk_passes flow start now n none w = record { search = w.search; stepped = w.stepped; reached = reached_past flow now n w.reached none }
