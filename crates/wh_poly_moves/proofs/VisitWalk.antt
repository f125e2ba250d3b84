-- A walk over the left monomials, which marks those that could give to one right monomial, and the walk over the steps of a search.
use Rattle.std.proofs.Common.{◌≡◌, ℕ, ◌+◌, ◌<◌, ◌≤◌, inl, inr, Some, IsSome, List, length, set, refl, ap, sym, subst, ◌∙◌, arith}
use Rattle.std.proofs.lemmas.Bool.{cases_eq}
use Rattle.wh_poly.specs.declared.polynomial.Monomial.{Monomial}
use Rattle.wh_poly_moves.specs.declared.flow.Flow.{Flow}
use Rattle.wh_poly_moves.specs.declared.search.Search.{Search}
use Rattle.wh_poly_moves.specs.Flows.{CanGive}
use Rattle.wh_poly_moves.specs.Paths.{mark, target, IsSpent, AreFound, IsSearch, HasReached, HasMarked, HasStepped, AllMarked}
use Rattle.wh_poly_moves.proofs.FlowSteps.{can_give_from}
use Rattle.wh_poly_moves.proofs.SearchSteps.{found_marked, mark_kept, mark_new}

-- what the walk keeps
pub record VisitWalk (left right : List Monomial) (flow : Flow) (start now : Search) (j n : ℕ) : Type 0 where
  pub search : IsSearch left right flow now
  pub marked : HasMarked start now
  pub below : (i : ℕ) → i < n → CanGive left right i j → IsSome (mark now.givers.items i)

pub visit_starts : (left right : List Monomial) (flow : Flow) (start : Search) (j : ℕ) → IsSearch left right flow start → VisitWalk left right flow start start j 0
visit_starts left right flow start j s = record {
  search = s;
  marked = record { steps = refl; reached = refl; kept = λ i m. m };
  below = λ i h _. absurd (omega (arith, h));
}

pub visit_passes : (left right : List Monomial) (flow : Flow) (start now : Search) (j n : ℕ) → (CanGive left right n j → IsSome (mark now.givers.items n))
    → VisitWalk left right flow start now j n → VisitWalk left right flow start now j (n + 1)
visit_passes left right flow start now j n here w = record {
  search = w.search;
  marked = w.marked;
  below = λ i h can. elim (cases_eq i n) [
    | inl same ↦ subst (λ i. IsSome (mark now.givers.items i)) (sym same) (here (subst (λ i. CanGive left right i j) same can))
    | inr other ↦ w.below i (omega (arith, h, other)) can
  ];
}

pub visit_marks : (left right : List Monomial) (flow : Flow) (start now next : Search) (j n p : ℕ) → VisitWalk left right flow start now j n
    → next.steps.items ≡ now.steps.items → next.reached.items ≡ now.reached.items → next.givers.items ≡ set now.givers.items n (Some p)
    → n < length now.givers.items → IsSpent left right flow now.steps.items n p → VisitWalk left right flow start next j (n + 1)
visit_marks left right flow start now next j n p w es er eg h s = record {
  search = subst (λ ss. AreFound left right flow ss next.reached.items next.givers.items) (sym es)
      (subst (λ rs. AreFound left right flow now.steps.items rs next.givers.items) (sym er)
      (subst (λ gs. AreFound left right flow now.steps.items now.reached.items gs) (sym eg)
      (found_marked left right flow now.steps.items now.reached.items now.givers.items n p w.search h s)));
  marked = record {
    steps = es ∙ w.marked.steps;
    reached = er ∙ w.marked.reached;
    kept = λ i m. subst (λ gs. IsSome (mark gs i)) (sym eg) (mark_kept now.givers.items n p i h (w.marked.kept i m));
  };
  below = λ i b can. subst (λ gs. IsSome (mark gs i)) (sym eg) (elim (cases_eq i n) [
    | inl same ↦ subst (λ i. IsSome (mark (set now.givers.items n (Some p)) i)) (sym same) (mark_new now.givers.items n p h)
    | inr other ↦ mark_kept now.givers.items n p i h (w.below i (omega (arith, b, other)) can)
  ]);
}

pub visit_ends : (left right : List Monomial) (flow : Flow) (start now : Search) (j n : ℕ) → VisitWalk left right flow start now j n → length left ≤ n → AllMarked left right j now
visit_ends left right flow start now j n w past i can = w.below i (let h = can_give_from left right i j can in omega (arith, h, past)) can

-- what the walk over the steps keeps
pub record PathWalk (left right : List Monomial) (flow : Flow) (root : ℕ) (now : Search) (at : ℕ) : Type 0 where
  pub search : IsSearch left right flow now
  pub reached : HasReached flow now
  pub root_is : target now.steps.items 0 ≡ root
  pub within : at ≤ length now.steps.items
  pub visited : (p : ℕ) → p < at → AllMarked left right (target now.steps.items p) now

pub path_starts : (left right : List Monomial) (flow : Flow) (root : ℕ) (now : Search) → IsSearch left right flow now → HasReached flow now
    → target now.steps.items 0 ≡ root → PathWalk left right flow root now 0
path_starts left right flow root now s r e = record { search = s; reached = r; root_is = e; within = omega arith; visited = λ p h. absurd (omega (arith, h)) }

pub path_steps : (left right : List Monomial) (flow : Flow) (root : ℕ) (now marked next : Search) (at : ℕ) → PathWalk left right flow root now at
    → at < length now.steps.items → HasMarked now marked → AllMarked left right (target now.steps.items at) marked
    → IsSearch left right flow next → HasReached flow next → HasStepped marked next
    → PathWalk left right flow root next (at + 1)
path_steps left right flow root now marked next at w h m all s r t =
    let same : length marked.steps.items ≡ length now.steps.items = ap length m.steps in
    let kept : (p : ℕ) → p < length now.steps.items → target next.steps.items p ≡ target now.steps.items p = λ p b. t.kept p (omega (arith, same, b)) ∙ ap (λ ss. target ss p) m.steps in record {
      search = s;
      reached = r;
      root_is = kept 0 (w.search.begun) ∙ w.root_is;
      within = let a = t.long in omega (arith, a, same, h);
      visited = λ p b i can. subst (λ gs. IsSome (mark gs i)) (sym t.givers) (elim (cases_eq p at) [
        | inl here ↦ all i (subst (λ p. CanGive left right i (target now.steps.items p)) here (subst (CanGive left right i) (kept p (omega (arith, here, h))) can))
        | inr other ↦ m.kept i (w.visited p (omega (arith, b, other)) i (subst (CanGive left right i) (kept p (let a = w.within in omega (arith, a, b, other, h))) can))
      ]);
    }
