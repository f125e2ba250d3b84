-- The steps of the search for a path: what it keeps as it starts, as it marks a left monomial, and as it gets to a right one.
use Rattle.std.proofs.Common.{◌≡◌, ℕ, zero, suc, ◌+◌, ◌<◌, inl, inr, Bool, true, false, Option, None, Some, IsSome, MatchOption, List, [], ◌∷◌, ◌++◌, ◌⊎◌, length, get_or, set, replicate, refl, ap, sym, subst, ◌∙◌, arith}
use Rattle.std.proofs.lemmas.List.{get_or-set_same, get_or-set_other, length-set, length_push, length-replicate}
use Rattle.std.proofs.lemmas.List.Elements.{All-get_or}
use Rattle.std.proofs.lemmas.Bool.{cases_eq, cases_lt}
use Rattle.wh_hopoly.specs.Moves.{Transfer, Good}
use Rattle.wh_poly.specs.declared.polynomial.Monomial.{Monomial}
use Rattle.wh_poly.specs.Erase.{sum_of}
use Rattle.wh_hopoly.specs.Erase.{transfers}
use Rattle.wh_poly_moves.specs.declared.flow.Flow.{Flow}
use Rattle.wh_poly_moves.specs.declared.search.Link.{Link}
use Rattle.wh_poly_moves.specs.declared.search.Step.{Step}
use Rattle.wh_poly_moves.specs.declared.search.Search.{Search}
use Rattle.wh_poly_moves.specs.Flows.{IsFlow, CanGive, move_at}
use Rattle.wh_poly_moves.specs.Paths.{target, link, mark, IsReached, unreached, IsLink, IsStep, AreSteps, IsSpent, AreFound, IsSearch, HasStepped, ReachesBy}
use Rattle.wh_poly_moves.proofs.FlowSteps.{can_give_to}

-- weaker facts of what is behind an option
pub weaker : {X : Type 0} (o : Option X) {P P' : Type 0} {Q Q' : X → Type 0} → (P → P') → ((x : X) → o ≡ Some x → Q x → Q' x) → MatchOption o P Q → MatchOption o P' Q'
weaker None f g h = f h
weaker (Some x) f g h = g x refl h

-- one more step
target_kept : (ss : List Step) (s : Step) (p : ℕ) → p < length ss → target (ss ++ s ∷ []) p ≡ target ss p
target_kept [] s p h = absurd (omega (arith, h))
target_kept (t ∷ ss) s zero h = refl
target_kept (t ∷ ss) s (suc p) h = target_kept ss s p (omega (arith, h))

link_kept : (ss : List Step) (s : Step) (p : ℕ) → p < length ss → link (ss ++ s ∷ []) p ≡ link ss p
link_kept [] s p h = absurd (omega (arith, h))
link_kept (t ∷ ss) s zero h = refl
link_kept (t ∷ ss) s (suc p) h = link_kept ss s p (omega (arith, h))

target_new : (ss : List Step) (s : Step) → target (ss ++ s ∷ []) (length ss) ≡ s.target
target_new [] s = refl
target_new (t ∷ ss) s = target_new ss s

link_new : (ss : List Step) (s : Step) → link (ss ++ s ∷ []) (length ss) ≡ s.link
link_new [] s = refl
link_new (t ∷ ss) s = link_new ss s

-- counts of what is not reached
unreached_none : (n : ℕ) → unreached (replicate n false) ≡ n
unreached_none zero = refl
unreached_none (suc n) = ap suc (unreached_none n)

unreached_less : (bs : List Bool) (j : ℕ) → j < length bs → get_or bs j false ≡ false → unreached (set bs j true) + 1 ≡ unreached bs
unreached_less [] j h e = absurd (omega (arith, h))
unreached_less (true ∷ bs) zero h e = cc
unreached_less (false ∷ bs) zero h e = omega arith
unreached_less (true ∷ bs) (suc j) h e = unreached_less bs j (omega (arith, h)) e
unreached_less (false ∷ bs) (suc j) h e = let a = unreached_less bs j (omega (arith, h)) e in omega (arith, a)

reached_none : (n j : ℕ) → IsReached (replicate n false) j → ⊥
reached_none zero j h = cc
reached_none (suc n) zero h = cc
reached_none (suc n) (suc j) h = reached_none n j h

unmarked : (n i : ℕ) → mark (replicate n None) i ≡ None
unmarked zero i = refl
unmarked (suc n) zero = refl
unmarked (suc n) (suc i) = unmarked n i

reached_more : (bs : List Bool) (j k : ℕ) → j < length bs → IsReached bs k → IsReached (set bs j true) k
reached_more bs j k h r = elim (cases_eq k j) [
  | inl same ↦ subst (IsReached (set bs j true)) (sym same) (get_or-set_same bs j true false h)
  | inr other ↦ get_or-set_other bs j k true false other ∙ r
]

reached_cases : (bs : List Bool) (j k : ℕ) → IsReached (set bs j true) k → (k ≡ j) ⊎ IsReached bs k
reached_cases bs j k r = elim (cases_eq k j) [
  | inl same ↦ inl same
  | inr other ↦ inr (sym (get_or-set_other bs j k true false other) ∙ r)
]

-- as the search starts
pub found_at_start : (left right : List Monomial) (flow : Flow) (root : ℕ) (ss : List Step) (reached : List Bool) (givers : List (Option ℕ)) → root < length right
    → ss ≡ record { target = root; link = None } ∷ [] → reached ≡ set (replicate (length right) false) root true → givers ≡ replicate (length left) None
    → AreFound left right flow ss reached givers
found_at_start left right flow root ss reached givers h es er eg =
    let one : List Step = record { target = root; link = None } ∷ [] in
    let long : root < length (replicate (length right) false) = let e = length-replicate (length right) false in omega (arith, e, h) in
    subst (λ ss. AreFound left right flow ss reached givers) (sym es)
    (subst (λ reached. AreFound left right flow (record { target = root; link = None } ∷ []) reached givers) (sym er)
    (subst (λ givers. AreFound left right flow (record { target = root; link = None } ∷ []) (set (replicate (length right) false) root true) givers) (sym eg)
    (record {
      begun = omega arith;
      steps = record {
        here = λ p b. subst (λ p. target one p < length right) (let z : 0 ≡ p = omega (arith, b) in z) h;
        linked = λ p b. let z : p ≡ 0 = omega (arith, b) in subst (λ q. IsStep left right (transfers flow.moves.items) one q) (sym z) refl;
        apart = λ p q b d _. omega (arith, b, d);
      };
      reached_long = length-set (replicate (length right) false) root true ∙ length-replicate (length right) false;
      givers_long = length-replicate (length left) None;
      marked = λ p b. subst (λ p. IsReached (set (replicate (length right) false) root true) (target one p)) (let z : 0 ≡ p = omega (arith, b) in z)
          (get_or-set_same (replicate (length right) false) root true false long);
      known = λ j r. elim (reached_cases (replicate (length right) false) root j r) [
        | inl same ↦ (0, omega arith, sym same)
        | inr old ↦ absurd (reached_none (length right) j old)
      ];
      counted = let a = unreached_less (replicate (length right) false) root long (none_at (length right) root) in let b = unreached_none (length right) in omega (arith, a, b);
      spent = λ i. subst (λ o. MatchOption o (Unit {0}) (IsSpent left right flow one i)) (sym (unmarked (length left) i)) tt;
    })))
  where
    none_at : (n j : ℕ) → get_or (replicate n false) j false ≡ false
    none_at zero j = refl
    none_at (suc n) zero = refl
    none_at (suc n) (suc j) = none_at n j

-- a left monomial that has nothing free is marked
pub found_marked : (left right : List Monomial) (flow : Flow) (ss : List Step) (reached : List Bool) (givers : List (Option ℕ)) (i p : ℕ)
    → AreFound left right flow ss reached givers → i < length givers → IsSpent left right flow ss i p
    → AreFound left right flow ss reached (set givers i (Some p))
found_marked left right flow ss reached givers i p f h s = record {
  begun = f.begun;
  steps = f.steps;
  reached_long = f.reached_long;
  givers_long = length-set givers i (Some p) ∙ f.givers_long;
  marked = f.marked;
  known = f.known;
  counted = f.counted;
  spent = λ k. elim (cases_eq k i) [
    | inl same ↦ subst (λ k. MatchOption (mark (set givers i (Some p)) k) (Unit {0}) (IsSpent left right flow ss k)) (sym same)
        (subst (λ o. MatchOption o (Unit {0}) (IsSpent left right flow ss i)) (sym (get_or-set_same givers i (Some p) None h)) s)
    | inr other ↦ subst (λ o. MatchOption o (Unit {0}) (IsSpent left right flow ss k)) (sym (get_or-set_other givers i k (Some p) None other)) (f.spent k)
  ];
}

pub mark_kept : (givers : List (Option ℕ)) (i p k : ℕ) → i < length givers → IsSome (mark givers k) → IsSome (mark (set givers i (Some p)) k)
mark_kept givers i p k h s = elim (cases_eq k i) [
  | inl same ↦ subst (λ k. IsSome (mark (set givers i (Some p)) k)) (sym same) (subst IsSome (sym (get_or-set_same givers i (Some p) None h)) refl)
  | inr other ↦ subst IsSome (sym (get_or-set_other givers i k (Some p) None other)) s
]

pub mark_new : (givers : List (Option ℕ)) (i p : ℕ) → i < length givers → IsSome (mark (set givers i (Some p)) i)
mark_new givers i p h = subst IsSome (sym (get_or-set_same givers i (Some p) None h)) refl

-- a right monomial that gets something from a marked left one is reached
link_further : (left right : List Monomial) (ms : List Transfer) (ss : List Step) (s : Step) (p : ℕ) (l : Link) → p < length ss
    → IsLink left right ms ss p l → IsLink left right ms (ss ++ s ∷ []) p l
link_further left right ms ss s p l h k = record {
  here = k.here;
  brings = k.brings ∙ sym (target_kept ss s p h);
  some = k.some;
  before = k.before;
  gives = subst (CanGive left right (move_at ms l.through).from) (sym (target_kept ss s l.towards (let b = k.before in omega (arith, b, h)))) k.gives;
}

spent_further : (left right : List Monomial) (flow : Flow) (ss : List Step) (s : Step) (i p : ℕ) → IsSpent left right flow ss i p → IsSpent left right flow (ss ++ s ∷ []) i p
spent_further left right flow ss s i p k = record {
  here = let a = k.here in let b = length_push ss s in omega (arith, a, b);
  gives = subst (CanGive left right i) (sym (target_kept ss s p k.here)) k.gives;
  spent = k.spent;
}

steps_further : (left right : List Monomial) (flow : Flow) (ss : List Step) (reached : List Bool) (givers : List (Option ℕ)) (place towards : ℕ)
    → AreFound left right flow ss reached givers → place < length (transfers flow.moves.items) → 0 < (move_at (transfers flow.moves.items) place).amount
    → (move_at (transfers flow.moves.items) place).to < length right
    → get_or reached (move_at (transfers flow.moves.items) place).to false ≡ false
    → IsSpent left right flow ss (move_at (transfers flow.moves.items) place).from towards
    → AreSteps left right (transfers flow.moves.items) (ss ++ record { target = (move_at (transfers flow.moves.items) place).to; link = Some (record { through = place; towards = towards }) } ∷ [])
steps_further left right flow ss reached givers place towards f h some within new spent =
    let ms = transfers flow.moves.items in let m = move_at ms place in
    let s : Step = record { target = m.to; link = Some (record { through = place; towards = towards }) } in
    let long = length_push ss s in record {
      here = λ p b. elim (cases_lt p (length ss)) [
        | inl below ↦ let a = f.steps.here p below in let e = target_kept ss s p below in omega (arith, a, e)
        | inr past ↦ let z : length ss ≡ p = omega (arith, b, long, past) in subst (λ p. target (ss ++ s ∷ []) p < length right) z (let e = target_new ss s in omega (arith, e, within))
      ];
      linked = λ p b. elim (cases_lt p (length ss)) [
        | inl below ↦ subst (λ o. MatchOption o (p ≡ 0) (IsLink left right ms (ss ++ s ∷ []) p)) (sym (link_kept ss s p below))
            (weaker (link ss p) (λ z. z) (λ l _ k. link_further left right ms ss s p l below k) (f.steps.linked p below))
        | inr past ↦ let z : length ss ≡ p = omega (arith, b, long, past) in subst (IsStep left right ms (ss ++ s ∷ [])) z
            (subst (λ o. MatchOption o (length ss ≡ 0) (IsLink left right ms (ss ++ s ∷ []) (length ss))) (sym (link_new ss s)) (record {
              here = h;
              brings = sym (target_new ss s);
              some = some;
              before = spent.here;
              gives = subst (CanGive left right m.from) (sym (target_kept ss s towards spent.here)) spent.gives;
            }))
      ];
      apart = λ p q b d e. elim (cases_lt p (length ss)) [
        | inl p_below ↦ elim (cases_lt q (length ss)) [
          | inl q_below ↦ f.steps.apart p q p_below q_below (sym (target_kept ss s p p_below) ∙ e ∙ target_kept ss s q q_below)
          | inr q_past ↦ absurd (old_is_not_new p p_below (sym (target_kept ss s p p_below) ∙ e ∙ ap (target (ss ++ s ∷ [])) (let z : q ≡ length ss = omega (arith, d, long, q_past) in z) ∙ target_new ss s))
        ]
        | inr p_past ↦ elim (cases_lt q (length ss)) [
          | inl q_below ↦ absurd (old_is_not_new q q_below (sym (target_kept ss s q q_below) ∙ sym e ∙ ap (target (ss ++ s ∷ [])) (let z : p ≡ length ss = omega (arith, b, long, p_past) in z) ∙ target_new ss s))
          | inr q_past ↦ omega (arith, b, d, long, p_past, q_past)
        ]
      ];
    }
  where
    old_is_not_new : (p : ℕ) → p < length ss → target ss p ≡ (move_at (transfers flow.moves.items) place).to → ⊥
    old_is_not_new p h e = let r = subst (IsReached reached) e (f.marked p h) in cc

found_reached : (left right : List Monomial) (flow : Flow) (ss : List Step) (reached : List Bool) (givers : List (Option ℕ)) (place towards : ℕ)
    → IsFlow left right flow → AreFound left right flow ss reached givers → place < length (transfers flow.moves.items) → 0 < (move_at (transfers flow.moves.items) place).amount
    → mark givers (move_at (transfers flow.moves.items) place).from ≡ Some towards
    → get_or reached (move_at (transfers flow.moves.items) place).to false ≡ false
    → AreFound left right flow (ss ++ record { target = (move_at (transfers flow.moves.items) place).to; link = Some (record { through = place; towards = towards }) } ∷ [])
    (set reached (move_at (transfers flow.moves.items) place).to true) givers
found_reached left right flow ss reached givers place towards flows f h some marks new =
    let ms = transfers flow.moves.items in let m = move_at ms place in
    let s : Step = record { target = m.to; link = Some (record { through = place; towards = towards }) } in
    let long = length_push ss s in
    let good = All-get_or (Good (sum_of left) (sum_of right)) ms place (record { from = 0; to = 0; amount = 0 }) h flows.good in
    let within : m.to < length right = can_give_to left right m.from m.to (record { given = good.given; taken = good.taken; giver = good.giver; taker = good.taker; source = good.source; target = good.target; fits = good.fits }) in
    let here : m.to < length reached = let e = f.reached_long in omega (arith, e, within) in
    let spent : IsSpent left right flow ss m.from towards = subst (λ o. MatchOption o (Unit {0}) (IsSpent left right flow ss m.from)) marks (f.spent m.from) in record {
      begun = omega (arith, long);
      steps = steps_further left right flow ss reached givers place towards f h some within new spent;
      reached_long = length-set reached m.to true ∙ f.reached_long;
      givers_long = f.givers_long;
      marked = λ p b. elim (cases_lt p (length ss)) [
        | inl below ↦ subst (IsReached (set reached m.to true)) (sym (target_kept ss s p below)) (reached_more reached m.to (target ss p) here (f.marked p below))
        | inr past ↦ subst (λ p. IsReached (set reached m.to true) (target (ss ++ s ∷ []) p)) (let z : length ss ≡ p = omega (arith, b, long, past) in z)
            (subst (IsReached (set reached m.to true)) (sym (target_new ss s)) (get_or-set_same reached m.to true false here))
      ];
      known = λ j r. elim (reached_cases reached m.to j r) [
        | inl same ↦ (length ss, omega (arith, long), target_new ss s ∙ sym same)
        | inr old ↦ let (p, b, e) = f.known j old in (p, omega (arith, b, long), target_kept ss s p b ∙ e)
      ];
      counted = let a = unreached_less reached m.to here new in let b = f.counted in omega (arith, a, b, long);
      spent = λ i. weaker (mark givers i) (λ z. z) (λ p _ k. spent_further left right flow ss s i p k) (f.spent i);
    }

pub reaches : (left right : List Monomial) (flow : Flow) (old new : Search) (place : ℕ) → IsFlow left right flow → IsSearch left right flow old
    → place < length (transfers flow.moves.items) → 0 < (move_at (transfers flow.moves.items) place).amount
    → ReachesBy place (move_at (transfers flow.moves.items) place) old new → IsSearch left right flow new
reaches left right flow old new place flows f h some by = elim by.change [
  | inl (es, er) ↦ subst (λ ss. AreFound left right flow ss new.reached.items new.givers.items) (sym es)
      (subst (λ rs. AreFound left right flow old.steps.items rs new.givers.items) (sym er)
      (subst (λ gs. AreFound left right flow old.steps.items old.reached.items gs) (sym by.givers) f))
  | inr (towards, marks, none, er, es) ↦ subst (λ ss. AreFound left right flow ss new.reached.items new.givers.items) (sym es)
      (subst (λ rs. AreFound left right flow (old.steps.items ++ record { target = (move_at (transfers flow.moves.items) place).to; link = Some (record { through = place; towards = towards }) } ∷ []) rs new.givers.items) (sym er)
      (subst (λ gs. AreFound left right flow (old.steps.items ++ record { target = (move_at (transfers flow.moves.items) place).to; link = Some (record { through = place; towards = towards }) } ∷ []) (set old.reached.items (move_at (transfers flow.moves.items) place).to true) gs) (sym by.givers)
      (found_reached left right flow old.steps.items old.reached.items old.givers.items place towards flows f h some marks none)))
]

pub reaches_keep : (old new : Search) (place k : ℕ) (m : Transfer) → m.to < length old.reached.items → ReachesBy place m old new → IsReached old.reached.items k → IsReached new.reached.items k
reaches_keep old new place k m h by r = elim by.change [
  | inl (es, er) ↦ subst (λ rs. IsReached rs k) (sym er) r
  | inr (towards, marks, none, er, es) ↦ subst (λ rs. IsReached rs k) (sym er) (reached_more old.reached.items m.to k h r)
]

pub reaches_steps : (old new : Search) (place : ℕ) (m : Transfer) → ReachesBy place m old new → HasStepped old new
reaches_steps old new place m by = elim by.change [
  | inl (es, er) ↦ record { givers = by.givers; long = let e = ap length es in omega (arith, e); kept = λ p h. ap (λ ss. target ss p) es }
  | inr (towards, marks, none, er, es) ↦ record {
    givers = by.givers;
    long = let e = ap length es in let l = length_push old.steps.items (record { target = m.to; link = Some (record { through = place; towards = towards }) }) in omega (arith, e, l);
    kept = λ p h. ap (λ ss. target ss p) es ∙ target_kept old.steps.items (record { target = m.to; link = Some (record { through = place; towards = towards }) }) p h;
  }
]

pub steps_twice : (a b c : Search) → HasStepped a b → HasStepped b c → HasStepped a c
steps_twice a b c f g = record {
  givers = g.givers ∙ f.givers;
  long = let x = f.long in let y = g.long in omega (arith, x, y);
  kept = λ p h. g.kept p (let x = f.long in omega (arith, x, h)) ∙ f.kept p h;
}

-- the step that was read
pub target_read : (ss : List Step) (p : ℕ) (s : Step) → p < length ss → s ≡ get_or ss p s → target ss p ≡ s.target
target_read [] p s h e = absurd (omega (arith, h))
target_read (t ∷ ss) zero s h e = ap (λ s. s.target) (sym e)
target_read (t ∷ ss) (suc p) s h e = target_read ss p s (omega (arith, h)) e

pub link_read : (ss : List Step) (p : ℕ) (s : Step) → p < length ss → s ≡ get_or ss p s → link ss p ≡ s.link
link_read [] p s h e = absurd (omega (arith, h))
link_read (t ∷ ss) zero s h e = ap (λ s. s.link) (sym e)
link_read (t ∷ ss) (suc p) s h e = link_read ss p s (omega (arith, h)) e
