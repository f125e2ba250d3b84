use Rattle.std.proofs.Common.{◌≡◌, ◌≢◌, ℕ, ◌<◌, ◌≤◌, suc, Bool, true, false, List, [], ◌∷◌, ◌++◌, length, get_or, take, replicate, refl, sym, ◌∙◌, ap, subst, inl, inr, arith}
use Rattle.std.proofs.lemmas.List.{length-map, get_or-map, get_or_default, get_or-take, take-take, take_all, take_at, take-append-le, length_push, get_or_push, get_or_append_left, map_push, length-replicate, get_or-replicate}
use Rattle.std.proofs.lemmas.Bool.{cases_eq}
use Rattle.wh_sat_trail.specs.declared.literal.Literal.{Literal}
use Rattle.wh_sat_trail.specs.declared.trail.Trail.{Trail}
use Rattle.wh_sat_trail.specs.declared.watch.Stop.{Stop}
use Rattle.wh_sat_trail.specs.Assignment.{negated}
use Rattle.wh_sat_trail.specs.Propagation.{Grows, IsClosed, IsRefuted}
use Rattle.wh_sat_trail.specs.State.{assigned, marks_of}
use Rattle.wh_sat_trail.specs.Watch.{no_stop, nothing}
use Rattle.wh_sat.specs.Learning.{Derives, Has, IsLearnt, Refutes, forced, given}
use Rattle.wh_sat.specs.Solving.{IsRising, Known, Levels, Solves, SolvesGiven, clause_true, decisions}
use Rattle.wh_sat.proofs.Assuring.{learnt_true}
use Rattle.wh_sat.proofs.Clashing.{cut, has_either, has_left, has_right, holds_has}
use Rattle.wh_sat.proofs.Supposing.{grows_derives, has_take}

-- the marks of a trail rise
pub rising_marks : (s : Trail) → IsRising (marks_of s) (length (assigned s))
rising_marks s =
    let f = λ (stop : Stop). stop.mark in
    let far : (j : ℕ) → j < length (marks_of s) → j < length s.stops.items = λ j w. omega (arith, w, length-map s.stops.items f) in
    record {
      within = λ j w. rw (get_or-map f s.stops.items j no_stop 0 (far j w)) (s.ordered.marks_in j (far j w));
      rising = λ i j ij w. rw (get_or-map f s.stops.items j no_stop 0 (far j w), get_or-map f s.stops.items i no_stop 0 (omega (arith, ij, far j w))) (s.ordered.marks i j ij (far j w));
    }

-- a front of a list that has grown
front_grown : (clauses : List (List Literal)) (t u : List Literal) (p : ℕ) → Grows clauses t u → p ≤ length t → take p u ≡ take p t
front_grown clauses t u p g w = sym (take-take p (length t) u w) ∙ ap (take p) g.kept

at_grown : (clauses : List (List Literal)) (t u : List Literal) (p : ℕ) (d : Literal) → Grows clauses t u → p < length t → get_or u p d ≡ get_or t p d
at_grown clauses t u p d g w = sym (get_or-take (length t) u p d w) ∙ ap (λ x. get_or x p d) g.kept

decisions_same : (t u : List Literal) (marks : List ℕ) → ((j : ℕ) → j < length marks → get_or u (get_or marks j 0) nothing ≡ get_or t (get_or marks j 0) nothing) → decisions u marks ≡ decisions t marks
decisions_same t u [] h = refl
decisions_same t u (x ∷ marks) h =
    ap (λ y. y ∷ decisions u marks) (h 0 (omega arith)) ∙ ap (λ ys. get_or t x nothing ∷ ys) (decisions_same t u marks (λ j w. h (suc j) (omega (arith, w))))

pub levels_start : (clauses : List (List Literal)) (t : List Literal) → ((m : Literal) → Has t m → Derives clauses [] m) → Levels clauses t []
levels_start clauses t f = record { closed = λ j w. absurd (omega (arith, w)); ground = λ m h. f m (has_take t (length t) m h); derived = f }

ground_grown : (clauses : List (List Literal)) (t u : List Literal) (marks : List ℕ) → Levels clauses t marks → IsRising marks (length t) → Grows clauses t u → (m : Literal) → Has (take (get_or marks 0 (length u)) u) m → Derives clauses [] m
ground_grown clauses t u [] lv r g m h = grows_derives clauses t u [] g (λ n q. lv.ground n (subst (λ x. Has x n) (sym (take_all (length t) t (omega arith))) q)) m (has_take u (length u) m h)
ground_grown clauses t u (x ∷ marks) lv r g m h = lv.ground m (subst (λ y. Has y m) (front_grown clauses t u x g (omega (arith, r.within 0 (omega arith)))) h)

-- propagation
pub levels_grow : (clauses : List (List Literal)) (t u : List Literal) (marks : List ℕ) → Levels clauses t marks → IsRising marks (length t) → Grows clauses t u → Levels clauses u marks
levels_grow clauses t u marks lv r g = record {
  closed = λ j w. subst (IsClosed clauses) (sym (front_grown clauses t u (get_or marks j 0) g (omega (arith, r.within j w)))) (lv.closed j w);
  ground = ground_grown clauses t u marks lv r g;
  derived = subst (λ ds. (m : Literal) → Has u m → Derives clauses ds m) (sym (decisions_same t u marks (λ j w. at_grown clauses t u (get_or marks j 0) nothing g (r.within j w))))
      (grows_derives clauses t u (decisions t marks) g lv.derived);
}

ground_decided : (clauses : List (List Literal)) (t : List Literal) (marks : List ℕ) (l : Literal) → Levels clauses t marks → IsRising marks (length t)
    → (m : Literal) → Has (take (get_or (marks ++ length t ∷ []) 0 (length (t ++ l ∷ []))) (t ++ l ∷ [])) m → Derives clauses [] m
ground_decided clauses t [] l lv r m h = lv.ground m (subst (λ y. Has y m) (take-append-le (length t) t (l ∷ []) (omega arith)) h)
ground_decided clauses t (x ∷ marks) l lv r m h = lv.ground m (subst (λ y. Has y m) (take-append-le x t (l ∷ []) (omega (arith, r.within 0 (omega arith)))) h)

-- a decision, where all is propagated
pub levels_decide : (clauses : List (List Literal)) (t : List Literal) (marks : List ℕ) (l : Literal) → Levels clauses t marks → IsRising marks (length t) → IsClosed clauses t → Levels clauses (t ++ l ∷ []) (marks ++ length t ∷ [])
levels_decide clauses t marks l lv r c =
    let u = t ++ l ∷ [] in
    let f = λ (place : ℕ). get_or u place nothing in
    let ds : decisions u (marks ++ length t ∷ []) ≡ decisions t marks ++ l ∷ [] =
    map_push f marks (length t) ∙ ap (λ xs. xs ++ f (length t) ∷ []) (decisions_same t u marks (λ j w. get_or_append_left t (l ∷ []) nothing (get_or marks j 0) (r.within j w)))
    ∙ ap (λ x. decisions t marks ++ x ∷ []) (get_or_push t l nothing (length t) refl) in
    record {
      closed = λ j w. elim (cases_eq j (length marks)) [
        | inl same ↦ subst (λ p. IsClosed clauses (take p u)) (sym (get_or_push marks (length t) 0 j (sym same))) (subst (IsClosed clauses) (sym (take_at t (l ∷ []) (length t) refl)) c)
        | inr other ↦
            let v : j < length marks = omega (arith, length_push marks (length t), other, w) in
            subst (λ p. IsClosed clauses (take p u)) (sym (get_or_append_left marks (length t ∷ []) 0 j v))
            (subst (IsClosed clauses) (sym (take-append-le (get_or marks j 0) t (l ∷ []) (omega (arith, r.within j v)))) (lv.closed j v))
      ];
      ground = ground_decided clauses t marks l lv r;
      derived = subst (λ xs. (m : Literal) → Has u m → Derives clauses xs m) (sym ds) (λ m h. elim (has_either t (l ∷ []) m h) [
        | inl x ↦ cut clauses (decisions t marks) (decisions t marks ++ l ∷ []) m (λ n q. given n (has_left (decisions t marks) (l ∷ []) n q)) (lv.derived m x)
        | inr x ↦ given m (has_right (decisions t marks) (l ∷ []) m x)
      ]);
    }

-- a false clause refutes the decisions
pub conflict_refutes : (clauses : List (List Literal)) (t : List Literal) (marks : List ℕ) (k : ℕ) → Levels clauses t marks → k < length clauses → IsRefuted t (get_or clauses k []) → Refutes clauses (decisions t marks)
conflict_refutes clauses t marks k lv w r = record { clause = k; known = w; all = λ i d v. lv.derived (negated (get_or (get_or clauses k []) i d)) (holds_has t (negated (get_or (get_or clauses k []) i d)) (r i d v)) }

-- a clause more
pub derives_more : (clauses : List (List Literal)) (c start : List Literal) (l : Literal) → Derives clauses start l → Derives (clauses ++ c ∷ []) start l
derives_more clauses c start l (given l' h) = given l h
derives_more clauses c start l (forced k l' w h others) =
    let e : get_or (clauses ++ c ∷ []) k [] ≡ get_or clauses k [] = get_or_append_left clauses (c ∷ []) [] k w in
    forced k l (omega (arith, w, length_push clauses c)) (subst (λ x. Has x l) (sym e) h)
    (subst (λ x. (i : ℕ) (d : Literal) → i < length x → get_or x i d ≢ l → Derives (clauses ++ c ∷ []) start (negated (get_or x i d))) (sym e)
    (λ i d v u. derives_more clauses c start (negated (get_or (get_or clauses k []) i d)) (others i d v u)))

given_before : (v : ℕ → Bool) (clauses : List (List Literal)) (learnt : List Bool) (c : List Literal) (b : Bool) → length learnt ≡ length clauses → SolvesGiven v (clauses ++ c ∷ []) (learnt ++ b ∷ []) → SolvesGiven v clauses learnt
given_before v clauses learnt c b same s k w e =
    subst (λ x. clause_true v x ≡ true) (get_or_append_left clauses (c ∷ []) [] k w)
    (s k (omega (arith, w, length_push clauses c)) (get_or_append_left learnt (b ∷ []) false k (omega (arith, same, w)) ∙ e))

solves_push : (v : ℕ → Bool) (clauses : List (List Literal)) (c : List Literal) → Solves v clauses → clause_true v c ≡ true → Solves v (clauses ++ c ∷ [])
solves_push v clauses c s e k w = elim (cases_eq k (length clauses)) [
  | inl same ↦ subst (λ x. clause_true v x ≡ true) (sym (get_or_push clauses c [] k (sym same))) e
  | inr other ↦ let u : k < length clauses = omega (arith, length_push clauses c, other, w) in
      subst (λ x. clause_true v x ≡ true) (sym (get_or_append_left clauses (c ∷ []) [] k u)) (s k u)
]

each_before : (n : ℕ) (clauses : List (List Literal)) (learnt : List Bool) (c : List Literal) (b : Bool) → Known n clauses learnt → (b ≡ true → IsLearnt n clauses c)
    → (k : ℕ) → k < length (clauses ++ c ∷ []) → get_or (learnt ++ b ∷ []) k false ≡ true → IsLearnt n (take k (clauses ++ c ∷ [])) (get_or (clauses ++ c ∷ []) k [])
each_before n clauses learnt c b q f k w e = elim (cases_eq k (length clauses)) [
  | inl same ↦
      let is : b ≡ true = sym (get_or_push learnt b false k (q.marked ∙ sym same)) ∙ e in
      subst (λ x. IsLearnt n (take k (clauses ++ c ∷ [])) x) (sym (get_or_push clauses c [] k (sym same)))
      (subst (λ x. IsLearnt n x c) (sym (take_at clauses (c ∷ []) k (sym same))) (f is))
  | inr other ↦
      let u : k < length clauses = omega (arith, length_push clauses c, other, w) in
      subst (λ x. IsLearnt n (take k (clauses ++ c ∷ [])) x) (sym (get_or_append_left clauses (c ∷ []) [] k u))
      (subst (λ x. IsLearnt n x (get_or clauses k [])) (sym (take-append-le k clauses (c ∷ []) (omega (arith, u))))
      (q.each k u (sym (get_or_append_left learnt (b ∷ []) false k (omega (arith, q.marked, u))) ∙ e)))
]

marked_push : (clauses : List (List Literal)) (learnt : List Bool) (c : List Literal) (b : Bool) → length learnt ≡ length clauses → length (learnt ++ b ∷ []) ≡ length (clauses ++ c ∷ [])
marked_push clauses learnt c b e = omega (arith, e, length_push learnt b, length_push clauses c)

pub known_learnt : (n : ℕ) (clauses : List (List Literal)) (learnt : List Bool) (c : List Literal) → Known n clauses learnt → IsLearnt n clauses c → Known n (clauses ++ c ∷ []) (learnt ++ true ∷ [])
known_learnt n clauses learnt c q l = record {
  marked = marked_push clauses learnt c true q.marked;
  each = each_before n clauses learnt c true q (λ _. l);
  follows = λ v s. let u = q.follows v (given_before v clauses learnt c true q.marked s) in solves_push v clauses c u (learnt_true v clauses c u l.refuted);
}

pub known_given : (n : ℕ) (clauses : List (List Literal)) (learnt : List Bool) (c : List Literal) → Known n clauses learnt → Known n (clauses ++ c ∷ []) (learnt ++ false ∷ [])
known_given n clauses learnt c q = record {
  marked = marked_push clauses learnt c false q.marked;
  each = each_before n clauses learnt c false q (λ e. absurd (grind (arith, e)));
  follows = λ v s.
      let u = q.follows v (given_before v clauses learnt c false q.marked s) in
      let w : length clauses < length (clauses ++ c ∷ []) = omega (arith, length_push clauses c) in
      solves_push v clauses c u (subst (λ x. clause_true v x ≡ true) (get_or_push clauses c [] (length clauses) refl) (s (length clauses) w (get_or_push learnt false false (length clauses) q.marked)));
}

-- the same knowledge of equal lists
pub known_as : (n n' : ℕ) (clauses clauses' : List (List Literal)) (learnt learnt' : List Bool) → n' ≡ n → clauses' ≡ clauses → learnt' ≡ learnt → Known n clauses learnt → Known n' clauses' learnt'
known_as n n' clauses clauses' learnt learnt' en ec el q =
    subst (Known n' clauses') (sym el) (subst (λ x. Known n' x learnt) (sym ec) (subst (λ x. Known x clauses learnt) (sym en) q))

-- all clauses are given
pub known_start : (n : ℕ) (clauses : List (List Literal)) → Known n clauses (replicate (length clauses) false)
known_start n clauses = record {
  marked = length-replicate (length clauses) false;
  each = λ k w e. let f : false ≡ true = sym (get_or-replicate (length clauses) k false false w) ∙ e in absurd (grind (arith, f));
  follows = λ v s k w. s k w (get_or-replicate (length clauses) k false false w);
}

-- before the first level all was propagated, and what clashes with it refutes
pub front_closed : (clauses : List (List Literal)) (t : List Literal) (marks : List ℕ) → 0 < length marks → Levels clauses t marks → IsClosed clauses (take (get_or marks 0 (length t)) t)
front_closed clauses t marks some lv = subst (λ p. IsClosed clauses (take p t)) (get_or_default marks 0 0 (length t) some) (lv.closed 0 some)
