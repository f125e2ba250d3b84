use Rattle.std.proofs.Common.{◌≡◌, ◌≢◌, ℕ, ◌+◌, ◌-◌, ◌<◌, zero, suc, Bool, true, false, not, List, [], ◌∷◌, ◌++◌, length, get_or, take, drop, map, None, refl, sym, ◌∙◌, ap, subst, ◌⊎◌, inl, inr, arith}
use Rattle.std.specs.List.{remove}
use Rattle.std.proofs.lemmas.List.{length-map, get_or-map, get_or_default, get_or-take, get_or-drop, length-take, length-drop, take-take}
use Rattle.std.proofs.lemmas.Bool.{cases_eq}
use Rattle.wh_sat_trail.specs.declared.literal.Literal.{Literal}
use Rattle.wh_sat_trail.specs.Assignment.{value_in, negated, AllBelow, Fails, Holds, IsFresh, Open}
use Rattle.wh_sat_trail.specs.Propagation.{IsClosed}
use Rattle.wh_sat_trail.specs.Watch.{nothing}
use Rattle.wh_sat.specs.Learning.{Clash, Has, IsLearnt, Reduced, Refutes, by_clause, by_pair, given}
use Rattle.wh_sat.specs.Solving.{IsRising, Levels, decisions}
use Rattle.wh_sat.proofs.Deriving.{cases_lit, closed_not_refutes}
use Rattle.wh_sat.proofs.Clashing.{at_place, cut, cut_clash, forced_refutes, has_either}
use Rattle.wh_sat.proofs.Combining.{has_holds}
use Rattle.wh_sat_trail.proofs.Looking.{true_not_false}

not_not : (b : Bool) → not (not b) ≡ b
not_not true = refl
not_not false = refl

pub negated_negated : (l : Literal) → negated (negated l) ≡ l
negated_negated l = ap (λ q. let r : Literal = record { variable = l.variable; positive = q } in r) (not_not l.positive)

pub map_negated : (xs : List Literal) → map negated (map negated xs) ≡ xs
map_negated [] = refl
map_negated (x ∷ xs) = ap (λ y. y ∷ map negated (map negated xs)) (negated_negated x) ∙ ap (λ ys. x ∷ ys) (map_negated xs)

pub has_map : (xs : List Literal) (l : Literal) → Has (map negated xs) l → Has xs (negated l)
has_map xs l h =
    let w : h.place < length xs = omega (arith, h.within, length-map xs negated) in
    record {
      place = h.place;
      within = w;
      is = λ d.
          sym (negated_negated (get_or xs h.place d)) ∙ ap negated (sym (get_or-map negated xs h.place d nothing w) ∙ h.is nothing);
    }

-- what is left of a list stands at another place of it
pub has_remove : (xs : List Literal) (i : ℕ) (l : Literal) → Has (remove xs i) l → (j : ℕ) × ((j < length xs) × ((j ≢ i) × ((d : Literal) → get_or xs j d ≡ l)))
has_remove xs i l h = elim (has_either (take i xs) (drop (suc i) xs) l h) [
  | inl q ↦
      let w : q.place < i = omega (arith, q.within, length-take i xs) in
      (q.place, (omega (arith, q.within, length-take i xs), (λ e. omega (arith, e, w), λ d. sym (get_or-take i xs q.place d w) ∙ q.is d)))
  | inr q ↦ (suc i + q.place, (omega (arith, q.within, length-drop (suc i) xs), (λ e. omega (arith, e), λ d. sym (get_or-drop (suc i) xs q.place d) ∙ q.is d)))
]

pub decisions_has : (t : List Literal) (marks : List ℕ) (m : Literal) → IsRising marks (length t) → Has (decisions t marks) m → Has t m
decisions_has t marks m r h =
    let w : h.place < length marks = omega (arith, h.within, length-map marks (λ place. get_or t place nothing)) in
    record {
      place = get_or marks h.place 0;
      within = r.within h.place w;
      is = λ d.
          get_or_default t (get_or marks h.place 0) d nothing (r.within h.place w) ∙ sym (get_or-map (λ place. get_or t place nothing) marks h.place 0 nothing w) ∙ h.is nothing;
    }

fresh_take : (t : List Literal) (p : ℕ) → IsFresh t → IsFresh (take p t)
fresh_take t p f k d w =
    let u : k < p = omega (arith, w, length-take p t) in
    let v : k < length t = omega (arith, w, length-take p t) in
    subst (λ x. value_in (take k (take p t)) x.variable ≡ None) (sym (get_or-take p t k d u))
    (subst (λ s. value_in s (get_or t k d).variable ≡ None) (sym (take-take k p t (omega (arith, u)))) (f k d v))

no_literal : (y : Literal) (c : List Literal) (x : Literal) → y ≢ x → ((i : ℕ) (d : Literal) → i < length c → get_or c i d ≢ x) → (i : ℕ) (d : Literal) → i < length (y ∷ c) → get_or (y ∷ c) i d ≢ x
no_literal y c x u v zero d w = u
no_literal y c x u v (suc i) d w = v i d (omega (arith, w))

-- under an assignment in which x is open and the other literals of a clause are false, the clause is false or forces x
find_literal : (c : List Literal) (x : Literal) → (Has c x) ⊎ ((i : ℕ) (d : Literal) → i < length c → get_or c i d ≢ x)
find_literal [] x = inr (λ i d w e. omega (arith, w))
find_literal (y ∷ c) x = elim (cases_lit y x) [
  | inl same ↦ inl (record { place = 0; within = omega arith; is = λ d. same })
  | inr u ↦ elim (find_literal c x) [
    | inl h ↦ inl (record { place = suc h.place; within = omega (arith, h.within); is = λ d. h.is d })
    | inr v ↦ inr (no_literal y c x u v)
  ]
]

pub speaks : (clauses : List (List Literal)) (t : List Literal) (k : ℕ) (x : Literal) → k < length clauses → IsClosed clauses t → Open t x
    → ((i : ℕ) (d : Literal) → i < length (get_or clauses k []) → (get_or (get_or clauses k []) i d ≡ x) ⊎ (Fails t (get_or (get_or clauses k []) i d))) → ⊥
speaks clauses t k x w c o h =
    let cl = get_or clauses k [] in
    elim (find_literal cl x) [
      | inl q ↦ c.unforced k x w (record { free = o; place = q.place; within = q.within; is = q.is; others = λ i d v u. elim (h i d v) [ inl e ↦ absurd (u e) | inr f ↦ f ] })
      | inr u ↦ c.unrefuted k w (λ i d v. elim (h i d v) [ inl e ↦ absurd (u i d v e) | inr f ↦ f ])
    ]

-- no clause has only negations of decisions
pub no_clause_within : (clauses : List (List Literal)) (t : List Literal) (marks : List ℕ) (k : ℕ) → 0 < length marks → IsRising marks (length t) → IsFresh t → Levels clauses t marks
    → k < length clauses → ((l : Literal) → Has (get_or clauses k []) l → Has (decisions t marks) (negated l)) → ⊥
no_clause_within clauses t marks k some r f lv w h =
    let last = length marks - 1 in
    let lw : last < length marks = omega (arith, some) in
    let p = get_or marks last 0 in
    let pw = r.within last lw in
    let a = take p t in
    let d = get_or t p nothing in
    let x = negated d in
    let cl = get_or clauses k [] in
    speaks clauses a k x w (lv.closed last lw) (f p nothing pw) (λ i e v.
    let l = get_or cl i e in
    let q = h l (at_place cl i e v) in
    let qw : q.place < length marks = omega (arith, q.within, length-map marks (λ place. get_or t place nothing)) in
    let at : get_or t (get_or marks q.place 0) nothing ≡ negated l = sym (get_or-map (λ place. get_or t place nothing) marks q.place 0 nothing qw) ∙ q.is nothing in
    elim (cases_eq q.place last) [
      | inl same ↦
          let e1 : d ≡ negated l = ap (λ n. get_or t (get_or marks n 0) nothing) (sym same) ∙ at in
          inl (sym (negated_negated l) ∙ ap negated (sym e1))
      | inr other ↦
          let early : get_or marks q.place 0 < p = r.rising q.place last (omega (arith, other, qw)) lw in
          let here : Has a (negated l) = record {
            place = get_or marks q.place 0;
            within = omega (arith, early, length-take p t, pw);
            is = λ y.
                get_or-take p t (get_or marks q.place 0) y early ∙ get_or_default t (get_or marks q.place 0) y nothing (r.within q.place qw) ∙ at;
          } in
          inr (has_holds a (negated l) (fresh_take t p f) here)
    ])

below_has : (n : ℕ) (t : List Literal) (m : Literal) → AllBelow n t → Has t m → m.variable < n
below_has n t m b h = subst (λ x. x.variable < n) (h.is m) (b h.place m h.within)

pair_false : (t : List Literal) (l : Literal) → IsFresh t → Has t l → Has t (negated l) → ⊥
pair_false t l f a b = true_not_false (value_in t l.variable) l.positive (has_holds t l f a) (has_holds t (negated l) f b)

-- a clash without a pair of negations is a refutation
clash_refutes : (clauses : List (List Literal)) (s : List Literal) → ((l : Literal) → Has s l → Has s (negated l) → ⊥) → Clash clauses s → Refutes clauses s
clash_refutes clauses s h (by_clause r) = r
clash_refutes clauses s h (by_pair l a b) = elim (forced_refutes clauses s l (negated l) a refl b (h l)) [
  | inr r ↦ r
  | inl q ↦ elim (forced_refutes clauses s (negated l) l b (sym (negated_negated l)) a (λ x y. h l y x)) [
    | inr r ↦ r
    | inl x ↦ absurd (h l q x)
  ]
]

-- the negations of what is needed of the decisions can be learnt
pub is_learnt : (n : ℕ) (clauses : List (List Literal)) (t : List Literal) (marks : List ℕ) (literals kept : List Literal)
    → 0 < length marks → IsRising marks (length t) → IsFresh t → AllBelow n t → Levels clauses t marks
    → ((m : Literal) → Has literals m → Has (decisions t marks) m) → Reduced clauses (take (get_or marks 0 (length t)) t) literals kept → IsLearnt n clauses (map negated kept)
is_learnt n clauses t marks literals kept some r f b lv sub red =
    let front = take (get_or marks 0 (length t)) t in
    let decided : (m : Literal) → Has kept m → Has (decisions t marks) m = λ m h. sub m (red.within m h) in
    let in_trail : (m : Literal) → Has kept m → Has t m = λ m h. decisions_has t marks m r (decided m h) in
    let apart : (l : Literal) → Has kept l → Has kept (negated l) → ⊥ = λ l x y. pair_false t l f (in_trail l x) (in_trail (negated l) y) in
    let alone : Clash clauses kept = cut_clash clauses (front ++ kept) kept (λ m h. elim (has_either front kept m h) [
      | inl x ↦ cut clauses [] kept m (λ y z. absurd (omega (arith, z.within))) (lv.ground m x)
      | inr x ↦ given m x
    ]) red.refuted in
    record {
      below = λ i d w. let v : i < length kept = omega (arith, w, length-map kept negated) in
          subst (λ x. x.variable < n) (sym (get_or-map negated kept i nothing d v)) (below_has n t (get_or kept i nothing) b (in_trail (get_or kept i nothing) (at_place kept i nothing v)));
      plain = λ l x y. apart (negated l) (has_map kept l x) (has_map kept (negated l) y);
      fresh = λ k w inc. no_clause_within clauses t marks k some r f lv w (λ l h. decided (negated l) (has_map kept l (inc l h)));
      refuted = subst (Refutes clauses) (sym (map_negated kept)) (clash_refutes clauses kept apart alone);
      needed = λ i w ref.
          let v : i < length kept = omega (arith, w, length-map kept negated) in
          let s = red.needed i v in
          closed_not_refutes clauses (map negated (remove (map negated kept) i)) s.under s.closed (λ m h.
          let q = has_remove (map negated kept) i (negated m) (has_map (remove (map negated kept) i) m h) in
          let u : q.0 < length kept = omega (arith, q.1.0, length-map kept negated) in
          let e : get_or kept q.0 nothing ≡ m = sym (negated_negated (get_or kept q.0 nothing)) ∙ ap negated (sym (get_or-map negated kept q.0 nothing nothing u) ∙ q.1.1.1 nothing) ∙ negated_negated m in
          subst (Holds s.under) e (s.rest q.0 nothing u q.1.1.0)) ref;
    }
