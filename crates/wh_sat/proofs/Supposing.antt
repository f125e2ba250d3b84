use Rattle.std.proofs.Common.{◌≡◌, ℕ, ◌+◌, ◌<◌, ◌≤◌, zero, suc, Bool, true, false, not, List, [], ◌∷◌, ◌++◌, length, get_or, take, drop, Option, Some, refl, sym, ◌∙◌, ap, subst, inl, inr, arith}
use Rattle.std.proofs.lemmas.List.{get_or_default, get_or_append_left, get_or-take, length-take, take_more, length_push, take_all, take-append-drop, get_or_push, get_or_past, take-append-le, take-take}
use Rattle.std.proofs.lemmas.Bool.{cases_lt}
use mathlib.Core.Bool.{beq}
use Rattle.wh_sat_trail.specs.declared.literal.Literal.{Literal}
use Rattle.wh_sat_trail.specs.Assignment.{Holds, Fails}
use Rattle.wh_sat_trail.specs.Propagation.{IsRefuted, Grows, IsClosed}
use Rattle.wh_sat_trail.specs.Assignment.{negated}
use Rattle.wh_sat.specs.Learning.{Has, Derives, given, forced, Clash, by_clause, by_pair, Assumed}
use Rattle.wh_sat.proofs.Clashing.{cut, has_left, has_right, has_either, holds_has, at_place}

-- membership in a front
pub has_take : (xs : List Literal) (n : ℕ) (m : Literal) → Has (take n xs) m → Has xs m
has_take xs n m h = subst (λ ys. Has ys m) (take-append-drop n xs) (has_left (take n xs) (drop n xs) m h)

-- each literal of a list that grows by forced ones derives from what the list began with
derives_upto : (clauses : List (List Literal)) (s w start : List Literal) → Grows clauses s w → ((m : Literal) → Has s m → Derives clauses start m) → (n k : ℕ) (d : Literal) → k < n → k < length w → Derives clauses start (get_or w k d)
derives_upto clauses s w start g f zero k d kn kw = absurd (omega arith)
derives_upto clauses s w start g f (suc n) k d kn kw = elim (cases_lt k (length s)) [
  | inl x ↦
      let e : get_or s k d ≡ get_or w k d = ap (λ y. get_or y k d) (sym g.kept) ∙ get_or-take (length s) w k d x in
      subst (Derives clauses start) e (f (get_or s k d) (at_place s k d x))
  | inr x ↦
      let q = g.forced k d x kw in
      forced q.clause (get_or w k d) q.known (record { place = q.forces.place; within = q.forces.within; is = q.forces.is })
      (λ i e y u.
      let h : Has (take k w) (negated (get_or (get_or clauses q.clause []) i e)) = holds_has (take k w) (negated (get_or (get_or clauses q.clause []) i e)) (q.forces.others i e y u) in
      let p : h.place < k = omega (arith, h.within, length-take k w) in
      let r : get_or w h.place e ≡ negated (get_or (get_or clauses q.clause []) i e) = sym (get_or-take k w h.place e p) ∙ h.is e in
      subst (Derives clauses start) r (derives_upto clauses s w start g f n h.place e (omega (arith, p, kn)) (omega (arith, p, kw))))
]

pub grows_derives : (clauses : List (List Literal)) (s w start : List Literal) → Grows clauses s w → ((m : Literal) → Has s m → Derives clauses start m) → (m : Literal) → Has w m → Derives clauses start m
grows_derives clauses s w start g f m h = subst (Derives clauses start) (h.is m) (derives_upto clauses s w start g f (h.place + 1) h.place m (omega arith) h.within)

pub grows_has : (clauses : List (List Literal)) (s w : List Literal) → Grows clauses s w → (m : Literal) → Has s m → Has w m
grows_has clauses s w g m h = has_take w (length s) m (subst (λ y. Has y m) (sym g.kept) h)

has_single : (x m : Literal) → Has (x ∷ []) m → x ≡ m
has_single x m h = let z : h.place ≡ 0 = omega (arith, h.within) in subst (λ p. get_or (x ∷ []) p x ≡ m) z (h.is x)

more_derives : (clauses : List (List Literal)) (t a b : List Literal) (m : Literal) → Derives clauses (t ++ a) m → Derives clauses (t ++ (a ++ b)) m
more_derives clauses t a b m h = cut clauses (t ++ a) (t ++ (a ++ b)) m (λ n g. given n (elim (has_either t a n g) [ inl x ↦ has_left t (a ++ b) n x | inr x ↦ has_right t (a ++ b) n (has_left a b n x) ])) h

all_derives : (clauses : List (List Literal)) (t lits : List Literal) (i : ℕ) (m : Literal) → Derives clauses (t ++ take i lits) m → Derives clauses (t ++ lits) m
all_derives clauses t lits i m h = subst (λ y. Derives clauses (t ++ y) m) (take-append-drop i lits) (more_derives clauses t (take i lits) (drop i lits) m h)

pub assumed_start : (clauses : List (List Literal)) (t lits : List Literal) → IsClosed clauses t → Assumed clauses t (take 0 lits) t
assumed_start clauses t lits c = record { closed = c; base = λ m h. h; all = λ m h. absurd (omega (arith, h.within)); derived = λ m h. given m (has_left t (take 0 lits) m h) }

-- the next assumption is true, or decided
pub assumed_next : (clauses : List (List Literal)) (t lits u w : List Literal) (i : ℕ) (d : Literal) → Assumed clauses t (take i lits) u → i < length lits → IsClosed clauses w → ((m : Literal) → Has u m → Has w m) → Has w (get_or lits i d)
    → ((m : Literal) → Has w m → Derives clauses (t ++ (take i lits ++ get_or lits i d ∷ [])) m) → Assumed clauses t (take (i + 1) lits) w
assumed_next clauses t lits u w i d a l c f h g =
    let e : take i lits ++ get_or lits i d ∷ [] ≡ take (i + 1) lits = sym (take_more lits i d l) in
    subst (λ y. Assumed clauses t y w) e (record {
      closed = c;
      base = λ m q. f m (a.base m q);
      all = λ m q. elim (has_either (take i lits) (get_or lits i d ∷ []) m q) [ inl x ↦ f m (a.all m x) | inr x ↦ subst (Has w) (has_single (get_or lits i d) m x) h ];
      derived = g;
    })

pub assumed_true : (clauses : List (List Literal)) (t lits u : List Literal) (i : ℕ) (d : Literal) → Assumed clauses t (take i lits) u → i < length lits → Holds u (get_or lits i d) → Assumed clauses t (take (i + 1) lits) u
assumed_true clauses t lits u i d a l h = assumed_next clauses t lits u u i d a l a.closed (λ m q. q) (holds_has u (get_or lits i d) h) (λ m q. more_derives clauses t (take i lits) (get_or lits i d ∷ []) m (a.derived m q))

decided : (clauses : List (List Literal)) (t lits u w : List Literal) (i : ℕ) (d : Literal) → Assumed clauses t (take i lits) u → Grows clauses (u ++ get_or lits i d ∷ []) w → (m : Literal) → Has w m → Derives clauses (t ++ (take i lits ++ get_or lits i d ∷ [])) m
decided clauses t lits u w i d a g = grows_derives clauses (u ++ get_or lits i d ∷ []) w (t ++ (take i lits ++ get_or lits i d ∷ [])) g (λ m q. elim (has_either u (get_or lits i d ∷ []) m q) [
  | inl x ↦ more_derives clauses t (take i lits) (get_or lits i d ∷ []) m (a.derived m x)
  | inr x ↦ given m (has_right t (take i lits ++ get_or lits i d ∷ []) m (has_right (take i lits) (get_or lits i d ∷ []) m x))
])

pub assumed_decided : (clauses : List (List Literal)) (t lits u w : List Literal) (i : ℕ) (d : Literal) → Assumed clauses t (take i lits) u → i < length lits → Grows clauses (u ++ get_or lits i d ∷ []) w → IsClosed clauses w → Assumed clauses t (take (i + 1) lits) w
assumed_decided clauses t lits u w i d a l g c = assumed_next clauses t lits u w i d a l c (λ m q. grows_has clauses (u ++ get_or lits i d ∷ []) w g m (has_left u (get_or lits i d ∷ []) m q))
    (grows_has clauses (u ++ get_or lits i d ∷ []) w g (get_or lits i d) (has_right u (get_or lits i d ∷ []) (get_or lits i d) (at_place (get_or lits i d ∷ []) 0 d (omega arith)))) (decided clauses t lits u w i d a g)

pub clash_false : (clauses : List (List Literal)) (t lits u : List Literal) (i : ℕ) (d : Literal) → Assumed clauses t (take i lits) u → i < length lits → Fails u (get_or lits i d) → Clash clauses (t ++ lits)
clash_false clauses t lits u i d a l f = by_pair (get_or lits i d) (given (get_or lits i d) (has_right t lits (get_or lits i d) (at_place lits i d l))) (all_derives clauses t lits i (negated (get_or lits i d)) (a.derived (negated (get_or lits i d)) (holds_has u (negated (get_or lits i d)) f)))

pub clash_refuted : (clauses : List (List Literal)) (t lits u w : List Literal) (i k : ℕ) (d : Literal) → Assumed clauses t (take i lits) u → i < length lits → Grows clauses (u ++ get_or lits i d ∷ []) w → k < length clauses → IsRefuted w (get_or clauses k []) → Clash clauses (t ++ lits)
clash_refuted clauses t lits u w i k d a l g kw r =
    let e : take i lits ++ get_or lits i d ∷ [] ≡ take (i + 1) lits = sym (take_more lits i d l) in
    by_clause (record {
      clause = k;
      known = kw;
      all = λ j y z.
          all_derives clauses t lits (i + 1) (negated (get_or (get_or clauses k []) j y)) (subst (λ q. Derives clauses (t ++ q) (negated (get_or (get_or clauses k []) j y))) e
          (decided clauses t lits u w i d a g (negated (get_or (get_or clauses k []) j y)) (holds_has w (negated (get_or (get_or clauses k []) j y)) (r j y z))));
    })

-- undo goes back to the trail t with the marks ms
pub record Back (ms : List ℕ) (t : List Literal) (marks : List ℕ) (u : List Literal) : Type 0 where
  pub marks_front : take (length ms) marks ≡ ms
  pub stop : get_or marks (length ms) (length u) ≡ length t
  pub front : take (length t) u ≡ t

pub back_start : (ms : List ℕ) (t : List Literal) → Back ms t ms t
back_start ms t = record { marks_front = take_all (length ms) ms (omega arith); stop = get_or_past ms (length ms) (length t) (omega arith); front = take_all (length t) t (omega arith) }

pub back_decide : (clauses : List (List Literal)) (ms : List ℕ) (t : List Literal) (marks : List ℕ) (u w : List Literal) (x : Literal) → Back ms t marks u → Grows clauses (u ++ x ∷ []) w → Back ms t (marks ++ length u ∷ []) w
back_decide clauses ms t marks u w x b g =
    let nm : length ms ≤ length marks = omega (arith, ap length b.marks_front, length-take (length ms) marks) in
    let nt : length t ≤ length u = omega (arith, ap length b.front, length-take (length t) u) in
    record {
      marks_front = take-append-le (length ms) marks (length u ∷ []) nm ∙ b.marks_front;
      stop = elim (cases_lt (length ms) (length marks)) [
        | inl q ↦ get_or_append_left marks (length u ∷ []) (length w) (length ms) q ∙ get_or_default marks (length ms) (length w) (length u) q ∙ b.stop
        | inr q ↦ get_or_push marks (length u) (length w) (length ms) (omega (arith, nm, q)) ∙ sym (get_or_past marks (length ms) (length u) q) ∙ b.stop
      ];
      front =
          let a : take (length t) (take (length (u ++ x ∷ [])) w) ≡ take (length t) w = take-take (length t) (length (u ++ x ∷ [])) w (omega (arith, nt, length_push u x)) in
          sym a ∙ ap (take (length t)) g.kept ∙ take-append-le (length t) u (x ∷ []) nt ∙ b.front;
    }

not_same : (a b : Bool) → not (beq a b) ≡ true → a ≡ not b
not_same true true u = grind arith
not_same false false u = grind arith
not_same true false u = refl
not_same false true u = refl

the_same : (a b : Bool) → not (beq a b) ≡ false → a ≡ b
the_same true true u = refl
the_same false false u = refl
the_same true false u = grind arith
the_same false true u = grind arith

pub fails_by : (o : Option Bool) (b p : Bool) → o ≡ Some b → not (beq b p) ≡ true → o ≡ Some (not p)
fails_by o b p e u = e ∙ ap (λ q. Some q) (not_same b p u)

pub holds_by : (o : Option Bool) (b p : Bool) → o ≡ Some b → not (beq b p) ≡ false → o ≡ Some p
holds_by o b p e u = e ∙ ap (λ q. Some q) (the_same b p u)
