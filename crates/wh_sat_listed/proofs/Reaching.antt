-- Hints lead further, one by one.
use Rattle.std.proofs.Common.{◌≡◌, ◌≢◌, ℕ, suc, ◌+◌, ◌<◌, ◌≤◌, ◌⊎◌, inl, inr, Bool, true, false, not, eqb, List, [], ◌∷◌, ◌++◌, length, length-append, get_or, map, refl, sym, ◌∙◌, ap, subst, arith, tests}
use Rattle.std.proofs.lemmas.Bool.{cases_eq, cases_lt}
use Rattle.std.proofs.lemmas.List.{append-nil, append_assoc, length_push, length-map, get_or_append_left, get_or-append-add, get_or-map}
use Rattle.std.proofs.Math.Seq.{get_or-append_seam}
use Rattle.std.proofs.lemmas.Map.Steps.{length-le_from_distinct_below}
use Rattle.std.proofs.lemmas.Map.Keys.{IsDistinct-from_apart}
use Rattle.std.specs.List.{list_any}
use Rattle.wh_sat_trail.specs.declared.literal.Literal.{Literal}
use Rattle.wh_sat_trail.specs.Assignment.{AllBelow, negated}
use Rattle.wh_sat_trail.specs.Member.{member}
use Rattle.wh_sat_trail.specs.Propagation.{Within}
use Rattle.wh_sat_trail.specs.Watch.{nothing}
use Rattle.wh_sat_trail.proofs.Guarding.{member_at}
use Rattle.wh_refute.specs.Refuting.{IsFalse, IsLeft, Leads, ends, goes}
use Rattle.wh_refute.proofs.Members.{member_below, true_is_not_false}
use Rattle.wh_sat_listed.specs.Leading.{AreApart, Reaches}

either : (a b : Bool) → (a ≡ b) ⊎ (a ≡ not b)
either true true = inl refl
either true false = inr refl
either false true = inr refl
either false false = inl refl

same_literal : (a b : Literal) → a.variable ≡ b.variable → a.positive ≡ b.positive → a ≡ b
same_literal a b v p =
    ap (λ n. let r : Literal = record { variable = n; positive = a.positive } in r) v
    ∙ ap (λ q. let r : Literal = record { variable = b.variable; positive = q } in r) p

-- a literal that may become true differs in its variable from all that are true
not_twice : (t : List Literal) (l m : Literal) → member l t ≡ false → member (negated l) t ≡ false → member m t ≡ true
    → m.variable ≢ l.variable
not_twice t l m new possible is same = elim (either m.positive l.positive) [
  | inl p ↦ true_is_not_false (member m t) is (subst (λ x. member x t ≡ false) (sym (same_literal m l same p)) new)
  | inr p ↦ true_is_not_false (member m t) is (subst (λ x. member x t ≡ false) (sym (same_literal m (negated l) same p)) possible)
]

below_push : (n : ℕ) (u : List Literal) (l : Literal) → AllBelow n u → l.variable < n → AllBelow n (u ++ l ∷ [])
below_push n u l b w i d h = elim (cases_lt i (length u)) [
  | inl before ↦ subst (λ (y : Literal). y.variable < n) (sym (get_or_append_left u (l ∷ []) d i before)) (b i d before)
  | inr behind ↦ subst (λ (y : Literal). y.variable < n)
      (sym (ap (λ k. get_or (u ++ l ∷ []) k d) (omega (arith, h, behind, length_push u l)) ∙ get_or-append_seam u l [] d)) w
]

apart_push : (u : List Literal) (l : Literal) → AreApart u
    → ((i : ℕ) (d : Literal) → i < length u → (get_or u i d).variable ≢ l.variable) → AreApart (u ++ l ∷ [])
apart_push u l apart other i j d ij w same = elim (cases_lt j (length u)) [
  | inl before ↦
      let early : i < length u = omega (arith, ij, before) in
      apart i j d ij before
      (sym (ap (λ (x : Literal). x.variable) (get_or_append_left u (l ∷ []) d i early)) ∙ same
      ∙ ap (λ (x : Literal). x.variable) (get_or_append_left u (l ∷ []) d j before))
  | inr behind ↦
      let early : i < length u = omega (arith, ij, w, length_push u l) in
      let last : get_or (u ++ l ∷ []) j d ≡ l =
      ap (λ k. get_or (u ++ l ∷ []) k d) (omega (arith, w, behind, length_push u l)) ∙ get_or-append_seam u l [] d in
      other i d early
      (sym (ap (λ (x : Literal). x.variable) (get_or_append_left u (l ∷ []) d i early)) ∙ same
      ∙ ap (λ (x : Literal). x.variable) last)
]

any_below : (n : ℕ) (xs : List ℕ) (q : ℕ) → ((i d : ℕ) → i < length xs → get_or xs i d < n) → list_any (eqb q) xs ≡ true → q < n
any_below n [] q h e = absurd (grind (arith, e))
any_below n (x ∷ xs) q h e = elim (cases_eq q x) [
  | inl same ↦ subst (λ y. y < n) (sym same) (h 0 0 (omega arith))
  | inr other ↦ any_below n xs q (λ i d w. h (suc i) d (omega (arith, w))) (let z : eqb q x ≡ false = grind (arith, tests, other) in rw z at e)
]

-- literals of distinct variables below n are no more than n
apart_short : (n : ℕ) (u : List Literal) → AllBelow n u → AreApart u → length u ≤ n
apart_short n u below apart =
    let f = λ (l : Literal). l.variable in
    let at : (i d : ℕ) → i < length u → get_or (map f u) i d ≡ f (get_or u i nothing) = λ i d w. get_or-map f u i nothing d w in
    let far : (i : ℕ) → i < length (map f u) → i < length u = λ i w. omega (arith, w, length-map u f) in
    let differ : (i j : ℕ) (d : ℕ) → i < j → j < length (map f u) → eqb (get_or (map f u) i d) (get_or (map f u) j d) ≡ false = λ i j d ij w.
    let wj = far j w in
    let wi : i < length u = omega (arith, ij, wj) in
    let other : get_or (map f u) i d ≢ get_or (map f u) j d = λ same. apart i j nothing ij wj (sym (at i d wi) ∙ same ∙ at j d wj) in
    grind (arith, tests, other) in
    omega (arith, length-map u f, length-le_from_distinct_below (map f u) n (IsDistinct-from_apart eqb (map f u) differ) (λ q e. any_below n (map f u) q (λ i d w. subst (λ x. x < n) (sym (at i d (far i w))) (below i nothing (far i w))) e))

pub reaches_start : (n : ℕ) (clauses : List (List Literal)) (start : List Literal) → Reaches n clauses start [] []
reaches_start n clauses start = record {
  leads = λ more l. subst (λ t. Leads clauses t more) (append-nil start) l;
  count = refl;
  below = λ i d w. absurd (omega (arith, w));
  apart = λ i j d ij w. absurd (omega (arith, w));
}

-- there are no more hints than variables
pub reaches_short : (n : ℕ) (clauses : List (List Literal)) (start : List Literal) (hints : List ℕ) (made : List Literal)
    → Reaches n clauses start hints made → length hints ≤ n
reaches_short n clauses start hints made r = omega (arith, r.count, apart_short n made r.below r.apart)

made_true : (start made : List Literal) (i : ℕ) (d : Literal) → i < length made → member (get_or made i d) (start ++ made) ≡ true
made_true start made i d w =
    subst (λ x. member x (start ++ made) ≡ true) (get_or-append-add start made i d)
    (member_at (start ++ made) (length start + i) d (omega (arith, w, length-append start made)))

-- a clause that leaves one literal is one hint more
pub reaches_next : (n : ℕ) (clauses : List (List Literal)) (start : List Literal) (hints : List ℕ) (made : List Literal) (k : ℕ) (l : Literal)
    → Within n clauses → k < length clauses → IsLeft (start ++ made) (get_or clauses k []) l → member l (start ++ made) ≡ false
    → Reaches n clauses start hints made → Reaches n clauses start (hints ++ k ∷ []) (made ++ l ∷ [])
reaches_next n clauses start hints made k l within known left new r = record {
  leads = λ more m. subst (Leads clauses start) (sym (append_assoc hints (k ∷ []) more))
      (r.leads (k ∷ more) (goes (start ++ made) k l more known left new
      (subst (λ t. Leads clauses t more) (sym (append_assoc start made (l ∷ []))) m)));
  count = omega (arith, length_push hints k, r.count, length_push made l);
  below = below_push n made l r.below (member_below n (get_or clauses k []) l (within k known) left.in_clause);
  apart = apart_push made l r.apart (λ i d w. not_twice (start ++ made) l (get_or made i d) new left.possible (made_true start made i d w));
}

-- one that is false is the last
pub reaches_end : (n : ℕ) (clauses : List (List Literal)) (start : List Literal) (hints : List ℕ) (made : List Literal) (k : ℕ)
    → k < length clauses → IsFalse (start ++ made) (get_or clauses k []) → Reaches n clauses start hints made
    → Leads clauses start (hints ++ k ∷ []) × (length (hints ++ k ∷ []) ≤ n + 1)
reaches_end n clauses start hints made k known is r =
    (r.leads (k ∷ []) (ends (start ++ made) k known is), omega (arith, length_push hints k, reaches_short n clauses start hints made r))
