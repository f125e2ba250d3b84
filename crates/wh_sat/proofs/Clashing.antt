use Rattle.std.proofs.Common.{◌≡◌, ℕ, ◌+◌, ◌-◌, ◌<◌, suc, true, false, List, [], ◌∷◌, ◌++◌, length, get_or, Some, eqb, refl, sym, ◌∙◌, ap, subst, ◌⊎◌, inl, inr, arith, tests, length-append}
use Rattle.std.proofs.lemmas.List.{get_or_default, get_or_append_left, get_or-append_right, get_or-append-add}
use Rattle.std.proofs.lemmas.Bool.{cases_eq, cases_lt}
use Rattle.wh_sat_trail.specs.declared.literal.Literal.{Literal}
use Rattle.wh_sat_trail.specs.Assignment.{Holds}
use Rattle.wh_sat_trail.specs.Propagation.{IsClosed}
use Rattle.wh_sat.proofs.Deriving.{cases_lit}
use Rattle.wh_sat_trail.specs.Assignment.{negated}
use Rattle.wh_sat.specs.Learning.{Has, Derives, given, forced, Refutes, Clash, by_clause, by_pair, Reduced, Assumed}

pub has_left : (xs ys : List Literal) (m : Literal) → Has xs m → Has (xs ++ ys) m
has_left xs ys m h = record { place = h.place; within = omega (arith, h.within, length-append xs ys); is = λ d. get_or_append_left xs ys d h.place h.within ∙ h.is d }

pub has_right : (xs ys : List Literal) (m : Literal) → Has ys m → Has (xs ++ ys) m
has_right xs ys m h = record { place = length xs + h.place; within = omega (arith, h.within, length-append xs ys); is = λ d. get_or-append-add xs ys h.place d ∙ h.is d }

pub has_either : (xs ys : List Literal) (m : Literal) → Has (xs ++ ys) m → (Has xs m) ⊎ (Has ys m)
has_either xs ys m h = elim (cases_lt h.place (length xs)) [
  | inl w ↦ inl (record { place = h.place; within = w; is = λ d. sym (get_or_append_left xs ys d h.place w) ∙ h.is d })
  | inr w ↦ inr (record { place = h.place - length xs; within = omega (arith, h.within, w, length-append xs ys); is = λ d. sym (get_or-append_right xs ys (length xs) h.place d refl w) ∙ h.is d })
]

pub at_place : (xs : List Literal) (j : ℕ) (d : Literal) → j < length xs → Has xs (get_or xs j d)
at_place xs j d w = record { place = j; within = w; is = λ e. get_or_default xs j e d w }

pub cut : (clauses : List (List Literal)) (s u : List Literal) (l : Literal) → ((m : Literal) → Has s m → Derives clauses u m) → Derives clauses s l → Derives clauses u l
cut clauses s u l f (given l' q) = f l q
cut clauses s u l f (forced k l' w q others) = forced k l w q (λ i d x n. cut clauses s u _ f (others i d x n))

pub cut_refutes : (clauses : List (List Literal)) (s u : List Literal) → ((m : Literal) → Has s m → Derives clauses u m) → Refutes clauses s → Refutes clauses u
cut_refutes clauses s u f r = record { clause = r.clause; known = r.known; all = λ i d w. cut clauses s u (negated (get_or (get_or clauses r.clause []) i d)) f (r.all i d w) }

pub cut_clash : (clauses : List (List Literal)) (s u : List Literal) → ((m : Literal) → Has s m → Derives clauses u m) → Clash clauses s → Clash clauses u
cut_clash clauses s u f (by_clause r) = by_clause (cut_refutes clauses s u f r)
cut_clash clauses s u f (by_pair l a b) = by_pair l (cut clauses s u l f a) (cut clauses s u (negated l) f b)

-- from a list with no pair of negations a clash is a refutation
pub forced_refutes : (clauses : List (List Literal)) (s : List Literal) (l m : Literal) → Derives clauses s l → m ≡ negated l → Derives clauses s m → (Has s l → Has s m → ⊥) → ((Has s l) ⊎ (Refutes clauses s))
forced_refutes clauses s l m (given l' q) e b h = inl q
forced_refutes clauses s l m (forced k l' w q others) e b h = inr (record {
  clause = k;
  known = w;
  all = λ i d x. elim (cases_lit (get_or (get_or clauses k []) i d) l) [
    | inl same ↦ subst (λ y. Derives clauses s (negated y)) (sym same) (subst (Derives clauses s) e b)
    | inr u ↦ others i d x u
  ];
})

-- the second half given the first, and then the first given what the second needs
pub combine : (clauses : List (List Literal)) (t t1 t2 l1 l2 k1 k2 : List Literal) → Assumed clauses t l1 t1 → Reduced clauses t1 l2 k2 → Assumed clauses t k2 t2 → Reduced clauses t2 l1 k1 → Reduced clauses t (l1 ++ l2) (k1 ++ k2)
combine clauses t t1 t2 l1 l2 k1 k2 a1 r2 a2 r1 = record {
  within = λ m h. elim (has_either k1 k2 m h) [ inl q ↦ has_left l1 l2 m (r1.within m q) | inr q ↦ has_right l1 l2 m (r2.within m q) ];
  refuted = cut_clash clauses (t2 ++ k1) (t ++ (k1 ++ k2)) (λ m h. elim (has_either t2 k1 m h) [
    | inl q ↦ cut clauses (t ++ k2) (t ++ (k1 ++ k2)) m (λ n g. given n (elim (has_either t k2 n g) [ inl x ↦ has_left t (k1 ++ k2) n x | inr x ↦ has_right t (k1 ++ k2) n (has_right k1 k2 n x) ])) (a2.derived m q)
    | inr q ↦ given m (has_right t (k1 ++ k2) m (has_left k1 k2 m q))
  ]) r1.refuted;
  needed = λ i w. elim (cases_lt i (length k1)) [
    | inl x ↦
        let s = r1.needed i x in
        record {
          under = s.under;
          closed = s.closed;
          base = λ m h. s.base m (a2.base m h);
          rest = λ j d v u. elim (cases_lt j (length k1)) [
            | inl y ↦ subst (Holds s.under) (sym (get_or_append_left k1 k2 d j y)) (s.rest j d y u)
            | inr y ↦ subst (Holds s.under) (sym (get_or-append_right k1 k2 (length k1) j d refl y)) (s.base _ (a2.all _ (at_place k2 (j - length k1) d (omega (arith, v, y, length-append k1 k2)))))
          ];
        }
    | inr x ↦
        let s = r2.needed (i - length k1) (omega (arith, w, x, length-append k1 k2)) in
        record {
          under = s.under;
          closed = s.closed;
          base = λ m h. s.base m (a1.base m h);
          rest = λ j d v u. elim (cases_lt j (length k1)) [
            | inl y ↦ subst (Holds s.under) (sym (get_or_append_left k1 k2 d j y)) (s.base _ (a1.all _ (r1.within _ (at_place k1 j d y))))
            | inr y ↦ subst (Holds s.under) (sym (get_or-append_right k1 k2 (length k1) j d refl y)) (s.rest (j - length k1) d (omega (arith, v, y, length-append k1 k2)) (λ e. u (omega (arith, e, x, y))))
          ];
        }
  ];
}

-- one assumption that is needed
pub single : (clauses : List (List Literal)) (t : List Literal) (l : Literal) → IsClosed clauses t → ((m : Literal) → Has t m → Holds t m) → Clash clauses (t ++ l ∷ []) → Reduced clauses t (l ∷ []) (l ∷ [])
single clauses t l c h r = record {
  within = λ m q. q;
  refuted = r;
  needed = λ i w. record { under = t; closed = c; base = h; rest = λ j d v u. absurd (u (omega (arith, v, w))) };
}

same_lit : (x l : Literal) → x.variable ≡ l.variable → x.positive ≡ l.positive → x ≡ l
same_lit x l v p = ap (λ n. let r : Literal = record { variable = n; positive = x.positive } in r) v ∙ ap (λ q. let r : Literal = record { variable = l.variable; positive = q } in r) p

pub holds_has : (t : List Literal) (l : Literal) → Holds t l → Has t l
holds_has [] l h = absurd (grind arith)
holds_has (x ∷ t) l h = elim (cases_eq x.variable l.variable) [
  | inl v ↦
      let e : eqb x.variable l.variable ≡ true = grind (arith, tests, v) in
      let g : Some x.positive ≡ Some l.positive = rw e at h in
      record { place = 0; within = omega arith; is = λ d. same_lit x l v (grind (arith, g)) }
  | inr u ↦
      let e : eqb x.variable l.variable ≡ false = grind (arith, tests, u) in
      let r = holds_has t l (rw e at h) in
      record { place = suc r.place; within = omega (arith, r.within); is = r.is }
]
