use Rattle.std.proofs.Common.{◌≡◌, ℕ, ◌+◌, ◌-◌, ◌<◌, Bool, true, false, cond, eqb, Option, Some, None, Result, Ok, Err, IfOk, Vec, Global, List, [], ◌∷◌, ◌++◌, length, get_or, take, drop, refl, sym, ◌∙◌, ap, subst, inl, inr, arith, tests, length-append}
use Rattle.std.proofs.lemmas.List.{get_or_append_left, get_or-append_right, take-append-drop, drop_more}
use Rattle.std.proofs.lemmas.Bool.{cases_lt}
use Rattle.wh_sat_trail.specs.declared.literal.Literal.{Literal}
use Rattle.wh_sat_trail.specs.Assignment.{value_in, Holds, AllBelow, IsFresh}
use Rattle.wh_sat_trail.specs.Propagation.{IsClosed}
use Rattle.wh_sat.specs.Learning.{Has, given, Clash, Reduced, Assumed}
use Rattle.wh_sat.proofs.Clashing.{cut, cut_clash, has_left, has_right, has_either, at_place}

-- a clash from a list with the same members
pub more_clash : (clauses : List (List Literal)) (s u : List Literal) → ((m : Literal) → Has s m → Has u m) → Clash clauses s → Clash clauses u
more_clash clauses s u f c = cut_clash clauses s u (λ m h. given m (f m h)) c

pub turn_round : (t a b : List Literal) (m : Literal) → Has ((t ++ a) ++ b) m → Has ((t ++ b) ++ a) m
turn_round t a b m h = elim (has_either (t ++ a) b m h) [
  | inl x ↦ elim (has_either t a m x) [ inl y ↦ has_left (t ++ b) a m (has_left t b m y) | inr y ↦ has_right (t ++ b) a m y ]
  | inr x ↦ has_left (t ++ b) a m (has_right t b m x)
]

pub split_clash : (clauses : List (List Literal)) (t lits a b : List Literal) → lits ≡ a ++ b → Clash clauses (t ++ lits) → Clash clauses ((t ++ a) ++ b)
split_clash clauses t lits a b e c = more_clash clauses (t ++ lits) ((t ++ a) ++ b) (λ m h. elim (has_either t lits m h) [
  | inl x ↦ has_left (t ++ a) b m (has_left t a m x)
  | inr x ↦ elim (has_either a b m (subst (λ y. Has y m) e x)) [ inl y ↦ has_left (t ++ a) b m (has_right t a m y) | inr y ↦ has_right (t ++ a) b m y ]
]) c

pub beside_empty : (clauses : List (List Literal)) (s rest kept : List Literal) → kept ≡ [] → Clash clauses s → Reduced clauses s rest kept
beside_empty clauses s rest kept e c = rw e (record {
  within = λ m h. absurd (omega (arith, h.within));
  refuted = more_clash clauses s (s ++ []) (λ m h. has_left s [] m h) c;
  needed = λ i w. absurd (omega (arith, w));
})

pub after_clash : (clauses : List (List Literal)) (t a u rest : List Literal) → Assumed clauses t a u → Clash clauses ((t ++ a) ++ rest) → Clash clauses (u ++ rest)
after_clash clauses t a u rest s c = more_clash clauses ((t ++ a) ++ rest) (u ++ rest) (λ m h. elim (has_either (t ++ a) rest m h) [
  | inl x ↦ has_left u rest m (elim (has_either t a m x) [ inl y ↦ s.base m y | inr y ↦ s.all m y ])
  | inr x ↦ has_right u rest m x
]) c

pub beside_kept : (clauses : List (List Literal)) (t a u rest kept : List Literal) → Assumed clauses t a u → Reduced clauses u rest kept → Reduced clauses (t ++ a) rest kept
beside_kept clauses t a u rest kept s r = record {
  within = r.within;
  refuted = cut_clash clauses (u ++ kept) ((t ++ a) ++ kept) (λ m h. elim (has_either u kept m h) [
    | inl x ↦ cut clauses (t ++ a) ((t ++ a) ++ kept) m (λ n g. given n (has_left (t ++ a) kept n g)) (s.derived m x)
    | inr x ↦ given m (has_right (t ++ a) kept m x)
  ]) r.refuted;
  needed = λ i w. let q = r.needed i w in record {
    under = q.under;
    closed = q.closed;
    rest = q.rest;
    base = λ m h. q.base m (elim (has_either t a m h) [ inl y ↦ s.base m y | inr y ↦ s.all m y ]);
  };
}

pub below_within : (n : ℕ) (xs ys : List Literal) → AllBelow n xs → ((m : Literal) → Has ys m → Has xs m) → AllBelow n ys
below_within n xs ys b f i d w = let h = f (get_or ys i d) (at_place ys i d w) in subst (λ y. y.variable < n) (h.is d) (b h.place d h.within)

pub both_halves : (clauses : List (List Literal)) (t lits l1 l2 k1 k2 kept : List Literal) → lits ≡ l1 ++ l2 → kept ≡ k1 ++ k2 → Reduced clauses (t ++ l1) l2 k2 → Reduced clauses (t ++ k2) l1 k1 → Reduced clauses t lits kept
both_halves clauses t lits l1 l2 k1 k2 kept el ek r2 r1 = rw (el, ek) (record {
  within = λ m h. elim (has_either k1 k2 m h) [ inl q ↦ has_left l1 l2 m (r1.within m q) | inr q ↦ has_right l1 l2 m (r2.within m q) ];
  refuted = more_clash clauses ((t ++ k2) ++ k1) (t ++ (k1 ++ k2)) (λ m h. elim (has_either (t ++ k2) k1 m h) [
    | inl q ↦ elim (has_either t k2 m q) [ inl x ↦ has_left t (k1 ++ k2) m x | inr x ↦ has_right t (k1 ++ k2) m (has_right k1 k2 m x) ]
    | inr q ↦ has_right t (k1 ++ k2) m (has_left k1 k2 m q)
  ]) r1.refuted;
  needed = λ i w. elim (cases_lt i (length k1)) [
    | inl x ↦
        let s = r1.needed i x in
        record {
          under = s.under;
          closed = s.closed;
          base = λ m h. s.base m (has_left t k2 m h);
          rest = λ j d v u. elim (cases_lt j (length k1)) [
            | inl y ↦ subst (Holds s.under) (sym (get_or_append_left k1 k2 d j y)) (s.rest j d y u)
            | inr y ↦ subst (Holds s.under) (sym (get_or-append_right k1 k2 (length k1) j d refl y)) (s.base (get_or k2 (j - length k1) d) (has_right t k2 (get_or k2 (j - length k1) d) (at_place k2 (j - length k1) d (omega (arith, v, y, length-append k1 k2)))))
          ];
        }
    | inr x ↦
        let s = r2.needed (i - length k1) (omega (arith, w, x, length-append k1 k2)) in
        record {
          under = s.under;
          closed = s.closed;
          base = λ m h. s.base m (has_left t l1 m h);
          rest = λ j d v u. elim (cases_lt j (length k1)) [
            | inl y ↦ subst (Holds s.under) (sym (get_or_append_left k1 k2 d j y)) (s.base (get_or k1 j d) (has_right t l1 (get_or k1 j d) (r1.within (get_or k1 j d) (at_place k1 j d y))))
            | inr y ↦ subst (Holds s.under) (sym (get_or-append_right k1 k2 (length k1) j d refl y)) (s.rest (j - length k1) d (omega (arith, v, y, length-append k1 k2)) (λ e. u (omega (arith, e, x, y))))
          ];
        }
  ];
})

none_cons : (test p : Bool) (q r s : Option Bool) → cond test (Some p) q ≡ None → (q ≡ None → r ≡ s) → cond test (Some p) r ≡ s
none_cons true p q r s h f = absurd (grind arith)
none_cons false p q r s h f = f h

none_append : (xs ys : List Literal) (v : ℕ) → value_in xs v ≡ None → value_in (xs ++ ys) v ≡ value_in ys v
none_append [] ys v h = refl
none_append (x ∷ xs) ys v h = none_cons (eqb x.variable v) x.positive (value_in xs v) (value_in (xs ++ ys) v) (value_in ys v) h (none_append xs ys v)

pub has_holds : (t : List Literal) (m : Literal) → IsFresh t → Has t m → Holds t m
has_holds t m f h =
    let k = h.place in
    let a : value_in (take k t) m.variable ≡ None = subst (λ y. value_in (take k t) y.variable ≡ None) (h.is m) (f k m h.within) in
    let e : take k t ++ (m ∷ drop (k + 1) t) ≡ t = ap (λ y. take k t ++ y) (ap (λ y. y ∷ drop (k + 1) t) (sym (h.is m)) ∙ sym (drop_more t k m h.within)) ∙ take-append-drop k t in
    let b : value_in (m ∷ drop (k + 1) t) m.variable ≡ Some m.positive = grind (arith, tests) in
    subst (λ y. value_in y m.variable ≡ Some m.positive) e (none_append (take k t) (m ∷ drop (k + 1) t) m.variable a ∙ b)

pub short_reduced : (clauses : List (List Literal)) (t lits kept : List Literal) → kept ≡ lits → length lits < 2 → IsFresh t → IsClosed clauses t → Clash clauses (t ++ lits) → Reduced clauses t lits kept
short_reduced clauses t lits kept e w f c r = rw e (record {
  within = λ m h. h;
  refuted = r;
  needed = λ i iw. record { under = t; closed = c; base = λ m h. has_holds t m f h; rest = λ j d jw u. absurd (u (omega (arith, iw, jw, w))) };
})

pub short_answer : {E : Type 0} (clauses : List (List Literal)) (t lits : List Literal) (r : Result (Vec Literal Global) E) → IfOk r (λ v. v.items ≡ lits) → length lits < 2 → IsFresh t → IsClosed clauses t → Clash clauses (t ++ lits) → IfOk r (λ v. Reduced clauses t lits v.items)
short_answer clauses t lits (Ok v) e w f c r = short_reduced clauses t lits v.items e w f c r
short_answer clauses t lits (Err x) e w f c r = tt
