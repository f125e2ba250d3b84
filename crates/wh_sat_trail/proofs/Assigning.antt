use Rattle.std.proofs.Common.{◌≡◌, ◌≢◌, ℕ, ◌+◌, ◌<◌, zero, suc, Bool, true, false, cond, List, [], ◌∷◌, ◌++◌, length, get_or, take, set, replicate, Option, Some, None, eqb, refl, sym, ◌∙◌, ap, subst, inl, inr, arith, tests}
use Rattle.std.proofs.lemmas.List.{take_at, get_or_push, length_push, take-append-le, get_or_append_left, get_or-set_same, get_or-set_other}
use Rattle.std.proofs.lemmas.Bool.{cases_eq}
use Rattle.wh_sat_trail.specs.declared.literal.Literal.{Literal}
use Rattle.wh_sat_trail.specs.Assignment.{value_in, AllBelow, IsFresh, Tabled, count_none}

cond_stays : (test : Bool) (p q r : Option Bool) (b : Bool) → (q ≡ Some b → r ≡ Some b) → cond test p q ≡ Some b → cond test p r ≡ Some b
cond_stays true p q r b f h = h
cond_stays false p q r b f h = f h

pub stays : (t u : List Literal) (v : ℕ) (b : Bool) → value_in t v ≡ Some b → value_in (t ++ u) v ≡ Some b
stays [] u v b h = absurd (grind arith)
stays (x ∷ t) u v b h = cond_stays (eqb x.variable v) (Some x.positive) (value_in t v) (value_in (t ++ u) v) b (stays t u v b) h

cond_none : (test : Bool) (p : Bool) (q : Option Bool) → cond test (Some p) q ≡ None → (test ≡ false) × (q ≡ None)
cond_none true p q h = absurd (grind arith)
cond_none false p q h = (refl, h)

pub push_same : (t : List Literal) (l : Literal) → value_in t l.variable ≡ None → value_in (t ++ l ∷ []) l.variable ≡ Some l.positive
push_same [] l h = grind (arith, tests)
push_same (x ∷ t) l h =
    let e = cond_none (eqb x.variable l.variable) x.positive (value_in t l.variable) h in
    rw e.0 (push_same t l e.1)

pub push_other : (t : List Literal) (l : Literal) (v : ℕ) → l.variable ≢ v → value_in (t ++ l ∷ []) v ≡ value_in t v
push_other [] l v h = grind (arith, tests)
push_other (x ∷ t) l v h = ap (cond (eqb x.variable v) (Some x.positive)) (push_other t l v h)

pub push_tabled : (n : ℕ) (values : List (Option Bool)) (t : List Literal) (l : Literal) → length values ≡ n → l.variable < n → Tabled n values t → value_in t l.variable ≡ None → Tabled n (set values l.variable (Some l.positive)) (t ++ l ∷ [])
push_tabled n values t l e b h o v w = elim (cases_eq l.variable v) [
  | inl same ↦ subst (λ u. get_or (set values l.variable (Some l.positive)) u None ≡ value_in (t ++ l ∷ []) u) same (get_or-set_same values l.variable (Some l.positive) None (omega (arith, e, b)) ∙ sym (push_same t l o))
  | inr other ↦ get_or-set_other values l.variable v (Some l.positive) None (λ q. other (sym q)) ∙ h v w ∙ sym (push_other t l v other)
]

pub pop_fresh : (t : List Literal) (l : Literal) → IsFresh (t ++ l ∷ []) → value_in t l.variable ≡ None
pop_fresh t l h =
    let a = h (length t) l (omega (arith, length_push t l)) in
    let b : take (length t) (t ++ l ∷ []) ≡ t = take_at t (l ∷ []) (length t) refl in
    let d : get_or (t ++ l ∷ []) (length t) l ≡ l = get_or_push t l l (length t) refl in
    let e : value_in t (get_or (t ++ l ∷ []) (length t) l).variable ≡ None = subst (λ s. value_in s (get_or (t ++ l ∷ []) (length t) l).variable ≡ None) b a in
    subst (λ m. value_in t m.variable ≡ None) d e

pub pop_tabled : (n : ℕ) (values : List (Option Bool)) (t : List Literal) (l : Literal) → length values ≡ n → l.variable < n → Tabled n values (t ++ l ∷ []) → IsFresh (t ++ l ∷ []) → Tabled n (set values l.variable None) t
pop_tabled n values t l e b h f v w = elim (cases_eq l.variable v) [
  | inl same ↦ subst (λ u. get_or (set values l.variable None) u None ≡ value_in t u) same (get_or-set_same values l.variable None None (omega (arith, e, b)) ∙ sym (pop_fresh t l f))
  | inr other ↦ get_or-set_other values l.variable v None None (λ q. other (sym q)) ∙ h v w ∙ push_other t l v other
]

pub push_fresh : (t : List Literal) (l : Literal) → IsFresh t → value_in t l.variable ≡ None → IsFresh (t ++ l ∷ [])
push_fresh t l f o k d w = elim (cases_eq k (length t)) [
  | inl same ↦ subst (λ j. value_in (take j (t ++ l ∷ [])) (get_or (t ++ l ∷ []) j d).variable ≡ None) (sym same)
      (subst (λ s. value_in s (get_or (t ++ l ∷ []) (length t) d).variable ≡ None) (sym (take_at t (l ∷ []) (length t) refl))
      (subst (λ m. value_in t m.variable ≡ None) (sym (get_or_push t l d (length t) refl)) o))
  | inr other ↦
      let w' : k < length t = omega (arith, length_push t l, other, w) in
      subst (λ s. value_in s (get_or (t ++ l ∷ []) k d).variable ≡ None) (sym (take-append-le k t (l ∷ []) (omega arith)))
      (subst (λ m. value_in (take k t) m.variable ≡ None) (sym (get_or_append_left t (l ∷ []) d k w')) (f k d w'))
]

pub pop_fresh_rest : (t : List Literal) (l : Literal) → IsFresh (t ++ l ∷ []) → IsFresh t
pop_fresh_rest t l f k d w =
    let a = f k d (omega (arith, length_push t l)) in
    subst (λ m. value_in (take k t) m.variable ≡ None) (get_or_append_left t (l ∷ []) d k w)
    (subst (λ s. value_in s (get_or (t ++ l ∷ []) k d).variable ≡ None) (take-append-le k t (l ∷ []) (omega arith)) a)

pub push_below : (n : ℕ) (t : List Literal) (l : Literal) → AllBelow n t → l.variable < n → AllBelow n (t ++ l ∷ [])
push_below n t l h b i d w = elim (cases_eq i (length t)) [
  | inl same ↦ rw (get_or_push t l d i (sym same)) b
  | inr other ↦ rw (get_or_append_left t (l ∷ []) d i (omega (arith, length_push t l, other, w))) (h i d (omega (arith, length_push t l, other, w)))
]

pub pop_below : (n : ℕ) (t : List Literal) (l : Literal) → AllBelow n (t ++ l ∷ []) → AllBelow n t × (l.variable < n)
pop_below n t l h = (
  λ i d w. subst (λ m. m.variable < n) (get_or_append_left t (l ∷ []) d i w) (h i d (omega (arith, length_push t l))),
  subst (λ m. m.variable < n) (get_or_push t l l (length t) refl) (h (length t) l (omega (arith, length_push t l))),
)

pub count_replicate : (n : ℕ) → count_none (replicate n None) ≡ n
count_replicate zero = refl
count_replicate (suc n) = omega (arith, count_replicate n)

pub count_assign : (xs : List (Option Bool)) (i : ℕ) (b : Bool) → i < length xs → get_or xs i None ≡ None → count_none (set xs i (Some b)) + 1 ≡ count_none xs
count_assign [] i b w h = absurd (omega arith)
count_assign (None ∷ xs) zero b w h = omega arith
count_assign (Some x ∷ xs) zero b w h = absurd (grind arith)
count_assign (None ∷ xs) (suc i) b w h = omega (arith, count_assign xs i b (omega arith) h)
count_assign (Some x ∷ xs) (suc i) b w h = count_assign xs i b (omega arith) h

pub count_undo : (xs : List (Option Bool)) (i : ℕ) (b : Bool) → i < length xs → get_or xs i None ≡ Some b → count_none (set xs i None) ≡ count_none xs + 1
count_undo [] i b w h = absurd (omega arith)
count_undo (None ∷ xs) zero b w h = absurd (grind arith)
count_undo (Some x ∷ xs) zero b w h = omega arith
count_undo (None ∷ xs) (suc i) b w h = omega (arith, count_undo xs i b (omega arith) h)
count_undo (Some x ∷ xs) (suc i) b w h = count_undo xs i b (omega arith) h
