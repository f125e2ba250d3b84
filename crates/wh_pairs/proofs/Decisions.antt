-- Whether a candidate is dropped is decided, so candidates have a list of pairs.
use Rattle.std.proofs.Common.{◌≡◌, ℕ, Bool, true, false, List, [], ◌∷◌, Option, Some, None, ◌⊎◌, inl, inr, refl, ap, ap₂, sym, subst, ◌∙◌}
use Rattle.std.specs.Prelude.{Contains, slice_get}
use Rattle.std.proofs.lemmas.Bool.{cases_eq}
use Rattle.wh_types.specs.Ty.{Ty, same_ty}
use Rattle.wh_terms.specs.Tree.{Tm, bound, free, fun, meta, lam, app, Tms, none, more, tms_of}
use Rattle.wh_terms.specs.Typing.{Declared}
use Rattle.wh_terms.specs.Sight.{Occurs, OccursIn}
use Rattle.wh_terms.proofs.TypeTests.{same_ty-self, same_ty-equal}
use Rattle.wh_pairs.specs.PairData.{PairData, Within}
use Rattle.wh_pairs.specs.Conditions.{AreAmong}
use Rattle.wh_pairs.specs.Subsumption.{EqualSides, IsSubsumed, IsDropped, for_earlier, for_later, AreLeft, none_left, one_dropped, one_kept}
use Rattle.wh_pairs.proofs.MemberLemmas.{none_there, at_head, behind, head_or_behind}

abbrev Decided : Type 0 → Type 0
Decided P = P ⊎ (P → ⊥)

two : {P Q R : Type 0} → (P → Q → R) → (R → P) → (R → Q) → Decided P → Decided Q → Decided R
two join left right (inl p) (inl q) = inl (join p q)
two join left right (inl p) (inr q) = inr (λ r. q (right r))
two join left right (inr p) d = inr (λ r. p (left r))

one : {P Q : Type 0} → (P → Q) → (Q → P) → Decided P → Decided Q
one there back (inl p) = inl (there p)
one there back (inr p) = inr (λ q. p (back q))

-- types and trees

decided-ty : (a b : Ty) → Decided (a ≡ b)
decided-ty a b = go (same_ty a b) refl
  where
    go : (c : Bool) → same_ty a b ≡ c → Decided (a ≡ b)
    go true e = inl (same_ty-equal a b e)
    go false e = inr (λ same. let yes : same_ty a b ≡ true = ap (same_ty a) (sym same) ∙ same_ty-self a in cc)

mutual
  decided-tm : (t u : Tm) → Decided (t ≡ u)
  decided-tm (bound i) (bound j) = one (ap bound) (λ e. cc) (cases_eq i j)
  decided-tm (free x a) (free y b) = two (ap₂ free) (λ e. cc) (λ e. cc) (cases_eq x y) (decided-ty a b)
  decided-tm (fun f) (fun g) = one (ap fun) (λ e. cc) (cases_eq f g)
  decided-tm (meta z ts) (meta y us) = two (ap₂ meta) (λ e. cc) (λ e. cc) (cases_eq z y) (decided-tms ts us)
  decided-tm (lam a t) (lam b u) = two (ap₂ lam) (λ e. cc) (λ e. cc) (decided-ty a b) (decided-tm t u)
  decided-tm (app t u) (app v w) = two (ap₂ app) (λ e. cc) (λ e. cc) (decided-tm t v) (decided-tm u w)
  decided-tm t u = inr (λ e. cc)

  decided-tms : (ts us : Tms) → Decided (ts ≡ us)
  decided-tms none none = inl refl
  decided-tms (more t ts) (more u us) = two (ap₂ more) (λ e. cc) (λ e. cc) (decided-tm t u) (decided-tms ts us)
  decided-tms ts us = inr (λ e. cc)

decided-list : {A : Type 0} → ((x y : A) → Decided (x ≡ y)) → (xs ys : List A) → Decided (xs ≡ ys)
decided-list dec [] [] = inl refl
decided-list dec (x ∷ xs) (y ∷ ys) = two (ap₂ (λ z zs. z ∷ zs)) (λ e. cc) (λ e. cc) (dec x y) (decided-list dec xs ys)
decided-list dec [] (y ∷ ys) = inr (λ e. cc)
decided-list dec (x ∷ xs) [] = inr (λ e. cc)

decided-declared : (d e : Declared) → Decided (d ≡ e)
decided-declared d e = two (ap₂ (λ us b. record { args = us; out = b })) (ap (λ f. f.args)) (ap (λ f. f.out)) (decided-list decided-ty d.args e.args) (decided-ty d.out e.out)

decided-option : (o p : Option Declared) → Decided (o ≡ p)
decided-option None None = inl refl
decided-option (Some d) (Some e) = one (ap (λ f. Some f)) (λ f. cc) (decided-declared d e)
decided-option None (Some e) = inr (λ f. cc)
decided-option (Some d) None = inr (λ f. cc)

decided-within : (c d : Within) → Decided (c ≡ d)
decided-within c d = two (ap₂ (λ z i. record { meta = z; place = i })) (ap (λ e. e.meta)) (ap (λ e. e.place)) (cases_eq c.meta d.meta) (cases_eq c.place d.place)

-- what holds of each meta-variable that occurs

at-meta : (P : ℕ → Type 0) (y : ℕ) (ts : Tms) → P y → ((z : ℕ) → OccursIn z ts → P z) → (z : ℕ) → (y ≡ z) ⊎ OccursIn z ts → P z
at-meta P y ts here all z (inl e) = subst P e here
at-meta P y ts here all z (inr o) = all z o

at-either : (P Q R : ℕ → Type 0) → ((z : ℕ) → Q z → P z) → ((z : ℕ) → R z → P z) → (z : ℕ) → Q z ⊎ R z → P z
at-either P Q R f g z (inl o) = f z o
at-either P Q R f g z (inr o) = g z o

mutual
  each-occurring : (P : ℕ → Type 0) → ((z : ℕ) → Decided (P z)) → (t : Tm) → Decided ((z : ℕ) → Occurs z t → P z)
  each-occurring P dec (bound i) = inl (λ z o. absurd o)
  each-occurring P dec (free x a) = inl (λ z o. absurd o)
  each-occurring P dec (fun f) = inl (λ z o. absurd o)
  each-occurring P dec (meta y ts) =
      two (λ here all. at-meta P y ts here all) (λ all. all y (inl refl)) (λ all z o. all z (inr o)) (dec y) (each-occurring-in P dec ts)
  each-occurring P dec (lam a t) = each-occurring P dec t
  each-occurring P dec (app t u) =
      two (λ f g. at-either P (λ z. Occurs z t) (λ z. Occurs z u) f g) (λ all z o. all z (inl o)) (λ all z o. all z (inr o)) (each-occurring P dec t) (each-occurring P dec u)

  each-occurring-in : (P : ℕ → Type 0) → ((z : ℕ) → Decided (P z)) → (ts : Tms) → Decided ((z : ℕ) → OccursIn z ts → P z)
  each-occurring-in P dec none = inl (λ z o. absurd o)
  each-occurring-in P dec (more t ts) =
      two (λ f g. at-either P (λ z. Occurs z t) (λ z. OccursIn z ts) f g) (λ all z o. all z (inl o)) (λ all z o. all z (inr o)) (each-occurring P dec t) (each-occurring-in P dec ts)

-- members

some-member : {A : Type 0} (P : A → Type 0) → ((x : A) → Decided (P x)) → (xs : List A) → Decided ((x : A) × Contains xs x × P x)
some-member P dec [] = inr (λ (x, at, p). none_there x at)
some-member {A = A} P dec (y ∷ ys) = go (dec y) (some-member P dec ys)
  where
    back : (P y → ⊥) → ((x : A) × Contains ys x × P x → ⊥) → (x : A) × Contains (y ∷ ys) x × P x → ⊥
    back here there (x, at, p) = found (head_or_behind ys y x at)
      where
        found : (y ≡ x) ⊎ Contains ys x → ⊥
        found (inl e) = here (subst P (sym e) p)
        found (inr at) = there (x, at, p)

    go : Decided (P y) → Decided ((x : A) × Contains ys x × P x) → Decided ((x : A) × Contains (y ∷ ys) x × P x)
    go (inl p) there = inl (y, at_head ys y, p)
    go (inr here) (inl (x, at, p)) = inl (x, behind ys y x at, p)
    go (inr here) (inr there) = inr (back here there)

each-member : {A : Type 0} (P : A → Type 0) → ((x : A) → Decided (P x)) → (xs : List A) → Decided ((x : A) → Contains xs x → P x)
each-member P dec [] = inl (λ x at. absurd (none_there x at))
each-member {A = A} P dec (y ∷ ys) = two both (λ all. all y (at_head ys y)) (λ all x at. all x (behind ys y x at)) (dec y) (each-member P dec ys)
  where
    both : P y → ((x : A) → Contains ys x → P x) → (x : A) → Contains (y ∷ ys) x → P x
    both here all x at = found (head_or_behind ys y x at)
      where
        found : (y ≡ x) ⊎ Contains ys x → P x
        found (inl e) = subst P e here
        found (inr at) = all x at

decided-in : (cs : List Within) (c : Within) → Decided (Contains cs c)
decided-in cs c = one (λ (x, at, e). subst (λ d. Contains cs d) e at) (λ at. (c, at, refl)) (some-member (λ d. d ≡ c) (λ d. decided-within d c) cs)

decided-among : (few many : List Within) → Decided (AreAmong few many)
decided-among few many = each-member (λ c. Contains many c) (decided-in many) few

-- subsumption

abbrev SameHead : PairData → PairData → Type 0
SameHead a b = (a.rule ≡ b.rule) × (a.right_fun ≡ b.right_fun)

abbrev SameTypes : PairData → PairData → Type 0
SameTypes a b = (z : ℕ) → OccursIn z (tms_of a.right) → slice_get a.metas z ≡ slice_get b.metas z

decided-head : (a b : PairData) → Decided (SameHead a b)
decided-head a b = two (λ r s. (r, s)) (λ p. p.0) (λ p. p.1) (cases_eq a.rule b.rule) (cases_eq a.right_fun b.right_fun)

decided-right : (a b : PairData) → Decided ((a.right ≡ b.right) × SameTypes a b)
decided-right a b =
    two (λ t u. (t, u)) (λ p. p.0) (λ p. p.1) (decided-list decided-tm a.right b.right)
    (each-occurring-in (λ z. slice_get a.metas z ≡ slice_get b.metas z) (λ z. decided-option (slice_get a.metas z) (slice_get b.metas z)) (tms_of a.right))

decided-sides : (a b : PairData) → Decided (EqualSides a b)
decided-sides a b =
    two {P = SameHead a b} {Q = (a.right ≡ b.right) × SameTypes a b} (λ p q. record { rule = p.0; symbol = p.1; arguments = q.0; types = q.1 }) (λ e. (e.rule, e.symbol)) (λ e. (e.arguments, e.types))
    (decided-head a b) (decided-right a b)

pub decided-subsumed : (a b : PairData) → Decided (IsSubsumed a b)
decided-subsumed a b = two (λ s c. record { sides = s; conditions = c }) (λ s. s.sides) (λ s. s.conditions) (decided-sides a b) (decided-among b.conditions a.conditions)

-- a later candidate with a proper part of the conditions
abbrev DropsBefore : PairData → PairData → Type 0
DropsBefore c b = IsSubsumed c b × (AreAmong c.conditions b.conditions → ⊥)

decided-not : {P : Type 0} → Decided P → Decided (P → ⊥)
decided-not (inl p) = inr (λ n. n p)
decided-not (inr n) = inl n

decided-before : (c b : PairData) → Decided (DropsBefore c b)
decided-before c b = two (λ s n. (s, n)) (λ p. p.0) (λ p. p.1) (decided-subsumed c b) (decided-not (decided-among c.conditions b.conditions))

decided-dropped : (before : List PairData) (c : PairData) (after : List PairData) → Decided (IsDropped before c after)
decided-dropped before c after = go (some-member (IsSubsumed c) (decided-subsumed c) before) (some-member (DropsBefore c) (decided-before c) after)
  where
    neither : ((b : PairData) × Contains before b × IsSubsumed c b → ⊥) → ((b : PairData) × Contains after b × DropsBefore c b → ⊥) → IsDropped before c after → ⊥
    neither early late (for_earlier {b = b} at s) = early (b, at, s)
    neither early late (for_later {b = b} at s n) = late (b, at, (s, n))

    go : Decided ((b : PairData) × Contains before b × IsSubsumed c b) → Decided ((b : PairData) × Contains after b × DropsBefore c b) → Decided (IsDropped before c after)
    go (inl (b, at, s)) late = inl (for_earlier at s)
    go (inr early) (inl (b, at, d)) = inl (for_later at d.0 d.1)
    go (inr early) (inr late) = inr (neither early late)

-- there are pairs
pub some_left : (before after : List PairData) → (pairs : List PairData) × AreLeft before after pairs
some_left before [] = ([], none_left)
some_left before (c ∷ after) = go (decided-dropped before c after) (some_left (c ∷ before) after)
  where
    go : Decided (IsDropped before c after) → (pairs : List PairData) × AreLeft (c ∷ before) after pairs → (pairs : List PairData) × AreLeft before (c ∷ after) pairs
    go (inl d) (pairs, l) = (pairs, one_dropped d l)
    go (inr n) (pairs, l) = (c ∷ pairs, one_kept n l)
