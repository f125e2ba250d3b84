-- Parts of plans, and when some of them are met.
use Rattle.std.proofs.Common.{◌≡◌, ℕ, zero, suc, ◌+◌, ◌<◌, Bool, true, false, ◌||◌, List, [], ◌∷◌, ◌++◌, length, refl, ap, ◌∙◌, sym, subst, Some, slice_get, arith}
use Rattle.wh_terms.specs.Tree.{Tm}
use Rattle.wh_order_inference.specs.Filters.{Filter}
use Rattle.wh_order_demands.specs.declared.claim.Claim.{Claim}
use Rattle.wh_order_demands.specs.Claims.{Holds}
use Rattle.wh_order_demands.specs.Plans.{PartData, part_of, left_parts, right_parts, pair_parts, IsSomeMet}

-- a bit that cannot be set
pub not_set : (b : Bool) → (b ≡ true → ⊥) → b ≡ false
not_set true never = absurd (never refl)
not_set false never = refl

one_of : {A : Type 0} {a b : A} → Some a ≡ Some b → a ≡ b
one_of e = cc

pub at_left : {A : Type 0} (ps qs : List A) (k : ℕ) (p : A) → slice_get ps k ≡ Some p → slice_get (ps ++ qs) k ≡ Some p
at_left [] qs k p e = absurd (cc)
at_left (q ∷ ps) qs zero p e = e
at_left (q ∷ ps) qs (suc k) p e = at_left ps qs k p e

pub at_right : {A : Type 0} (ps qs : List A) (k : ℕ) (p : A) → slice_get qs k ≡ Some p → slice_get (ps ++ qs) (length ps + k) ≡ Some p
at_right [] qs k p e = let same : k ≡ 0 + k = omega arith in subst (λ n. slice_get qs n ≡ Some p) same e
at_right (q ∷ ps) qs k p e =
    let same : suc (length ps + k) ≡ suc (length ps) + k = omega arith in
    subst (λ n. slice_get (q ∷ (ps ++ qs)) n ≡ Some p) same (at_right ps qs k p e)

pub below_at : {A : Type 0} (ts : List A) (i : ℕ) (u : A) → slice_get ts i ≡ Some u → i < length ts
below_at [] i u e = absurd (cc)
below_at (t ∷ ts) zero u e = omega arith
below_at (t ∷ ts) (suc i) u e = omega (arith, below_at ts i u e)

same_part : (c : Claim) {x y x' y' : ℕ} {s t s' t' : Tm} → x ≡ x' → y ≡ y' → s ≡ s' → t ≡ t' → part_of x y c s t ≡ part_of x' y' c s' t'
same_part c e f g h = cc

next_is : (x i : ℕ) → suc x + i ≡ x + suc i
next_is x i = omega arith

none_is : (x : ℕ) → x ≡ x + 0
none_is x = omega arith

left_at : (x y : ℕ) (c : Claim) (ss : List Tm) (t : Tm) (i : ℕ) (u : Tm) → slice_get ss i ≡ Some u → slice_get (left_parts x y c ss t) i ≡ Some (part_of (x + i) (y + i) c u t)
left_at x y c [] t i u e = absurd (cc)
left_at x y c (s ∷ ss) t zero u e = ap Some (same_part c (none_is x) (none_is y) (one_of e) refl)
left_at x y c (s ∷ ss) t (suc i) u e = left_at (suc x) (suc y) c ss t i u e ∙ ap Some (same_part c {s = u} {t = t} (next_is x i) (next_is y i) refl refl)

right_at : (x y : ℕ) (c : Claim) (s : Tm) (ts : List Tm) (i : ℕ) (u : Tm) → slice_get ts i ≡ Some u → slice_get (right_parts x y c s ts) i ≡ Some (part_of (x + i) (y + i) c s u)
right_at x y c s [] i u e = absurd (cc)
right_at x y c s (t ∷ ts) zero u e = ap Some (same_part c (none_is x) (none_is y) refl (one_of e))
right_at x y c s (t ∷ ts) (suc i) u e = right_at (suc x) (suc y) c s ts i u e ∙ ap Some (same_part c {s = s} {t = u} (next_is x i) (next_is y i) refl refl)

pub pair_at : (x y : ℕ) (c : Claim) (ss ts : List Tm) (i : ℕ) (s t : Tm) → slice_get ss i ≡ Some s → slice_get ts i ≡ Some t
    → slice_get (pair_parts x y c ss ts) i ≡ Some (part_of (x + i) (y + i) c s t)
pair_at x y c [] ts i s t e f = absurd (cc)
pair_at x y c (a ∷ ss) [] i s t e f = absurd (cc)
pair_at x y c (a ∷ ss) (b ∷ ts) zero s t e f = ap Some (same_part c (none_is x) (none_is y) (one_of e) (one_of f))
pair_at x y c (a ∷ ss) (b ∷ ts) (suc i) s t e f =
    pair_at (suc x) (suc y) c ss ts i s t e f ∙ ap Some (same_part c {s = s} {t = t} (next_is x i) (next_is y i) refl refl)

-- what stands at a place of a list of parts
pub right_is : (x y : ℕ) (c : Claim) (s : Tm) (ts : List Tm) (k : ℕ) (p : PartData) → slice_get (right_parts x y c s ts) k ≡ Some p
    → (u : Tm) × (slice_get ts k ≡ Some u) × (part_of (x + k) (y + k) c s u ≡ p)
right_is x y c s [] k p e = absurd (cc)
right_is x y c s (t ∷ ts) zero p e = (t, refl, same_part c {s = s} {t = t} (sym (none_is x)) (sym (none_is y)) refl refl ∙ one_of e)
right_is x y c s (t ∷ ts) (suc k) p e =
    let (u, at, same) = right_is (suc x) (suc y) c s ts k p e in
    (u, at, same_part c {s = s} {t = u} (sym (next_is x k)) (sym (next_is y k)) refl refl ∙ same)

pub pair_is : (x y : ℕ) (c : Claim) (ss ts : List Tm) (k : ℕ) (p : PartData) → slice_get (pair_parts x y c ss ts) k ≡ Some p
    → (s t : Tm) × (slice_get ss k ≡ Some s) × (slice_get ts k ≡ Some t) × (part_of (x + k) (y + k) c s t ≡ p)
pair_is x y c [] ts k p e = absurd (cc)
pair_is x y c (s ∷ ss) [] k p e = absurd (cc)
pair_is x y c (s ∷ ss) (t ∷ ts) zero p e = (s, t, refl, refl, same_part c {s = s} {t = t} (sym (none_is x)) (sym (none_is y)) refl refl ∙ one_of e)
pair_is x y c (s ∷ ss) (t ∷ ts) (suc k) p e =
    let (a, b, at, there, same) = pair_is (suc x) (suc y) c ss ts k p e in
    (a, b, at, there, same_part c {s = a} {t = b} (sym (next_is x k)) (sym (next_is y k)) refl refl ∙ same)

set_first : {a : Bool} (b : Bool) → a ≡ true → (a || b) ≡ true
set_first b e = ap (λ a. a || b) e

module _ (v : ℕ → Bool) (Φ : ℕ → Filter) where
  pub met_left : (ps qs : List PartData) → IsSomeMet v Φ ps → IsSomeMet v Φ (ps ++ qs)
  met_left ps qs m = record { place = m.place; part = m.part; at = at_left ps qs m.place m.part m.at; set = m.set; holds_of = m.holds_of }

  pub met_right : (ps qs : List PartData) → IsSomeMet v Φ qs → IsSomeMet v Φ (ps ++ qs)
  met_right ps qs m = record { place = length ps + m.place; part = m.part; at = at_right ps qs m.place m.part m.at; set = m.set; holds_of = m.holds_of }

  -- where the first bit of the part is set
  pub left_met : (x y : ℕ) (c : Claim) (ss : List Tm) (t : Tm) (i : ℕ) (u : Tm) → slice_get ss i ≡ Some u → v (x + i) ≡ true → Holds Φ c u t
      → IsSomeMet v Φ (left_parts x y c ss t)
  left_met x y c ss t i u at set h =
      record { place = i; part = part_of (x + i) (y + i) c u t; at = left_at x y c ss t i u at; set = set_first (v (y + i)) set; holds_of = h }

  pub right_met : (x y : ℕ) (c : Claim) (s : Tm) (ts : List Tm) (i : ℕ) (u : Tm) → slice_get ts i ≡ Some u → v (x + i) ≡ true → Holds Φ c s u
      → IsSomeMet v Φ (right_parts x y c s ts)
  right_met x y c s ts i u at set h =
      record { place = i; part = part_of (x + i) (y + i) c s u; at = right_at x y c s ts i u at; set = set_first (v (y + i)) set; holds_of = h }

  -- or its second one
  pub left_met_by : (x y : ℕ) (c : Claim) (ss : List Tm) (t : Tm) (i : ℕ) (u : Tm) → slice_get ss i ≡ Some u → v (y + i) ≡ true → Holds Φ c u t
      → IsSomeMet v Φ (left_parts x y c ss t)
  left_met_by x y c ss t i u at set h =
      record { place = i; part = part_of (x + i) (y + i) c u t; at = left_at x y c ss t i u at; set = set_second (v (x + i)) set; holds_of = h }
    where
      set_second : (a : Bool) {b : Bool} → b ≡ true → (a || b) ≡ true
      set_second true e = refl
      set_second false e = e
