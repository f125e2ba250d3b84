-- A tree that fits, with another part at a place: what is to be known of the part and the place to know that it fits.
use Rattle.std.proofs.Common.{◌≡◌, ℕ, zero, suc, ◌+◌, ◌-◌, ◌<◌, ◌≤◌, List, [], ◌∷◌, Option, Some, None}
use Rattle.std.proofs.Common.{refl, ap, sym, ◌∙◌, subst, arith}
use Rattle.std.specs.Prelude.{Bool, true, false, ◌↔◌}
use Rattle.wh_types.specs.Ty.{Ty}
use Rattle.wh_terms.specs.Tree.{Tm, bound, free, fun, meta, lam, app, argument_count}
use Rattle.wh_terms.specs.Measures.{size, height, risen, SpinesWithin, Fits}
use Rattle.wh_terms.specs.Places.{part_at}
use Rattle.wh_step.specs.Roots.{put_at}
use Rattle.wh_step.specs.Context.{reach, is_front, one_more_if, joined_arguments, FitsThere, IsJoint, Joins, IsMeasured, NewSize}
use Rattle.wh_step.specs.declared.joint.Joint.{Joint}
use Rattle.wh_step.proofs.PlaceLemmas.{along}
use Rattle.wh_step.proofs.ExtentLemmas.{fits_function, fits_argument, fits_body}
use Rattle.wh_step.specs.declared.extent.Extent.{Extent}

-- the size

pub size_put : (v r : Tm) (path : List ℕ) (t : Tm) → part_at path t ≡ Some r → size (put_at path v t) + size r ≡ size t + size v
size_put v r =
    along r (λ path t. size (put_at path v t) + size r ≡ size t + size v)
    (λ t e. ap (λ s. size v + size s) (sym e) ∙ omega arith)
    (λ path t u e h. omega (arith, h))
    (λ path t u e h. omega (arith, h))
    (λ path a t e h. omega (arith, h))

-- the height

risen_is : (t : Tm) (n : ℕ) → risen t n ≡ n + risen t 0
risen_is (app t u) n = omega arith
risen_is (bound i) n = omega arith
risen_is (free x a) n = omega arith
risen_is (fun f) n = omega arith
risen_is (meta z ts) n = omega arith
risen_is (lam a t) n = omega arith

pub reach_within : (v r : Tm) (path : List ℕ) (t : Tm) → part_at path t ≡ Some r → reach path v t ≤ height (put_at path v t)
reach_within v r =
    along r (λ path t. reach path v t ≤ height (put_at path v t))
    (λ t e. omega arith)
    (λ path t u e h. omega (arith, h, risen_is (put_at path v t) (reach path v t), risen_is (put_at path v t) (height (put_at path v t))))
    (λ path t u e h. omega (arith, h))
    (λ path a t e h. omega (arith, h))

-- below the root of a tree a new part changes none of the tree's own shape
risen_put : (v r : Tm) (path : List ℕ) (t : Tm) (d : ℕ) (q : List ℕ) → path ≡ d ∷ q → part_at path t ≡ Some r → (n : ℕ)
    → risen (put_at path v t) n ≡ risen t n
risen_put v r path t d q is e =
    along r (λ p s. (d : ℕ) (q : List ℕ) → p ≡ d ∷ q → (n : ℕ) → risen (put_at p v s) n ≡ risen s n)
    (λ t e d q is n. absurd (cc))
    (λ path t u e h d q is n. refl)
    (λ path t u e h d q is n. refl)
    (λ path a t e h d q is n. refl)
    path t e d q is

-- what is known of a tree below whose root a part is put
abbrev Around : List ℕ → Tm → ℕ → Type 0
Around [] t n = Unit {0}
Around (d ∷ path) t n = height t ≤ n

abbrev Low : Tm → List ℕ → Tm → Type 0
Low v path t = (n : ℕ) → Around path t n → reach path v t ≤ n → height (put_at path v t) ≤ n

low_front : (v r : Tm) (path : List ℕ) (t u : Tm) → part_at path t ≡ Some r → Low v path t → Low v (0 ∷ path) (app t u)
low_front v r [] t u e h n around within = omega (arith, within, around)
low_front v r (d ∷ path) t u e h n around within =
    let s = put_at (d ∷ path) v t in
    let same : risen s 0 ≡ risen t 0 = risen_put v r (d ∷ path) t d path refl e 0 in
    let old = risen_is t (height t) in
    let reached = risen_is s (reach (d ∷ path) v t) in
    let below : height s ≤ n - risen t 0 = h (n - risen t 0) (omega (arith, around, old)) (omega (arith, within, same, reached)) in
    omega (arith, below, same, around, within, risen_is s (height s), old, reached)

around_part : (path : List ℕ) (t : Tm) (n : ℕ) → height t ≤ n → Around path t n
around_part [] t n h = tt
around_part (d ∷ path) t n h = h

low_below : (v : Tm) (path : List ℕ) (t : Tm) (n : ℕ) → Low v path t → 1 + height t ≤ n → 1 + reach path v t ≤ n
    → 1 + height (put_at path v t) ≤ n
low_below v path t n low around within =
    let below = low (n - 1) (around_part path t (n - 1) (omega (arith, around))) (omega (arith, within)) in
    omega (arith, around, below)

pub low_put : (v r : Tm) (path : List ℕ) (t : Tm) → part_at path t ≡ Some r → (n : ℕ) → height t ≤ n → reach path v t ≤ n
    → height (put_at path v t) ≤ n
low_put v r path t e n h within =
    along r (Low v)
    (λ t e n around within. within)
    (λ path t u e h. low_front v r path t u e h)
    (λ path t u e h n around within. omega (arith, around, low_below v path u n h (omega (arith, around)) within))
    (λ path a t e h n around within. low_below v path t n h around within)
    path t e n (around_part path t n h) within

-- the widths of spines

count_within : (n : ℕ) (t : Tm) → SpinesWithin n t → argument_count t ≤ n
count_within n (app t u) h = h.0
count_within n (bound i) h = omega arith
count_within n (free x a) h = omega arith
count_within n (fun f) h = omega arith
count_within n (meta z ts) h = omega arith
count_within n (lam a t) h = omega arith

-- the spine at the root has as many arguments as the one that the part joins, or as many as before
abbrev counted : Bool → ℕ → ℕ → ℕ
counted true m n = m
counted false m n = n

counted-next : (b : Bool) (m n : ℕ) → counted b m n + 1 ≡ counted b (one_more_if b m) (n + 1)
counted-next true m n = refl
counted-next false m n = refl

pub count_put : (v r : Tm) (path : List ℕ) (t : Tm) → part_at path t ≡ Some r
    → argument_count (put_at path v t) ≡ counted (is_front path t) (joined_arguments path v t) (argument_count t)
count_put v r =
    along r (λ path t. argument_count (put_at path v t) ≡ counted (is_front path t) (joined_arguments path v t) (argument_count t))
    (λ t e. refl)
    (λ path t u e h. ap (λ n. n + 1) h ∙ counted-next (is_front path t) (joined_arguments path v t) (argument_count t))
    (λ path t u e h. refl)
    (λ path a t e h. refl)

joins : (b : Bool) (j m n k : ℕ) → k ≡ counted b j m → m + 1 ≤ n → one_more_if b j ≤ n → (k + 1 ≤ n) × (j ≤ n)
joins true j m n k is old within = (omega (arith, is, within), omega (arith, within))
joins false j m n k is old within = (omega (arith, is, old), within)

joined : (b : Bool) (j m n k : ℕ) → k ≡ counted b j m → k + 1 ≤ n → j ≤ n → one_more_if b j ≤ n
joined true j m n k is new below = omega (arith, is, new)
joined false j m n k is new below = below

pub narrow_put : (n : ℕ) (v r : Tm) → SpinesWithin n v → (path : List ℕ) (t : Tm) → part_at path t ≡ Some r → SpinesWithin n t
    → joined_arguments path v t ≤ n → SpinesWithin n (put_at path v t)
narrow_put n v r narrow =
    along r (λ path t. SpinesWithin n t → joined_arguments path v t ≤ n → SpinesWithin n (put_at path v t))
    (λ t e old within. narrow)
    (λ path t u e h old within.
    let (first, below) = joins (is_front path t) (joined_arguments path v t) (argument_count t) n _ (count_put v r path t e) old.0 within in
    (first, h old.1 below, old.2))
    (λ path t u e h old within. (old.0, old.1, h old.2 within))
    (λ path a t e h old within. h old within)

pub joined_within : (n : ℕ) (v r : Tm) (path : List ℕ) (t : Tm) → part_at path t ≡ Some r
    → SpinesWithin n (put_at path v t) → joined_arguments path v t ≤ n
joined_within n v r =
    along r (λ path t. SpinesWithin n (put_at path v t) → joined_arguments path v t ≤ n)
    (λ t e new. count_within n v new)
    (λ path t u e h new.
    joined (is_front path t) (joined_arguments path v t) (argument_count t) n _ (count_put v r path t e) new.0 (h new.1))
    (λ path t u e h new. h new.2)
    (λ path a t e h new. h new)

-- what is put into a tree fits where the whole fits
pub fits_put : (path : List ℕ) (v t r : Tm) → part_at path t ≡ Some r → Fits (put_at path v t) → Fits v
fits_put path v t r =
    along r (λ path t. Fits (put_at path v t) → Fits v)
    (λ t e f. f)
    (λ path t u e h f. h (fits_function (put_at path v t) u f))
    (λ path t u e h f. h (fits_argument t (put_at path v u) f))
    (λ path a t e h f. h (fits_body a (put_at path v t) f))
    path t

-- the tree with the part fits exactly where the part fits there
pub fits_there : (path : List ℕ) (v t r : Tm) → part_at path t ≡ Some r → Fits t → Fits (put_at path v t) ↔ FitsThere path v t r
fits_there path v t r e f = (
  λ g. record {
    part = fits_put path v t r e g;
    small = omega (arith, g.small, size_put v r path t e);
    low = omega (arith, g.low, reach_within v r path t e);
    narrow = joined_within 32 v r path t e g.narrow;
  },
  λ h. record {
    low = low_put v r path t e 200 f.low h.low;
    narrow = narrow_put 32 v r h.part.narrow path t e f.narrow h.narrow;
    small = omega (arith, h.small, size_put v r path t e);
  },
)

-- below an abstraction any number leads to the body
pub joins_body : (path : List ℕ) (d : ℕ) (rest : List ℕ) (v w : Tm) (a : Ty) (t : Tm) (o : Option Joint)
    → path ≡ d ∷ rest → w ≡ lam a t → Joins (0 ∷ rest) v (lam a t) o → Joins path v w o
joins_body path d rest v w a t o is whole h =
    subst (λ p. Joins p v w o) (sym is) (subst (λ s. Joins (d ∷ rest) v s o) (sym whole) (any d o h))
  where
    any : (d : ℕ) (o : Option Joint) → Joins (0 ∷ rest) v (lam a t) o → Joins (d ∷ rest) v (lam a t) o
    any zero o h = h
    any (suc d) (Some j) h = record { high = h.high; broad = h.broad; fronted = h.fronted; raised = h.raised }
    any (suc d) None h = h

-- what the walk along the path tells of the whole

pub part_small : (r : Tm) (path : List ℕ) (t : Tm) → part_at path t ≡ Some r → size r ≤ size t
part_small r =
    along r (λ path t. size r ≤ size t)
    (λ t e. subst (λ s. size r ≤ size s) (sym e) (omega arith))
    (λ path t u e h. omega (arith, h))
    (λ path t u e h. omega (arith, h))
    (λ path a t e h. omega (arith, h))

module _ (path : List ℕ) (v t r : Tm) (n m : ℕ) (e : Extent) (o : Option Joint) (k : IsMeasured path v t r n m e o) where
  pub resized_size : (p : ℕ) → p ≡ size v → n - m + p ≡ size (put_at path v t)
  resized_size p new = omega (arith, k.whole, k.old, new, size_put v r path t k.here, part_small r path t k.here)

  pub resized_within : (w : ℕ) → w ≡ size (put_at path v t) → (j : Joint) → o ≡ Some j → w ≤ 65536
      → NewSize (put_at path v t) (Some w)
  resized_within w sum j some within =
      let joint : IsJoint path v t j = subst (Joins path v t) some k.joins in (
        (fits_there path v t r k.here k.fits).1 (record {
          part = k.part.fits;
          small = omega (arith, within, sum, size_put v r path t k.here);
          low = omega (arith, joint.high, j.low);
          narrow = omega (arith, joint.broad, j.narrow);
        }),
        sum,
      )

  pub resized_past : (w : ℕ) → w ≡ size (put_at path v t) → 65536 < w → Fits (put_at path v t) → ⊥
  resized_past w sum past whole = absurd (omega (arith, whole.small, past, sum))

  pub resized_none : o ≡ None → Fits (put_at path v t) → ⊥
  resized_none none whole =
      let past : Joins path v t None = subst (Joins path v t) none k.joins in
      let there : FitsThere path v t r = (fits_there path v t r k.here k.fits).0 whole in
      past there.low there.narrow
