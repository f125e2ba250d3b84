-- The extent of a tree from those of its parts.
use Rattle.std.proofs.Common.{◌≡◌, ℕ, zero, suc, ◌+◌, ◌-◌, ◌≤◌, max, List, [], ◌∷◌, length, get_or, Option, Some, None, refl, ap, ap₂, sym, ◌∙◌, subst, arith, add-zero}
use Rattle.std.specs.Prelude.{Result, Ok, Err, IsErrAnd, ◌↔◌}
use Rattle.std.specs.Option.{ok_or}
use Rattle.wh_types.specs.declared.want.Or.{Or}
use Rattle.wh_types.specs.declared.want.Or.TheVariants.{NoMemory, Because}
use Rattle.wh_types.specs.Ty.{Ty}
use Rattle.wh_terms.specs.Tree.{Tm, bound, free, fun, meta, lam, app, Tms, none, more, count, argument_count}
use Rattle.wh_terms.specs.Measures.{size, sizes, height, heights, risen, SpinesWithin, AllSpinesWithin, Fits}
use Rattle.wh_terms.specs.Substitution.{rename, renames, up_renaming, cons, act, opened}
use Rattle.wh_terms.specs.Value.{parameters}
use Rattle.wh_terms.specs.Under.{ups, ups_free, raised, moved}
use Rattle.wh_terms.proofs.UnderLemmas.{ups_high, raised_bound, raised_is_act, raised_zero, act_top}
use Rattle.wh_terms.proofs.WalkLemmas.{act_at_app, act_at_bound, act_at_free, act_at_fun, act_at_lam}
use Rattle.wh_terms.proofs.ActLaws.{act_same}
use Rattle.wh_terms.proofs.BodyLemmas.{parameters-far}
use Rattle.wh_step.specs.declared.extent.Extent.{Extent}
use Rattle.wh_step.specs.declared.extent.PastLimit.{PastLimit}
use Rattle.wh_step.specs.Extents.{IsExtent, Measures, Limits, Knows, AllKnown}

-- parts of a tree that fits fit

risen-ge : (t : Tm) (n : ℕ) → n ≤ risen t n
risen-ge (app t u) n = omega arith
risen-ge (bound i) n = omega arith
risen-ge (free x a) n = omega arith
risen-ge (fun f) n = omega arith
risen-ge (meta z ts) n = omega arith
risen-ge (lam a t) n = omega arith

pub fits_function : (t u : Tm) → Fits (app t u) → Fits t
fits_function t u f =
    let low : height (app t u) ≤ 200 = f.low in
    let small : size (app t u) ≤ 65536 = f.small in
    record { low = omega (arith, risen-ge t (height t)); narrow = f.narrow.1; small = omega arith }

pub fits_argument : (t u : Tm) → Fits (app t u) → Fits u
fits_argument t u f =
    let low : height (app t u) ≤ 200 = f.low in
    let small : size (app t u) ≤ 65536 = f.small in
    record { low = omega arith; narrow = f.narrow.2; small = omega arith }

pub fits_body : (a : Ty) (t : Tm) → Fits (lam a t) → Fits t
fits_body a t f =
    let low : height (lam a t) ≤ 200 = f.low in
    let small : size (lam a t) ≤ 65536 = f.small in
    record { low = omega arith; narrow = f.narrow; small = omega arith }

-- applications and abstractions

pub measures_app : (t u : Tm) (f x : Extent) → IsExtent t f → IsExtent u x → (s h n front : ℕ) → front ≡ risen t (height t) → s ≡ f.size + x.size + 1 → h ≡ max front (x.height + 1) → n ≡ f.arguments + 1
    → (r : Result Extent (Or PastLimit)) → Limits s h n r → Measures (app t u) r
measures_app t u f x d e s h n front is sized high broad (Ok v) l =
    let sizes : s ≡ size (app t u) = omega (arith, d.sized, e.sized) in
    let heights : h ≡ height (app t u) = omega (arith, e.high) in
    let counts : n ≡ argument_count (app t u) = omega (arith, d.broad) in
    record {
      fits = record { low = omega (arith, l.1, v.low); narrow = (omega (arith, l.2, v.narrow), d.fits.narrow, e.fits.narrow); small = omega (arith, l.0, v.small) };
      sized = l.0 ∙ sizes;
      high = l.1 ∙ heights;
      broad = l.2 ∙ counts;
    }
measures_app t u f x d e s h n front is sized high broad (Err NoMemory) l = absurd l
measures_app t u f x d e s h n front is sized high broad (Err (Because p)) l = λ fits.
    let low : height (app t u) ≤ 200 = fits.low in
    let narrow : argument_count t + 1 ≤ 32 = fits.narrow.0 in
    let small : size (app t u) ≤ 65536 = fits.small in
    l (omega (arith, d.sized, e.sized)) (omega (arith, e.high)) (omega (arith, d.broad))

pub measures_lam : (a : Ty) (t : Tm) (b : Extent) → IsExtent t b → (s h : ℕ) → s ≡ b.size + 1 → h ≡ b.height + 1 → (r : Result Extent (Or PastLimit)) → Limits s h 0 r → Measures (lam a t) r
measures_lam a t b d s h sized high (Ok v) l =
    let sizes : s ≡ size (lam a t) = omega (arith, d.sized) in
    let heights : h ≡ height (lam a t) = omega (arith, d.high) in
    record {
      fits = record { low = omega (arith, l.1, v.low); narrow = d.fits.narrow; small = omega (arith, l.0, v.small) };
      sized = l.0 ∙ sizes;
      high = l.1 ∙ heights;
      broad = l.2;
    }
measures_lam a t b d s h sized high (Err NoMemory) l = absurd l
measures_lam a t b d s h sized high (Err (Because p)) l = λ fits.
    let low : height (lam a t) ≤ 200 = fits.low in
    let small : size (lam a t) ≤ 65536 = fits.small in
    l (omega (arith, d.sized)) (omega (arith, d.high)) (omega arith)

-- what is past a limit in a part is past it in the whole

pub past_function : (t u : Tm) (e : Or PastLimit) → Measures t (Err e) → Measures (app t u) (Err e)
past_function t u NoMemory m = tt
past_function t u (Because p) m = λ f. m (fits_function t u f)

pub past_argument : (t u : Tm) (e : Or PastLimit) → Measures u (Err e) → Measures (app t u) (Err e)
past_argument t u NoMemory m = tt
past_argument t u (Because p) m = λ f. m (fits_argument t u f)

pub past_body : (a : Ty) (t : Tm) (e : Or PastLimit) → Measures t (Err e) → Measures (lam a t) (Err e)
past_body a t NoMemory m = tt
past_body a t (Because p) m = λ f. m (fits_body a t f)

-- an answer that is passed on

pub passed_on : (t : Tm) (e : Or PastLimit) (r : Result Extent (Or PastLimit)) → IsErrAnd r (λ x. x ≡ e) → Measures t (Err e) → Measures t r
passed_on t e (Ok x) is m = absurd is
passed_on t e (Err x) is m = subst (λ y. Measures t (Err y)) (sym is) m

-- measured leaves, wherever they stand

pub known_extent : (t u : Tm) (e : Extent) → t ≡ u → IsExtent u e → IsExtent t e
known_extent t u e is m = subst (λ s. IsExtent s e) (sym is) m

pub measures_same : (t u : Tm) (r : Result Extent (Or PastLimit)) → t ≡ u → Measures u r → Measures t r
measures_same t u r is m = subst (λ s. Measures s r) (sym is) m

mutual
  unfolding rename renames

  size-rename : (ρ : ℕ → ℕ) (t : Tm) → size (rename ρ t) ≡ size t
  size-rename ρ (bound i) = refl
  size-rename ρ (free x a) = refl
  size-rename ρ (fun f) = refl
  size-rename ρ (meta z ts) = ap (λ n. 1 + n) (sizes-rename ρ ts)
  size-rename ρ (lam a t) = ap (λ n. 1 + n) (size-rename (up_renaming ρ) t)
  size-rename ρ (app t u) = ap₂ (λ m n. 1 + m + n) (size-rename ρ t) (size-rename ρ u)

  sizes-rename : (ρ : ℕ → ℕ) (ts : Tms) → sizes (renames ρ ts) ≡ sizes ts
  sizes-rename ρ none = refl
  sizes-rename ρ (more t ts) = ap₂ (λ m n. m + n) (size-rename ρ t) (sizes-rename ρ ts)

count-rename : (ρ : ℕ → ℕ) (t : Tm) → argument_count (rename ρ t) ≡ argument_count t
unfolding rename
count-rename ρ (bound i) = refl
count-rename ρ (free x a) = refl
count-rename ρ (fun f) = refl
count-rename ρ (meta z ts) = refl
count-rename ρ (lam a t) = refl
count-rename ρ (app t u) = ap (λ n. n + 1) (count-rename ρ t)

risen-rename : (ρ : ℕ → ℕ) (t : Tm) (n : ℕ) → risen (rename ρ t) n ≡ risen t n
unfolding rename
risen-rename ρ (bound i) n = refl
risen-rename ρ (free x a) n = refl
risen-rename ρ (fun f) n = refl
risen-rename ρ (meta z ts) n = refl
risen-rename ρ (lam a t) n = refl
risen-rename ρ (app t u) n = refl

mutual
  unfolding rename renames

  height-rename : (ρ : ℕ → ℕ) (t : Tm) → height (rename ρ t) ≡ height t
  height-rename ρ (bound i) = refl
  height-rename ρ (free x a) = refl
  height-rename ρ (fun f) = refl
  height-rename ρ (meta z none) = refl
  height-rename ρ (meta z (more t ts)) = ap₂ (λ m n. 1 + max m n) (height-rename ρ t) (heights-rename ρ ts)
  height-rename ρ (lam a t) = ap (λ n. 1 + n) (height-rename (up_renaming ρ) t)
  height-rename ρ (app t u) = ap₂ (λ m n. max m (1 + n)) (risen-rename ρ t (height (rename ρ t)) ∙ ap (risen t) (height-rename ρ t)) (height-rename ρ u)

  heights-rename : (ρ : ℕ → ℕ) (ts : Tms) → heights (renames ρ ts) ≡ heights ts
  heights-rename ρ none = refl
  heights-rename ρ (more t ts) = ap₂ (λ m n. max m n) (height-rename ρ t) (heights-rename ρ ts)

mutual
  unfolding rename renames

  narrow-rename : (n : ℕ) (ρ : ℕ → ℕ) (t : Tm) → SpinesWithin n (rename ρ t) ↔ SpinesWithin n t
  narrow-rename n ρ (bound i) = (λ h. h, λ h. h)
  narrow-rename n ρ (free x a) = (λ h. h, λ h. h)
  narrow-rename n ρ (fun f) = (λ h. h, λ h. h)
  narrow-rename n ρ (meta z ts) = all_narrow-rename n ρ ts
  narrow-rename n ρ (lam a t) = narrow-rename n (up_renaming ρ) t
  narrow-rename n ρ (app t u) =
      let (there, back) = narrow-rename n ρ t in
      let (there', back') = narrow-rename n ρ u in
      (λ (h, k, l). (subst (λ m. m + 1 ≤ n) (count-rename ρ t) h, there k, there' l), λ (h, k, l). (subst (λ m. m + 1 ≤ n) (sym (count-rename ρ t)) h, back k, back' l))

  all_narrow-rename : (n : ℕ) (ρ : ℕ → ℕ) (ts : Tms) → AllSpinesWithin n (renames ρ ts) ↔ AllSpinesWithin n ts
  all_narrow-rename n ρ none = (λ h. h, λ h. h)
  all_narrow-rename n ρ (more t ts) =
      let (there, back) = narrow-rename n ρ t in
      let (there', back') = all_narrow-rename n ρ ts in
      (λ (k, l). (there k, there' l), λ (k, l). (back k, back' l))

fits-rename : (ρ : ℕ → ℕ) (t : Tm) → Fits t → Fits (rename ρ t)
fits-rename ρ t f = record { low = subst (λ n. n ≤ 200) (sym (height-rename ρ t)) f.low; narrow = (narrow-rename 32 ρ t).1 f.narrow; small = subst (λ n. n ≤ 65536) (sym (size-rename ρ t)) f.small }

fits-rename-back : (ρ : ℕ → ℕ) (t : Tm) → Fits (rename ρ t) → Fits t
fits-rename-back ρ t f = record { low = subst (λ n. n ≤ 200) (height-rename ρ t) f.low; narrow = (narrow-rename 32 ρ t).0 f.narrow; small = subst (λ n. n ≤ 65536) (size-rename ρ t) f.small }

-- a moved tree has the same extent
knows-raised : (k : ℕ) (t : Tm) (e : Option Extent) → Knows t e → Knows (raised k t) e
unfolding raised
knows-raised k t None m = λ f. m (fits-rename-back (λ i. i + k) t f)
knows-raised k t (Some e) m = record { fits = fits-rename (λ i. i + k) t m.fits; sized = m.sized ∙ sym (size-rename (λ i. i + k) t); high = m.high ∙ sym (height-rename (λ i. i + k) t); broad = m.broad ∙ sym (count-rename (λ i. i + k) t) }

-- what stands for the parameters of a body

cons_here : (t : Tm) (σ : ℕ → Tm) → cons t σ 0 ≡ t
unfolding cons
cons_here t σ = refl

counted-known : (ts : Tms) (es : List (Option Extent)) → AllKnown ts es → count ts ≡ length es
counted-known none [] m = refl
counted-known none (e ∷ es) m = absurd m
counted-known (more t ts) [] m = absurd m
counted-known (more t ts) (e ∷ es) m = omega (arith, counted-known ts es m.1)

known_near : (ts : Tms) (es : List (Option Extent)) (σ : ℕ → Tm) (i j : ℕ) (e : Option Extent) → AllKnown ts es → i + j + 1 ≡ length es → e ≡ get_or es j e → Knows (parameters ts σ i) e
unfolding parameters
known_near none [] σ i j e m sum is = absurd (omega arith)
known_near none (d ∷ es) σ i j e m sum is = absurd m
known_near (more t ts) [] σ i j e m sum is = absurd m
known_near (more t ts) (d ∷ es) σ i zero e m sum is =
    let here : Knows t e = subst (Knows t) (sym is) m.0 in
    let last : parameters ts (cons t σ) i ≡ cons t σ 0 = parameters-far ts (cons t σ) i 0 (omega (arith, counted-known ts es m.1)) in
    let first : cons t σ 0 ≡ t = cons_here t σ in
    subst (λ s. Knows s e) (sym (last ∙ first)) here
known_near (more t ts) (d ∷ es) σ i (suc j) e m sum is = known_near ts es (cons t σ) i j e m.1 (omega arith) is

pub known_parameter : (ts : Tms) (es : List (Option Extent)) (k d i j : ℕ) (e : Option Extent) → AllKnown ts es → d ≤ i → (i - d) + j + 1 ≡ length es → e ≡ get_or es j e
    → Knows (ups d (parameters ts (moved k)) i) e
known_parameter ts es k d i j e m high sum is =
    subst (λ s. Knows s e) (sym (ups_high d (parameters ts (moved k)) i (i - d) (omega arith))) (knows-raised d (parameters ts (moved k) (i - d)) e (known_near ts es (moved k) (i - d) j e m sum is))

-- beyond the parameters stands a bound variable
pub beyond_parameters : (ts : Tms) (es : List (Option Extent)) (k d i : ℕ) → AllKnown ts es → d ≤ i → length es ≤ i - d → (j : ℕ) × (ups d (parameters ts (moved k)) i ≡ bound j)
unfolding moved
beyond_parameters ts es k d i m high beyond = (
  i - d - length es + k + d,
  ups_high d (parameters ts (moved k)) i (i - d) (omega arith)
      ∙ ap (raised d) (parameters-far ts (moved k) (i - d) (i - d - length es) (omega (arith, counted-known ts es m))) ∙ raised_bound d (i - d - length es + k),
)

-- a substitution in a tree, part by part
module _ (σ : ℕ → Tm) (φ : ℕ → Ty → Tm) where
  pub act_app : (w t u : Tm) → w ≡ app t u → act σ φ w ≡ app (act σ φ t) (act σ φ u)
  act_app w t u is = ap (act σ φ) is ∙ act_at_app σ φ t u

  pub act_bound : (w : Tm) (i : ℕ) → w ≡ bound i → act σ φ w ≡ σ i
  act_bound w i is = ap (act σ φ) is ∙ act_at_bound σ φ i

  pub act_free : (w : Tm) (x : ℕ) (a : Ty) → w ≡ free x a → act σ φ w ≡ φ x a
  act_free w x a is = ap (act σ φ) is ∙ act_at_free σ φ x a

  pub act_fun : (w : Tm) (f : ℕ) → w ≡ fun f → act σ φ w ≡ fun f
  act_fun w f is = ap (act σ φ) is ∙ act_at_fun σ φ f

pub act_lam : (σ : ℕ → Tm) (φ : ℕ → Ty → Tm) (d n : ℕ) (w : Tm) (a : Ty) (t : Tm) → w ≡ lam a t → n ≡ d + 1 → act (ups d σ) (ups_free d φ) w ≡ lam a (act (ups n σ) (ups_free n φ) t)
act_lam σ φ d n w a t is next = ap (act (ups d σ) (ups_free d φ)) is ∙ act_at_lam σ φ d a t ∙ ap (λ m. lam a (act (ups m σ) (ups_free m φ) t)) (sym next)

-- with no values for loose variables a tree is itself
pub act_nothing : (t : Tm) → act (ups 0 (parameters none (moved 0))) (ups_free 0 free) t ≡ t
unfolding parameters
act_nothing t = act_top (moved 0) free t ∙ sym (raised_is_act 0 t) ∙ raised_zero t

cons_moved : (u : Tm) (i : ℕ) → cons u (moved 0) i ≡ cons u bound i
unfolding cons moved
cons_moved u zero = refl
cons_moved u (suc i) = ap bound (add-zero i)

pub act_opened : (u t : Tm) → act (ups 0 (parameters (more u none) (moved 0))) (ups_free 0 free) t ≡ opened u t
unfolding parameters opened
act_opened u t = act_top (cons u (moved 0)) free t ∙ act_same (cons_moved u) (λ x a. refl) t

pub measures_known : (t : Tm) (o : Option Extent) (p : PastLimit) (r : Result Extent (Or PastLimit)) → r ≡ ok_or o (Because p) → Knows t o → Measures t r
measures_known t (Some e) p r is m = subst (Measures t) (sym is) m
measures_known t None p r is m = subst (Measures t) (sym is) m
