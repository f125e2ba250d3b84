-- Runs that go on: what is left of one is told by what was done, and no value is lost.
use Rattle.std.proofs.Common.{◌≡◌, zero, suc, ◌≤◌, ◌⊎◌, inl, inr, List, [], ◌∷◌, ◌++◌, refl, ap, sym, subst, arith, length, length-append}
use Rattle.std.specs.Prelude.{Contains}
use Rattle.std.proofs.lemmas.List.Elements.{Contains-append_left, Contains-append_right, Contains-append_cases}
use Rattle.wh_poly.specs.Polynomials.{Polynomial}
use Rattle.wh_poly.specs.Limits.{Exceeds}
use Rattle.wh_poly.specs.Excesses.{ExceedsAs}
use Rattle.wh_poly.specs.declared.excess.Excess.{Excess}
use Rattle.wh_poly.specs.declared.excess.Excess.TheVariants as excess

abbrev pub Within : List Polynomial → Type 0
Within ws = (w : Polynomial) → Contains ws w → Exceeds w → ⊥

pub contains_one : (p w : Polynomial) → Contains (p ∷ []) w → p ≡ w
contains_one p w (zero, h, e) = e
contains_one p w (suc k, h, e) = absurd (omega (arith, h))

pub first_is_there : (p : Polynomial) (ps : List Polynomial) → Contains (p ∷ ps) p
first_is_there p ps = (0, omega arith, refl)

pub within_one : (p : Polynomial) → (Exceeds p → ⊥) → Within (p ∷ [])
within_one p n w c h = n (subst Exceeds (sym (contains_one p w c)) h)

pub within_both : (xs ys : List Polynomial) → Within xs → Within ys → Within (xs ++ ys)
within_both xs ys f g w c h = elim (Contains-append_cases xs ys w c) [ inl d ↦ f w d h | inr d ↦ g w d h ]

pub exceeds_as : (e : Excess) (p : Polynomial) → ExceedsAs e p → Exceeds p
exceeds_as excess.Overflow p h = inl h
exceeds_as excess.TooLarge p h = inr h

-- what is left of a run, where all that was met is within the limits unless L
pub record Follows (whole rest : List Polynomial) (L : Type 0) : Type 0 where
  pub embeds : (w : Polynomial) → Contains rest w → Contains whole w
  pub met : (w : Polynomial) → Contains whole w → Exceeds w → Contains rest w ⊎ L
  pub shorter : length rest ≤ length whole

pub follows_itself : (ws : List Polynomial) (L : Type 0) → Follows ws ws L
follows_itself ws L = record { embeds = λ w c. c; met = λ w c h. inl c; shorter = omega arith }

pub follows_on : (whole rest met left : List Polynomial) (L M : Type 0) → Follows whole rest L → rest ≡ met ++ left → ((w : Polynomial) → Contains met w → Exceeds w → M) → (L → M)
    → Follows whole left M
follows_on whole rest done left L M f e within on = record {
  embeds = λ w c. f.embeds w (subst (λ ws. Contains ws w) (sym e) (Contains-append_right done left w c));
  met = λ w c h. elim (f.met w c h) [
    | inl d ↦ either w h (Contains-append_cases done left w (subst (λ ws. Contains ws w) e d))
    | inr l ↦ inr (on l)
  ];
  shorter = (let s = f.shorter in let l = length-append done left in let z = ap length e in omega (arith, s, l, z));
}
  where
    either : (w : Polynomial) → Exceeds w → Contains done w ⊎ Contains left w → Contains left w ⊎ M
    either w h (inl d) = inr (within w d h)
    either w h (inr d) = inl d

-- nothing exceeds where nothing does in what is left
pub all_within : (whole rest : List Polynomial) (L : Type 0) → Follows whole rest L → Within rest → (L → ⊥) → Within whole
all_within whole rest L f g none w c h = elim (f.met w c h) [ inl d ↦ g w d h | inr l ↦ none l ]

-- a value that exceeds in what is left does so in the whole
pub fault_within : (whole rest : List Polynomial) (L : Type 0) (e : Excess) → Follows whole rest L → (w : Polynomial) × Contains rest w × ExceedsAs e w → (w : Polynomial) × Contains whole w × ExceedsAs e w
fault_within whole rest L e f (w, c, h) = (w, f.embeds w c, h)

pub fault_left : (xs ys : List Polynomial) (e : Excess) → (w : Polynomial) × Contains xs w × ExceedsAs e w → (w : Polynomial) × Contains (xs ++ ys) w × ExceedsAs e w
fault_left xs ys e (w, c, h) = (w, Contains-append_left xs ys w c, h)

pub fault_right : (xs ys : List Polynomial) (e : Excess) → (w : Polynomial) × Contains ys w × ExceedsAs e w → (w : Polynomial) × Contains (xs ++ ys) w × ExceedsAs e w
fault_right xs ys e (w, c, h) = (w, Contains-append_right xs ys w c, h)
