-- Whether a raw term stands for a term, and whether that fits, is decided.
use Rattle.std.proofs.Common.{◌≡◌, ℕ, ◌+◌, inl, inr, [], Option, Some, None, refl, subst}
use Rattle.wh_types.specs.Ty.{Ty}
use Rattle.wh_terms.specs.Tree.{Tm, bound, free, fun, meta, lam, app, Tms, none, more, argument_count}
use Rattle.wh_terms.specs.Typing.{Symbols, Typed, WellTyped}
use Rattle.wh_terms.specs.Measures.{height, size, SpinesWithin, AllSpinesWithin, Fits}
use Rattle.wh_terms.proofs.TypingLaws.{typed_one}
use Rattle.wh_text.specs.RawTree.{RTm}
use Rattle.wh_system_parts.specs.Naming.{meant}
use Rattle.wh_system.specs.Systems.{SystemData}
use Rattle.wh_system_making.specs.Resolve.{term_scope, Means}
use Rattle.wh_system.proofs.TypedDecided.{Decided, HasType, decided_by, both_decided, same_type_decided, typed_decided}
use Rattle.wh_pairs.proofs.ByPlace.{some_one}
use Rattle.wh_no.specs.Faults.{IsTermFor}
use Rattle.wh_pairs.proofs.Searches.{SomeOrNone, at_most_decided}

mutual
  spines_decided : (n : ℕ) (t : Tm) → Decided (SpinesWithin n t)
  spines_decided n (bound i) = inl tt
  spines_decided n (free x a) = inl tt
  spines_decided n (fun f) = inl tt
  spines_decided n (meta z ts) = all_spines_decided n ts
  spines_decided n (lam a t) = spines_decided n t
  spines_decided n (app t u) =
      decided_by (λ (here, (there, also)). (here, there, also)) (λ (here, there, also). (here, (there, also)))
      (both_decided (at_most_decided (argument_count t + 1) n) (both_decided (spines_decided n t) (spines_decided n u)))

  all_spines_decided : (n : ℕ) (ts : Tms) → Decided (AllSpinesWithin n ts)
  all_spines_decided n none = inl tt
  all_spines_decided n (more t ts) = both_decided (spines_decided n t) (all_spines_decided n ts)

pub fits_decided : (t : Tm) → Decided (Fits t)
fits_decided t =
    decided_by (λ (low, (narrow, small)). record { low = low; narrow = narrow; small = small }) (λ fits. (fits.low, (fits.narrow, fits.small)))
    (both_decided (at_most_decided (height t) 200) (both_decided (spines_decided 32 t) (at_most_decided (size t) 65536)))

pub has_type_decided : (S : Symbols) (t : Tm) (a : Ty) → Decided (Typed S [] [] t a)
has_type_decided S t a = go (typed_decided S [] t [])
  where
    go : Decided (HasType S [] [] t) → Decided (Typed S [] [] t a)
    go (inr not) = inr (λ typed. not (a, typed))
    go (inl (b, typed)) = decided_by (λ same. subst (Typed S [] [] t) same typed) (λ also. typed_one typed also) (same_type_decided b a)

-- the raw term stands for a term, or for none

pub means_or_not : (d : SystemData) (raw : RTm) → SomeOrNone (Means d raw)
means_or_not d raw = go (meant (term_scope d) [] raw) refl
  where
    at_tree : (t : Tm) → meant (term_scope d) [] raw ≡ Some t → Decided (HasType d.symbols [] [] t) → SomeOrNone (Means d raw)
    at_tree t named (inl typed) = inl (t, record { named = named; typed = typed })
    at_tree t named (inr not) = inr (λ u means. not (subst (WellTyped d.symbols) (some_one means.named named) means.typed))

    go : (o : Option Tm) → meant (term_scope d) [] raw ≡ o → SomeOrNone (Means d raw)
    go None e = inr (λ t means. let named = means.named in cc (e, named))
    go (Some t) e = at_tree t e (typed_decided d.symbols [] t [])

pub term_or_not : (d : SystemData) (raw : RTm) → SomeOrNone (IsTermFor d raw)
term_or_not d raw = go (means_or_not d raw)
  where
    at_term : (t : Tm) → Means d raw t → Decided (Fits t) → SomeOrNone (IsTermFor d raw)
    at_term t means (inl fits) = inl (t, record { means = means; fits = fits })
    at_term t means (inr big) = inr (λ u is. big (subst Fits (some_one is.means.named means.named) is.fits))

    go : SomeOrNone (Means d raw) → SomeOrNone (IsTermFor d raw)
    go (inl (t, means)) = at_term t means (fits_decided t)
    go (inr nothing) = inr (λ t is. nothing t is.means)
