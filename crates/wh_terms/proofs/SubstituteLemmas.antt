-- The search for a variable in a substitution.
use Rattle.std.proofs.Common.{◌≡◌, ℕ, ◌+◌, ◌<◌, List, length, get_or, drop, ap, sym, ◌∙◌}
use Rattle.std.specs.Prelude.{if◌then◌else◌, ◌==◌, ◌&&◌}
use Rattle.std.proofs.lemmas.List.{at_drop_more}
use Rattle.wh_types.specs.Ty.{Ty, same_ty}
use Rattle.wh_types.specs.Erase.{ty}
use Rattle.wh_terms.specs.Tree.{Tm}
use Rattle.wh_terms.specs.Erase.{tm}
use Rattle.wh_terms.specs.Entries.{replacement}
use Rattle.wh_terms.specs.declared.subst.SubstEntry.{SubstEntry}
use Rattle.wh_terms.proofs.TypeTests.{variable-same, variable-other}

here : List SubstEntry → ℕ → SubstEntry → ℕ → Ty → Tm
here es i e x a = if (e.number == x) && same_ty (ty e.kind) a then tm e.value else replacement (drop (i + 1) es) x a

replacement-drop : (es : List SubstEntry) (i : ℕ) (e : SubstEntry) (x : ℕ) (a : Ty) → i < length es → e ≡ get_or es i e
    → replacement (drop i es) x a ≡ here es i e x a
unfolding here
replacement-drop es i e x a within is =
    at_drop_more (λ rest. replacement rest x a) es i e within
    ∙ ap (λ d. if (d.number == x) && same_ty (ty d.kind) a then tm d.value else replacement (drop (i + 1) es) x a) (sym is)

pub replacement_found : (es : List SubstEntry) (i : ℕ) (e : SubstEntry) (x : ℕ) (a : Ty) → i < length es → e ≡ get_or es i e
    → e.number ≡ x → ty e.kind ≡ a → replacement (drop i es) x a ≡ tm e.value
unfolding here
replacement_found es i e x a within is number kind =
    replacement-drop es i e x a within is
    ∙ ap (λ t. if t then tm e.value else replacement (drop (i + 1) es) x a) (variable-same x a e.number (ty e.kind) number kind)

pub replacement_passed : (es : List SubstEntry) (i : ℕ) (e : SubstEntry) (x : ℕ) (a : Ty) → i < length es → e ≡ get_or es i e
    → (e.number ≡ x → ty e.kind ≡ a → ⊥) → replacement (drop i es) x a ≡ replacement (drop (i + 1) es) x a
unfolding here
replacement_passed es i e x a within is other =
    replacement-drop es i e x a within is
    ∙ ap (λ t. if t then tm e.value else replacement (drop (i + 1) es) x a) (variable-other x a e.number (ty e.kind) other)
