-- Values without loose variables, put for free variables: the same below a binder.
use Rattle.std.proofs.Common.{◌≡◌, ℕ, suc, List, [], ◌∷◌, Bool, true, false, All, refl, ap}
use Rattle.std.specs.Prelude.{if◌then◌else◌, ◌==◌, ◌&&◌}
use Rattle.std.proofs.lemmas.List.Elements.{All-head, All-tail}
use Rattle.wh_types.specs.Ty.{Ty, same_ty}
use Rattle.wh_types.specs.Erase.{ty}
use Rattle.wh_terms.specs.Tree.{Tm, bound, free, fun, lam, app}
use Rattle.wh_terms.specs.Erase.{tm}
use Rattle.wh_terms.specs.Sight.{LooseBelow}
use Rattle.wh_terms.specs.Substitution.{act, up_free}
use Rattle.wh_terms.specs.declared.subst.SubstEntry.{SubstEntry}
use Rattle.wh_terms.proofs.ActLaws.{act_same, up-bound}
use Rattle.wh_terms.proofs.SightLaws.{rename_shut}
use Rattle.wh_no.specs.Claim.{put_for}
use Rattle.wh_no.specs.Entry.{entry_puts}

pub filled_bound : (φ : ℕ → Ty → Tm) (i : ℕ) → act bound φ (bound i) ≡ bound i
unfolding act
filled_bound φ i = refl

pub filled_free : (φ : ℕ → Ty → Tm) (x : ℕ) (a : Ty) → act bound φ (free x a) ≡ φ x a
unfolding act
filled_free φ x a = refl

pub filled_fun : (φ : ℕ → Ty → Tm) (f : ℕ) → act bound φ (fun f) ≡ fun f
unfolding act
filled_fun φ f = refl

pub filled_app : (φ : ℕ → Ty → Tm) (t u : Tm) → act bound φ (app t u) ≡ app (act bound φ t) (act bound φ u)
unfolding act
filled_app φ t u = refl

pub shut_if : (c : Bool) (t u : Tm) → LooseBelow 0 t → LooseBelow 0 u → LooseBelow 0 (if c then t else u)
shut_if true t u p q = p
shut_if false t u p q = q

-- the values of the entries have no loose variable
abbrev pub AreShut : List SubstEntry → Type 0
AreShut = All (λ e. LooseBelow 0 (tm e.value))

shut_for : (es : List SubstEntry) → AreShut es → (x : ℕ) (a : Ty) → LooseBelow 0 (put_for (entry_puts es) x a)
shut_for [] h x a = tt
shut_for (e ∷ es) h x a =
    shut_if ((e.number == x) && same_ty (ty e.kind) a) (tm e.value) (put_for (entry_puts es) x a) (All-head (λ d. LooseBelow 0 (tm d.value)) e es h)
    (shut_for es (All-tail (λ d. LooseBelow 0 (tm d.value)) e es h) x a)

pub filled_lam : (es : List SubstEntry) (a : Ty) (t : Tm) → AreShut es → act bound (put_for (entry_puts es)) (lam a t) ≡ lam a (act bound (put_for (entry_puts es)) t)
unfolding act up_free
filled_lam es a t h = ap (lam a) (act_same up-bound (λ x b. rename_shut suc (put_for (entry_puts es) x b) (shut_for es h x b)) t)
