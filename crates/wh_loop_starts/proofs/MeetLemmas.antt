-- What is met in the places of variables.
use Rattle.std.proofs.Common.{◌≡◌, ◌≢◌, ◌⊎◌, inl, inr, ℕ, zero, suc, ◌<◌, List, [], ◌∷◌, length, Option, Some, None, refl, ap, ap₂, sym, ◌∙◌, arith, ⊎_elim}
use Rattle.std.specs.Prelude.{slice_get}
use Rattle.std.proofs.Math.ListN.{set}
use Rattle.wh_types.specs.Ty.{Ty}
use Rattle.wh_types.specs.Erase.{ty}
use Rattle.wh_terms.specs.Tree.{Tm, free, lam, app}
use Rattle.wh_terms.specs.Erase.{tm}
use Rattle.wh_terms.proofs.TypingLaws.{some_one}
use Rattle.wh_loop_starts.specs.declared.meets.Met.{Met}
use Rattle.wh_loop_starts.specs.Meets.{Holds, filled, IsAt, Agrees, IsMeeting, HasNoMeeting, IsFrom}

abbrev Table : Type 0
Table = List (Option Met)

-- a write to the table

pub set_here : (table : Table) (x : ℕ) (o : Option Met) → x < length table → slice_get (set table x o) x ≡ Some o
set_here [] x o within = absurd (omega arith)
set_here (p ∷ table) zero o within = refl
set_here (p ∷ table) (suc x) o within = set_here table x o (omega arith)

pub set_there : (table : Table) (x y : ℕ) (o : Option Met) → y ≢ x → slice_get (set table x o) y ≡ slice_get table y
set_there [] x y o other = refl
set_there (p ∷ table) zero zero o other = absurd (other refl)
set_there (p ∷ table) zero (suc y) o other = refl
set_there (p ∷ table) (suc x) zero o other = refl
set_there (p ∷ table) (suc x) (suc y) o other = set_there table x y o (λ e. other (ap suc e))

same_place : (x y : ℕ) → (y ≡ x) ⊎ (y ≢ x)
same_place zero zero = inl refl
same_place zero (suc y) = inr (λ e. omega arith)
same_place (suc x) zero = inr (λ e. omega arith)
same_place (suc x) (suc y) = ⊎_elim (λ e. inl (ap suc e)) (λ n. inr (λ e. n (omega arith))) (same_place x y)

-- a variable

pub variable_again : (table : Table) (x : ℕ) (a : Ty) (m : Met) (w : Tm) → IsAt table x m → tm m.value.now ≡ w → IsMeeting (free x a) w table table
variable_again table x a m w at same φ = (λ h. (h, sym (h x m at ∙ same)), λ h e. h)

pub variable_differs : (table : Table) (x : ℕ) (a : Ty) (m : Met) (w : Tm) → IsAt table x m → (tm m.value.now ≡ w → ⊥) → HasNoMeeting (free x a) w table
variable_differs table x a m w at other φ h e = other (sym (h x m at) ∙ sym e)

pub variable_new : (old new : Table) (x : ℕ) (a : Ty) (m : Met) (w : Tm) → x < length old → slice_get old x ≡ Some None → new ≡ set old x (Some m) → tm m.value.now ≡ w
    → IsMeeting (free x a) w old new
variable_new old new x a m w within empty is same φ = (λ h. (kept h, sym (h x m here ∙ same)), λ h e y n at. ⊎_elim (put h e y n at) (there h y n at) (same_place x y))
  where
    here : IsAt new x m
    here = ap (λ l. slice_get l x) is ∙ set_here old x (Some m) within

    elsewhere : (y : ℕ) → y ≢ x → slice_get new y ≡ slice_get old y
    elsewhere y other = ap (λ l. slice_get l y) is ∙ set_there old x y (Some m) other

    before : (y : ℕ) (n : Met) → IsAt old y n → y ≢ x
    before y n at e = let no : Some None ≡ Some (Some n) = sym empty ∙ ap (slice_get old) (sym e) ∙ at in absurd (cc)

    kept : Agrees new φ → Agrees old φ
    kept h y n at = h y n (elsewhere y (before y n at) ∙ at)

    put : Agrees old φ → w ≡ φ x → (y : ℕ) (n : Met) → IsAt new y n → y ≡ x → φ y ≡ tm n.value.now
    put h e y n at is_here =
        let one : m ≡ n = some_one (some_one (sym here ∙ ap (slice_get new) (sym is_here) ∙ at)) in ap φ is_here ∙ sym e ∙ sym same ∙ ap (λ k. tm k.value.now) one

    there : Agrees old φ → (y : ℕ) (n : Met) → IsAt new y n → y ≢ x → φ y ≡ tm n.value.now
    there h y n at other = h y n (sym (elsewhere y other) ∙ at)

pub variable_from : (old new : Table) (x : ℕ) (a : Ty) (m : Met) → x < length old → new ≡ set old x (Some m) → ty m.kind.now ≡ a → IsFrom (free x a) old new
variable_from old new x a m within is kind y n at = ⊎_elim put there (same_place x y)
  where
    put : y ≡ x → IsAt old y n ⊎ Holds y (ty n.kind.now) (free x a)
    put e =
        let here = ap (λ l. slice_get l x) is ∙ set_here old x (Some m) within in
        let one : m ≡ n = some_one (some_one (sym here ∙ ap (slice_get new) (sym e) ∙ at)) in inr (sym e, sym kind ∙ ap (λ k. ty k.kind.now) one)

    there : y ≢ x → IsAt old y n ⊎ Holds y (ty n.kind.now) (free x a)
    there other = inl (sym (set_there old x y (Some m) other) ∙ sym (ap (λ l. slice_get l y) is) ∙ at)

pub nothing_from : (t : Tm) (table : Table) → IsFrom t table table
nothing_from t table x m at = inl at

-- a bound variable or a symbol

pub itself : (t w : Tm) (table : Table) → ((φ : ℕ → Tm) → filled φ t ≡ t) → w ≡ t → IsMeeting t w table table
itself t w table h e φ = (λ k. (k, e ∙ sym (h φ)), λ k f. k)

pub not_itself : (t w : Tm) (table : Table) → ((φ : ℕ → Tm) → filled φ t ≡ t) → (w ≡ t → ⊥) → HasNoMeeting t w table
not_itself t w table h other φ k e = other (e ∙ h φ)

-- an abstraction

pub meeting_lam : (a : Ty) (t w : Tm) (old new : Table) → IsMeeting t w old new → IsMeeting (lam a t) (lam a w) old new
meeting_lam a t w old new h φ = (λ k. let (b, e) = (h φ).0 k in (b, ap (lam a) e), λ k e. (h φ).1 k (let f : w ≡ filled φ t = cc in f))

pub from_lam : (a : Ty) (t : Tm) (old new : Table) → IsFrom t old new → IsFrom (lam a t) old new
from_lam a t old new h = h

-- an application

pub meeting_app : (t u v w : Tm) (old mid new : Table) → IsMeeting t v old mid → IsMeeting u w mid new → IsMeeting (app t u) (app v w) old new
meeting_app t u v w old mid new h k φ =
    (λ g. let (b, f) = (k φ).0 g in let (c, e) = (h φ).0 b in (c, ap₂ app e f), λ g e. (k φ).1 ((h φ).1 g (let f : v ≡ filled φ t = cc in f)) (let f : w ≡ filled φ u = cc in f))

pub from_app : (t u : Tm) (old mid new : Table) → IsFrom t old mid → IsFrom u mid new → IsFrom (app t u) old new
from_app t u old mid new h k x m at = ⊎_elim (λ b. ⊎_elim (λ c. inl c) (λ d. inr (inl d)) (h x m b)) (λ d. inr (inr d)) (k x m at)

-- where a part of it meets nothing, the whole does not

pub no_meeting_lam : (a b : Ty) (t w : Tm) (old : Table) → HasNoMeeting t w old → HasNoMeeting (lam a t) (lam b w) old
no_meeting_lam a b t w old h φ k e = h φ k (let f : w ≡ filled φ t = cc in f)

pub no_meeting_app : (t u v w : Tm) (old mid : Table) → IsMeeting t v old mid → HasNoMeeting u w mid → HasNoMeeting (app t u) (app v w) old
no_meeting_app t u v w old mid h k φ g e = k φ ((h φ).1 g (let f : v ≡ filled φ t = cc in f)) (let f : w ≡ filled φ u = cc in f)
