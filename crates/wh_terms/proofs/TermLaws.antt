-- No meta-variable comes or goes by a renaming or an opening.
use Rattle.std.proofs.Common.{ℕ, zero, suc}
use Rattle.wh_types.specs.Ty.{Ty}
use Rattle.wh_terms.specs.Tree.{Tm, bound, free, fun, meta, lam, app}
use Rattle.wh_terms.specs.Substitution.{up_renaming, rename, up, up_free, act, opened, cons}
use Rattle.wh_terms.specs.Sight.{IsTerm}

pub term-rename : (ρ : ℕ → ℕ) (t : Tm) → IsTerm t → IsTerm (rename ρ t)
unfolding rename
term-rename ρ (bound i) h = tt
term-rename ρ (free x a) h = tt
term-rename ρ (fun f) h = tt
term-rename ρ (meta z ts) h = h
term-rename ρ (lam a t) h = term-rename (up_renaming ρ) t h
term-rename ρ (app t u) h = (term-rename ρ t h.0, term-rename ρ u h.1)

pub term-rename-back : (ρ : ℕ → ℕ) (t : Tm) → IsTerm (rename ρ t) → IsTerm t
unfolding rename
term-rename-back ρ (bound i) h = tt
term-rename-back ρ (free x a) h = tt
term-rename-back ρ (fun f) h = tt
term-rename-back ρ (meta z ts) h = h
term-rename-back ρ (lam a t) h = term-rename-back (up_renaming ρ) t h
term-rename-back ρ (app t u) h = (term-rename-back ρ t h.0, term-rename-back ρ u h.1)

pub term-up : (σ : ℕ → Tm) → ((i : ℕ) → IsTerm (σ i)) → (i : ℕ) → IsTerm (up σ i)
unfolding up
term-up σ h zero = tt
term-up σ h (suc i) = term-rename suc (σ i) (h i)

pub term-act : (σ : ℕ → Tm) (φ : ℕ → Ty → Tm) (t : Tm) → ((i : ℕ) → IsTerm (σ i)) → ((x : ℕ) (a : Ty) → IsTerm (φ x a)) → IsTerm t → IsTerm (act σ φ t)
unfolding act up_free
term-act σ φ (bound i) h f p = h i
term-act σ φ (free x a) h f p = f x a
term-act σ φ (fun g) h f p = tt
term-act σ φ (meta z ts) h f p = p
term-act σ φ (lam a t) h f p = term-act (up σ) (up_free φ) t (term-up σ h) (λ x b. term-rename suc (φ x b) (f x b)) p
term-act σ φ (app t u) h f p = (term-act σ φ t h f p.0, term-act σ φ u h f p.1)

term-cons : (u : Tm) → IsTerm u → (i : ℕ) → IsTerm (cons u bound i)
unfolding cons
term-cons u p zero = p
term-cons u p (suc i) = tt

pub term-opened : (u t : Tm) → IsTerm u → IsTerm t → IsTerm (opened u t)
unfolding opened
term-opened u t p q = term-act (cons u bound) free t (term-cons u p) (λ x a. tt) q

pub term-act-back : (σ : ℕ → Tm) (φ : ℕ → Ty → Tm) (t : Tm) → IsTerm (act σ φ t) → IsTerm t
unfolding act
term-act-back σ φ (bound i) p = tt
term-act-back σ φ (free x a) p = tt
term-act-back σ φ (fun g) p = tt
term-act-back σ φ (meta z ts) p = p
term-act-back σ φ (lam a t) p = term-act-back (up σ) (up_free φ) t p
term-act-back σ φ (app t u) p = (term-act-back σ φ t p.0, term-act-back σ φ u p.1)

pub term-opened-back : (u t : Tm) → IsTerm (opened u t) → IsTerm t
unfolding opened
term-opened-back u t p = term-act-back (cons u bound) free t p
