-- Steps over any relation at the root: with beta, at any place, and on raw bodies (no binder is opened).
use Rattle.std.proofs.Common.{ℕ, zero, suc, ◌+◌, List, [], ◌∷◌, ap, sym, ◌∙◌, subst, subst₂, Bool, true, false}
use Rattle.std.specs.Prelude.{if◌then◌else◌, ◌==◌}
use Rattle.wh_types.specs.Ty.{Ty, ◌⇒◌}
use Rattle.wh_terms.specs.Tree.{Tm, bound, free, lam}
use Rattle.wh_terms.specs.Substitution.{up, up_free, act, cons, opened}
use Rattle.wh_terms.specs.Sight.{IsTerm, LooseBelow, Fresh}
use Rattle.wh_terms.specs.Typing.{Symbols, Typed, typed_lam, typed_app}
pub use Rattle.wh_terms.specs.StepOver.{StepOver, over_root, over_beta, over_function, over_argument, over_body, AreTerms, AreFreeTerms, IsKept, KeepsTypes, KeepsLoose, KeepsTerms}
use Rattle.wh_terms.proofs.ActLaws.{act-opened}
use Rattle.wh_terms.proofs.LooseLaws.{loose-opened}
use Rattle.wh_terms.proofs.TermLaws.{term-up, term-rename, term-opened}
use Rattle.wh_terms.proofs.FreshLaws.{put, closed, closed-opened}
use Rattle.wh_terms.proofs.TypingLaws.{typed-opened}

-- substitution keeps steps
pub over-act : {R : Tm → Tm → Type 0} {t u : Tm} → IsKept R → (σ : ℕ → Tm) (φ : ℕ → Ty → Tm) → AreTerms σ → AreFreeTerms φ → StepOver R t u → StepOver R (act σ φ t) (act σ φ u)
unfolding act up_free
over-act kept σ φ p q (over_root {t = t} {u = u} r) = over_root (kept σ φ t u p q r)
over-act kept σ φ p q (over_beta {t = t} {u = u} e) = over_beta (ap (act σ φ) e ∙ act-opened σ φ u t)
over-act kept σ φ p q (over_function s) = over_function (over-act kept σ φ p q s)
over-act kept σ φ p q (over_argument s) = over_argument (over-act kept σ φ p q s)
over-act kept σ φ p q (over_body s) = over_body (over-act kept (up σ) (up_free φ) (term-up σ p) (λ x a. term-rename suc (φ x a) (q x a)) s)

-- opening keeps steps
pub over-opened : {R : Tm → Tm → Type 0} {t t' : Tm} → IsKept R → (u : Tm) → IsTerm u → StepOver R t t' → StepOver R (opened u t) (opened u t')
unfolding opened cons
over-opened kept u p s = over-act kept (cons u bound) free (term_cons u p) (λ x a. tt) s
  where
    term_cons : (u : Tm) → IsTerm u → AreTerms (cons u bound)
    term_cons u p zero = p
    term_cons u p (suc i) = tt

-- and a step of opened bodies is one of the bodies
pub over-opened-back : {R : Tm → Tm → Type 0} → IsKept R → (x : ℕ) (a : Ty) (t t' : Tm) → Fresh x t → Fresh x t' → StepOver R (opened (free x a) t) (opened (free x a) t') → StepOver R t t'
unfolding closed
over-opened-back {R = R} kept x a t t' f f' s = subst₂ (StepOver R) (closed-opened x a t f) (closed-opened x a t' f') (over-act kept (λ i. bound (suc i)) (put x (bound 0)) (λ i. tt) (λ y b. term_if (y == x) y b) s)
  where
    term_if : (c : Bool) (y : ℕ) (b : Ty) → IsTerm (if c then bound 0 else free y b)
    term_if true y b = tt
    term_if false y b = tt

-- steps keep types
pub over-typed : {R : Tm → Tm → Type 0} {t u : Tm} (S : Symbols) → KeepsTypes S R → (Γ : List Ty) (a : Ty) → StepOver R t u → Typed S [] Γ t a → Typed S [] Γ u a
over-typed S k Γ a (over_root {t = t} {u = u} r) p = k Γ t u a r p
over-typed S k Γ a (over_beta {t = t} {u = u} e) (typed_app p q) = subst (λ v. Typed S [] Γ v a) (sym e) (typed_beta p q)
  where
    typed_beta : {b c d : Ty} → Typed S [] Γ (lam b t) (c ⇒ d) → Typed S [] Γ u c → Typed S [] Γ (opened u t) d
    typed_beta (typed_lam s p) q = typed-opened q p
over-typed S k Γ a (over_function s) (typed_app {a = b} p q) = typed_app (over-typed S k Γ (b ⇒ a) s p) q
over-typed S k Γ a (over_argument s) (typed_app {a = b} p q) = typed_app p (over-typed S k Γ b s q)
over-typed S k Γ a (over_body s) (typed_lam {a = c} {b = b} r p) = typed_lam r (over-typed S k (c ∷ Γ) b s p)

pub over-loose : {R : Tm → Tm → Type 0} {t u : Tm} → KeepsLoose R → (k : ℕ) → StepOver R t u → LooseBelow k t → LooseBelow k u
over-loose h k (over_root {t = t} {u = u} r) l = h k t u r l
over-loose h k (over_beta {t = t} {u = u} e) l = subst (λ v. LooseBelow k v) (sym e) (loose-opened k u t l.1 l.0)
over-loose h k (over_function s) l = (over-loose h k s l.0, l.1)
over-loose h k (over_argument s) l = (l.0, over-loose h k s l.1)
over-loose h k (over_body s) l = over-loose h (k + 1) s l

pub over-term : {R : Tm → Tm → Type 0} {t u : Tm} → KeepsTerms R → StepOver R t u → IsTerm t → IsTerm u
over-term h (over_root {t = t} {u = u} r) p = h t u r p
over-term h (over_beta {t = t} {u = u} e) p = subst IsTerm (sym e) (term-opened u t p.1 p.0)
over-term h (over_function s) p = (over-term h s p.0, p.1)
over-term h (over_argument s) p = (p.0, over-term h s p.1)
over-term h (over_body s) p = over-term h s p
