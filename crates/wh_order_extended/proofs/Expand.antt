-- Expansions under renaming, substitution and steps.
use Rattle.std.proofs.Common.{◌≡◌, ℕ, suc, refl, ap, ap₂, ◌∙◌, sym}
use Rattle.wh_types.specs.Ty.{Ty, sort, ◌⇒◌}
use Rattle.wh_terms.specs.Tree.{Tm, bound, free, lam, app}
use Rattle.wh_terms.specs.Substitution.{up_renaming, rename, up, up_free, act, cons, opened}
use Rattle.wh_terms.specs.StepOver.{StepOver, over_root, over_beta, over_function, over_argument, over_body}
use Rattle.wh_terms.proofs.RenamingLaws.{rename-up-suc}
use Rattle.wh_terms.proofs.ActLaws.{act-up-suc, opened-shift, rename-opened}
use Rattle.wh_order_extended.specs.Many.{Many, stay, go}
use Rattle.wh_order_extended.specs.Long.{expand}
use Rattle.wh_order_extended.proofs.ManyLaws.{many_both, many_equal, many_map}

pub expand-rename : (ρ : ℕ → ℕ) (a : Ty) (t : Tm) → rename ρ (expand a t) ≡ expand a (rename ρ t)
unfolding expand rename up_renaming
expand-rename ρ (sort s) t = refl
expand-rename ρ (a ⇒ b) t = ap (lam a) (
    expand-rename (up_renaming ρ) b (app (rename suc t) (expand a (bound 0)))
    ∙ ap (expand b) (ap₂ app (rename-up-suc ρ t) (expand-rename (up_renaming ρ) a (bound 0))))

pub expand-act : (σ : ℕ → Tm) (φ : ℕ → Ty → Tm) (a : Ty) (t : Tm) → act σ φ (expand a t) ≡ expand a (act σ φ t)
unfolding expand act up
expand-act σ φ (sort s) t = refl
expand-act σ φ (a ⇒ b) t = ap (lam a) (
    expand-act (up σ) (up_free φ) b (app (rename suc t) (expand a (bound 0)))
    ∙ ap (expand b) (ap₂ app (act-up-suc σ φ t) (expand-act (up σ) (up_free φ) a (bound 0))))

-- a relation that each renaming keeps
abbrev pub IsRenamed : (Tm → Tm → Type 0) → Type 0
IsRenamed R = (r : ℕ → ℕ) (t u : Tm) → R t u → R (rename r t) (rename r u)

module _ {R : Tm → Tm → Type 0} (kept : IsRenamed R) where
  pub over-rename : (r : ℕ → ℕ) {t u : Tm} → StepOver R t u → StepOver R (rename r t) (rename r u)
  unfolding rename
  over-rename r (over_root {t = t} {u = u} p) = over_root (kept r t u p)
  over-rename r (over_beta {t = t} {u = u} e) = over_beta (ap (rename r) e ∙ rename-opened r u t)
  over-rename r (over_function s) = over_function (over-rename r s)
  over-rename r (over_argument s) = over_argument (over-rename r s)
  over-rename r (over_body s) = over_body (over-rename (up_renaming r) s)

  pub over-expand : (a : Ty) {t u : Tm} → StepOver R t u → StepOver R (expand a t) (expand a u)
  unfolding expand
  over-expand (sort s) p = p
  over-expand (a ⇒ b) p = over_body (over-expand b (over_function (over-rename suc p)))

  pub many-expand : (a : Ty) {t u : Tm} → Many (StepOver R) t u → Many (StepOver R) (expand a t) (expand a u)
  many-expand a m = many_map (expand a) (λ t u s. over-expand a s) m

  pub many-body : (a : Ty) {t u : Tm} → Many (StepOver R) t u → Many (StepOver R) (lam a t) (lam a u)
  many-body a m = many_map (lam a) (λ t u s. over_body s) m

  pub many-function : (v : Tm) {t u : Tm} → Many (StepOver R) t u → Many (StepOver R) (app t v) (app u v)
  many-function v m = many_map (λ t. app t v) (λ t u s. over_function s) m

  pub many-argument : (v : Tm) {t u : Tm} → Many (StepOver R) t u → Many (StepOver R) (app v t) (app v u)
  many-argument v m = many_map (app v) (λ t u s. over_argument s) m

  pub many-app : {t u v w : Tm} → Many (StepOver R) t u → Many (StepOver R) v w → Many (StepOver R) (app t v) (app u w)
  many-app {t = t} {u = u} {v = v} {w = w} m n = many_both (many-function v m) (many-argument u n)

  -- an abstraction that an expansion is, applied to an argument
  pub expand-applied : (a b : Ty) (c w : Tm) → StepOver R (app (expand (a ⇒ b) c) w) (expand b (app c (expand a w)))
  unfolding expand opened act cons
  expand-applied a b c w = over_beta (sym (
      expand-act (cons w bound) free b (app (rename suc c) (expand a (bound 0)))
      ∙ ap (expand b) (ap₂ app (opened-shift w c) (expand-act (cons w bound) free a (bound 0)))))

  -- expanding twice comes to expanding once
  pub expand-twice : (a : Ty) (c : Tm) → Many (StepOver R) (expand a (expand a c)) (expand a c)
  unfolding expand
  expand-twice (sort s) c = stay
  expand-twice (a ⇒ b) c =
      let e : Tm = expand (a ⇒ b) c in
      let inner : Many (StepOver R) (app (rename suc e) (expand a (bound 0))) (expand b (app (rename suc c) (expand a (bound 0))))
      = many_both (many_equal (ap (λ t. app t (expand a (bound 0))) (expand-rename suc (a ⇒ b) c)))
      (go (expand-applied a b (rename suc c) (expand a (bound 0)))
      (many-expand b (many-argument (rename suc c) (expand-twice a (bound 0))))) in
      many-body a (many_both (many-expand b inner) (expand-twice b (app (rename suc c) (expand a (bound 0)))))
