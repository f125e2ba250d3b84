-- Steps on raw bodies, equal to `Step` on terms without loose variables.
use Rattle.std.proofs.Common.{◌≡◌, ℕ, zero, suc, ◌+◌, List, refl, ap, sym, ◌∙◌, subst, subst₂, arith}
use Rattle.wh_types.specs.Ty.{Ty}
use Rattle.wh_terms.specs.Tree.{Tm, bound, free, fun, lam, head}
use Rattle.wh_terms.specs.Substitution.{up, up_free, act, cons, opened}
use Rattle.wh_terms.specs.Sight.{IsTerm, LooseBelow}
use Rattle.wh_terms.specs.Typing.{Symbols}
use Rattle.wh_terms.specs.Rules.{RewriteRule, AreWellMade}
use Rattle.wh_terms.specs.Value.{Value}
use Rattle.wh_terms.proofs.ActLaws.{act-opened, opened-act, act-id}
use Rattle.wh_terms.proofs.LooseLaws.{loose-opened, loose-act, loose-more}
use Rattle.wh_terms.proofs.TermLaws.{term-opened, term-act}
use Rattle.wh_terms.proofs.FreshLaws.{fresh_for_two}
use Rattle.wh_terms.proofs.ValueTyping.{head-value}
use Rattle.wh_terms.proofs.ValueLaws.{value_is, has_value}
use Rattle.wh_terms.proofs.StepOver.{StepOver, over_root, over_beta, over_function, over_argument, over_body, AreTerms, AreFreeTerms, over-opened-back, over-opened, over-act}
use Rattle.wh_step.specs.Step.{Step, beta, by_rule, in_function, in_argument, in_body}
use Rattle.wh_step.proofs.Instances.{Instance, instance_of, instances_kept, whole_bodies, spine_left}

abbrev pub RawStep : List RewriteRule → Tm → Tm → Type 0
RawStep rules = StepOver (Instance rules)

pub step_raw : {rules : List RewriteRule} {t u : Tm} (S : Symbols) → AreWellMade S rules → Step rules t u → RawStep rules t u
step_raw S w (beta e) = over_beta e
step_raw S w (by_rule r g c h v k) = let (f, e) = value_is v in let (q, d) = value_is k in over_root (instance_of r g c f q e d)
step_raw S w (in_function s) = over_function (step_raw S w s)
step_raw S w (in_argument s) = over_argument (step_raw S w s)
step_raw {rules = rules} S w (in_body {a = a} {t = t} {t' = t'} x f f' s) = over_body (over-opened-back (instances_kept S rules w) x a t t' f f' (step_raw S w s))

root_step : {rules : List RewriteRule} (S : Symbols) → AreWellMade S rules → (t u : Tm) → Instance rules t u → LooseBelow 0 t → IsTerm t → Step rules t u
root_step S w t u (instance_of r g c f h e d) l p =
    by_rule r g c (whole_bodies S r g (w.each r c) f (subst (LooseBelow 0) e l) (subst IsTerm e p)) (subst (Value g r.left) (sym e) (has_value g r.left f))
    (subst (Value g r.right) (sym d) (has_value g r.right h))

body_step : {rules : List RewriteRule} (a : Ty) (t t' : Tm) → ((x : ℕ) → Step rules (opened (free x a) t) (opened (free x a) t')) → Step rules (lam a t) (lam a t')
body_step a t t' h = let (x, f, f') = fresh_for_two t t' in in_body x f f' (h x)

term_cons : (x : ℕ) (a : Ty) (σ : ℕ → Tm) → AreTerms σ → AreTerms (cons (free x a) σ)
unfolding cons
term_cons x a σ p zero = tt
term_cons x a σ p (suc i) = p i

-- Stated for images by substitutions, so that the case of an abstraction can open its body.
raw_step-act : {rules : List RewriteRule} {t u : Tm} (S : Symbols) → AreWellMade S rules → (σ : ℕ → Tm) (φ : ℕ → Ty → Tm) → AreTerms σ → AreFreeTerms φ → RawStep rules t u
    → LooseBelow 0 (act σ φ t) → IsTerm (act σ φ t) → Step rules (act σ φ t) (act σ φ u)
unfolding act
raw_step-act {rules = rules} S w σ φ p q (over_root {t = t} {u = u} i) l h = root_step S w (act σ φ t) (act σ φ u) (instances_kept S rules w σ φ t u p q i) l h
raw_step-act S w σ φ p q (over_beta {t = t} {u = u} e) l h = beta (ap (act σ φ) e ∙ act-opened σ φ u t)
raw_step-act S w σ φ p q (over_function s) l h = in_function (raw_step-act S w σ φ p q s l.0 h.0)
raw_step-act S w σ φ p q (over_argument s) l h = in_argument (raw_step-act S w σ φ p q s l.1 h.1)
raw_step-act S w σ φ p q (over_body {a = a} {t = t} {t' = t'} s) l h =
    body_step a (act (up σ) (up_free φ) t) (act (up σ) (up_free φ) t') (λ x.
    subst₂ (Step _) (sym (opened-act (free x a) σ φ t)) (sym (opened-act (free x a) σ φ t'))
    (raw_step-act S w (cons (free x a) σ) φ (term_cons x a σ p) q s (subst (LooseBelow 0) (opened-act (free x a) σ φ t) (loose-opened 0 (free x a) (act (up σ) (up_free φ) t) tt l))
    (subst IsTerm (opened-act (free x a) σ φ t) (term-opened (free x a) (act (up σ) (up_free φ) t) tt h))))

pub raw_step : {rules : List RewriteRule} {t u : Tm} (S : Symbols) → AreWellMade S rules → RawStep rules t u → LooseBelow 0 t → IsTerm t → Step rules t u
raw_step {rules = rules} {t = t} {u = u} S w s l p =
    subst₂ (Step rules) (act-id t) (act-id u) (raw_step-act S w bound free (λ i. tt) (λ x a. tt) s (subst (LooseBelow 0) (sym (act-id t)) l) (subst IsTerm (sym (act-id t)) p))

-- a substitution of terms without loose variables keeps steps
pub step-act : {rules : List RewriteRule} {t u : Tm} (S : Symbols) → AreWellMade S rules → (φ : ℕ → Ty → Tm) → LooseBelow 0 t → IsTerm t → ((x : ℕ) (a : Ty) → LooseBelow 0 (φ x a)) → AreFreeTerms φ
    → Step rules t u → Step rules (act bound φ t) (act bound φ u)
step-act {rules = rules} {t = t} S w φ l p h k s =
    raw_step S w (over-act (instances_kept S rules w) bound φ (λ i. tt) k (step_raw S w s)) (loose-act 0 0 bound φ t (λ i b. b) h l) (term-act bound φ t (λ i. tt) k p)

-- opening with a term without loose variables keeps steps of bodies
pub step-opened : {rules : List RewriteRule} {t t' : Tm} (S : Symbols) → AreWellMade S rules → LooseBelow 1 t → IsTerm t → RawStep rules t t' → (u : Tm) → LooseBelow 0 u → IsTerm u
    → Step rules (opened u t) (opened u t')
step-opened {rules = rules} {t = t} S w l p s u k q = raw_step S w (over-opened (instances_kept S rules w) u q s) (loose-opened 0 u t k l) (term-opened u t q p)

-- the left side of a rule gives no abstraction
no_root-lam : {rules : List RewriteRule} (S : Symbols) → AreWellMade S rules → (a : Ty) (t v : Tm) → Instance rules (lam a t) v → ⊥
no_root-lam S w a t v (instance_of r g c f h e d) =
    let m = w.each r c in
    let named : head (lam a t) ≡ fun m.headed.0 = ap head e ∙ head-value 0 g r.left (spine_left S r m) m.headed.0 m.headed.1 in
    absurd (cc)

raw_step-lam : {rules : List RewriteRule} (S : Symbols) → AreWellMade S rules → (a : Ty) (t v : Tm) → RawStep rules (lam a t) v → (t' : Tm) × (v ≡ lam a t') × RawStep rules t t'
raw_step-lam S w a t v (over_root r) = absurd (no_root-lam S w a t v r)
raw_step-lam S w a t v (over_body {t' = t'} s) = (t', refl, s)

pub step-lam : {rules : List RewriteRule} (S : Symbols) → AreWellMade S rules → (a : Ty) (t v : Tm) → LooseBelow 0 (lam a t) → IsTerm (lam a t) → Step rules (lam a t) v
    → (t' : Tm) × (v ≡ lam a t') × ((u : Tm) → LooseBelow 0 u → IsTerm u → Step rules (opened u t) (opened u t'))
step-lam S w a t v l p s = let (t', e, r) = raw_step-lam S w a t v (step_raw S w s) in (t', e, step-opened S w (loose-more (0 + 1) 1 t (omega arith) l) p r)
