-- Inferences are steps at the root, or below it, of instances.
use Rattle.std.proofs.Common.{◌≡◌, ◌≢◌, ℕ, zero, suc, ◌<◌, inl, inr, List, [], ◌∷◌, map, refl, ap, ◌∙◌, sym, eqb, eq-eqb, ne_eqb, true, false, Bool, arith, if◌then◌else◌}
use mathlib.Core.Path.{subst₂}
use Rattle.wh_types.specs.Ty.{Ty}
use Rattle.wh_terms.specs.Tree.{Tm, bound, free, lam, app, spine}
use Rattle.wh_terms.specs.Substitution.{up, up_free, act, cons, opened}
use Rattle.wh_terms.specs.Sight.{LooseBelow, Fresh, IsTerm}
use Rattle.wh_terms.specs.Typing.{Symbols, Declared, Typed, typed_lam}
use Rattle.wh_terms.specs.Value.{Body, Value}
use Rattle.wh_terms.specs.StepOver.{StepOver, over_root, over_function, over_argument, over_body, AreFreeTerms}
use Rattle.wh_terms.proofs.ActLaws.{act-opened-cons, opened-act}
use Rattle.wh_terms.proofs.SightLaws.{act_loose, act_fresh}
use Rattle.wh_terms.proofs.TermLaws.{term-rename}
use Rattle.wh_terms.proofs.TypingLaws.{typed_loose}
use Rattle.wh_terms.proofs.ValueForm.{shifted, value, FitsBodies}
use Rattle.wh_order_extended.proofs.Acted.{typed_fits}
use Rattle.wh_order_path.specs.OrderRoot.{OrderRoot}
use Rattle.wh_terms.proofs.ValueLaws.{value_is, has_value, fits-act, opened-value}
use Rattle.wh_order_inference.specs.Inferences.{same_trees, Inference, Inferences, letter_of}
use Rattle.wh_order_path.specs.Heads.{SomeStrict}
use Rattle.wh_order_path.specs.Order.{AtLeast, at_least_same, at_least_greater, AllAtLeast, none_at_least, more_at_least, Greater, by_bodies, by_arguments, by_above}
use Rattle.wh_order_extended.specs.Kinds.{AreCounted}
use Rattle.wh_order_extended.specs.Many.{Many, stay, Plus}
use Rattle.wh_order_extended.proofs.ManyLaws.{many_both, many_equal, many_map, plus_many, plus_after, plus_before, plus_map}

-- what is put for free variables, with w for those that are numbered x
pub instead : ℕ → Tm → (ℕ → Ty → Tm) → ℕ → Ty → Tm
instead x w φ y b = if eqb y x then w else φ y b

pub instead_same : (x : ℕ) (w : Tm) (φ : ℕ → Ty → Tm) (b : Ty) → instead x w φ x b ≡ w
unfolding instead
instead_same x w φ b = ap (λ c. if c then w else φ x b) (eq-eqb x x refl)

pub instead_other : (x : ℕ) (w : Tm) (φ : ℕ → Ty → Tm) (y : ℕ) (b : Ty) → y ≢ x → instead x w φ y b ≡ φ y b
unfolding instead
instead_other x w φ y b n = ap (λ c. if c then w else φ y b) (ne_eqb y x n)

pub instead_terms : (x : ℕ) (w : Tm) (φ : ℕ → Ty → Tm) → IsTerm w → AreFreeTerms φ → AreFreeTerms (instead x w φ)
unfolding instead
instead_terms x w φ t h y b = on (eqb y x)
  where
    on : (c : Bool) → IsTerm (if c then w else φ y b)
    on true = t
    on false = h y b

pub free_up : (φ : ℕ → Ty → Tm) → AreFreeTerms φ → AreFreeTerms (up_free φ)
unfolding up_free
free_up φ h x b = term-rename suc (φ x b) (h x b)

-- the instance of a tree: its free variables by φ, its meta-variables by g
abbrev pub inst : (ℕ → Body) → (ℕ → Ty → Tm) → Tm → Tm
inst g φ t = value g (act bound φ t)

pub inst-spine : (g : ℕ → Body) (φ : ℕ → Ty → Tm) (h : Tm) (ts : List Tm) → inst g φ (spine h ts) ≡ spine (inst g φ h) (map (inst g φ) ts)
unfolding value act
inst-spine g φ h [] = refl
inst-spine g φ h (t ∷ ts) = inst-spine g φ (app h t) ts

-- the instance is the value of what the substitution makes
pub inst_is : {F : Symbols} {M : List Declared} {Γ : List Ty} {t : Tm} {a : Ty} (g : ℕ → Body) (φ : ℕ → Ty → Tm) → AreCounted M g → AreFreeTerms φ → Typed F M Γ t a → Value g (act bound φ t) (inst g φ t)
inst_is {t = t} g φ c h p = has_value g (act bound φ t) (fits-act (λ z. (g z).arity) bound φ t (λ i. tt) h (typed_fits g c p))

module _ (g : ℕ → Body) (φ : ℕ → Ty → Tm) (x : ℕ) (a : Ty) (t : Tm) (fresh : Fresh x t) where
  -- a variable that opens a body, for the variable of the binder
  body_in : LooseBelow 1 t → act bound (instead x (bound 0) (up_free φ)) (opened (free x a) t) ≡ act (up bound) (up_free φ) t
  unfolding act cons up
  body_in l =
      let ψ = instead x (bound 0) (up_free φ) in
      act-opened-cons bound ψ (free x a) t ∙ ap (λ u. act (cons u bound) ψ t) (instead_same x (bound 0) (up_free φ) a)
      ∙ act_loose 1 (cons (bound 0) bound) (up bound) ψ t l first
      ∙ act_fresh x (up bound) ψ (up_free φ) t fresh (λ y b n. instead_other x (bound 0) (up_free φ) y b n)
    where
      first : (i : ℕ) → i < 1 → cons (bound 0) bound i ≡ up bound i
      first zero h = refl
      first (suc i) h = absurd (omega arith)

  pub body_inst : LooseBelow 1 t → value (shifted g) (act (up bound) (up_free φ) t) ≡ inst (shifted g) (instead x (bound 0) (up_free φ)) (opened (free x a) t)
  body_inst l = ap (value (shifted g)) (sym (body_in l))

  -- the same with a term in its place
  pub opened_inst : (w : Tm) → IsTerm w → FitsBodies g (act (up bound) (up_free φ) t)
      → opened w (value (shifted g) (act (up bound) (up_free φ) t)) ≡ inst g (instead x w φ) (opened (free x a) t)
  unfolding act
  opened_inst w term fit =
      let ψ = instead x w φ in
      opened-value w g (act (up bound) (up_free φ) t) term fit
      ∙ ap (value g) (opened-act w bound φ t
      ∙ sym (act-opened-cons bound ψ (free x a) t ∙ ap (λ u. act (cons u bound) ψ t) (instead_same x w φ a)
      ∙ act_fresh x (cons w bound) ψ φ t fresh (λ y b n. instead_other x w φ y b n)))

many_spine : {R : Tm → Tm → Type 0} (ts : List Tm) {t u : Tm} → Many (StepOver R) t u → Many (StepOver R) (spine t ts) (spine u ts)
many_spine [] m = m
many_spine (v ∷ ts) m = many_spine ts (many_map (λ t. app t v) (λ t u s. over_function s) m)

over_spine : {R : Tm → Tm → Type 0} (ts : List Tm) {t u : Tm} → StepOver R t u → StepOver R (spine t ts) (spine u ts)
over_spine [] s = s
over_spine (v ∷ ts) s = over_spine ts (over_function s)

module _ (F : Symbols) (prec : ℕ → ℕ) where
  abbrev pub Root : Tm → Tm → Type 0
  Root = OrderRoot F prec

  pub left_is : {U V : Tm} (r : Root U V) → U ≡ inst r.bodies r.frees r.left
  left_is r = (value_is r.is_left).1

  pub right_is : {U V : Tm} (r : Root U V) → V ≡ inst r.bodies r.frees r.right
  right_is r = (value_is r.is_right).1

  lam_loose : {M : List Declared} {a c : Ty} {t : Tm} → Typed F M [] (lam a t) c → LooseBelow 1 t
  lam_loose (typed_lam s p) = typed_loose p

  mutual
    unfolding value act

    pub greater_steps : {M : List Declared} {s t : Tm} {i : Inference} → Greater F prec M s t i → (g : ℕ → Body) (φ : ℕ → Ty → Tm) → AreCounted M g → AreFreeTerms φ
        → Plus (StepOver Root) (inst g φ s) (inst g φ t)
    greater_steps (by_bodies {a = a} {s = s} {t = t} x p q o r) g φ c h =
        let terms : AreFreeTerms (instead x (bound 0) (up_free φ)) = instead_terms x (bound 0) (up_free φ) tt (free_up φ h) in
        plus_map (lam a) (λ t u s. over_body s) (subst₂ (Plus (StepOver Root)) (sym (body_inst g φ x a s p (lam_loose o.left))) (sym (body_inst g φ x a t q (lam_loose o.right)))
        (greater_steps r (shifted g) (instead x (bound 0) (up_free φ)) c terms))
    greater_steps (by_arguments h ss ts other e d o r k) g φ c w =
        subst₂ (Plus (StepOver Root)) (sym (ap (inst g φ) e ∙ inst-spine g φ h ss)) (sym (ap (inst g φ) d ∙ inst-spine g φ h ts)) (some_steps r k (inst g φ h) g φ c w)
    greater_steps {M = M} {s = s} {t = t} {i = i} (by_above f ss e p q r) g φ c h = record {
      next = inst g φ t;
      first = over_root (record { metas = M; bodies = g; frees = φ; left = s; right = t; inference = i; symbol = f; given = ss; headed = e; counted = c; terms = h; typed_left = p; typed_right = q; above = r; is_left = inst_is g φ c h p; is_right = inst_is g φ c h q });
      others = stay;
    }

    pub at_least_steps : {M : List Declared} {s t : Tm} {i : Inference} → AtLeast F prec M s t i → (g : ℕ → Body) (φ : ℕ → Ty → Tm) → AreCounted M g → AreFreeTerms φ
        → Many (StepOver Root) (inst g φ s) (inst g φ t)
    at_least_steps (at_least_same e) g φ c h = many_equal (ap (inst g φ) e)
    at_least_steps (at_least_greater p) g φ c h = plus_many (greater_steps p g φ c h)

    all_steps : {M : List Declared} {ss ts : List Tm} {is : Inferences} → AllAtLeast F prec M ss ts is → (h : Tm) (g : ℕ → Body) (φ : ℕ → Ty → Tm) → AreCounted M g → AreFreeTerms φ
        → Many (StepOver Root) (spine h (map (inst g φ) ss)) (spine h (map (inst g φ) ts))
    all_steps none_at_least h g φ c w = stay
    all_steps (more_at_least {s = s} {t = t} {ss = ss} p r) h g φ c w =
        many_both (many_spine (map (inst g φ) ss) (many_map (app h) (λ t u s. over_argument s) (at_least_steps p g φ c w)))
        (all_steps r (app h (inst g φ t)) g φ c w)

    some_steps : {M : List Declared} {ss ts : List Tm} {is : Inferences} → AllAtLeast F prec M ss ts is → SomeStrict is → (h : Tm) (g : ℕ → Body) (φ : ℕ → Ty → Tm) → AreCounted M g → AreFreeTerms φ
        → Plus (StepOver Root) (spine h (map (inst g φ) ss)) (spine h (map (inst g φ) ts))
    some_steps none_at_least k h g φ c w = absurd k
    some_steps (more_at_least {s = s} {t = t} {ss = ss} p r) (inr k) h g φ c w =
        plus_after (many_spine (map (inst g φ) ss) (many_map (app h) (λ t u s. over_argument s) (at_least_steps p g φ c w)))
        (some_steps r k (app h (inst g φ t)) g φ c w)
    some_steps (more_at_least {s = s} {t = t} {ss = ss} p r) (inl n) h g φ c w =
        plus_before (plus_map (λ u. spine (app h u) (map (inst g φ) ss)) (λ t u s. over_spine (map (inst g φ) ss) (over_argument s)) (strict_steps p n g φ c w))
        (all_steps r (app h (inst g φ t)) g φ c w)

    pub strict_steps : {M : List Declared} {s t : Tm} {i : Inference} → AtLeast F prec M s t i → letter_of i ≢ same_trees → (g : ℕ → Body) (φ : ℕ → Ty → Tm) → AreCounted M g → AreFreeTerms φ
        → Plus (StepOver Root) (inst g φ s) (inst g φ t)
    strict_steps (at_least_same e) n g φ c w = absurd (n refl)
    strict_steps (at_least_greater p) n g φ c w = greater_steps p g φ c w
