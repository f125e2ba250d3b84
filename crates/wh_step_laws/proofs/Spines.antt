-- Spines: what they are made of, their types, and how those headed by symbols step.
use Rattle.std.proofs.Common.{◌≡◌, ℕ, List, [], ◌∷◌, ◌++◌, ◌⊎◌, inl, inr, refl, ap, sym, ◌∙◌, append-nil}
use Rattle.wh_types.specs.Ty.{Ty, ◌⇒◌, result_sort}
use Rattle.wh_terms.specs.Tree.{Tm, free, fun, lam, app, spine, head}
use Rattle.wh_terms.specs.Substitution.{opened}
use Rattle.wh_terms.specs.Typing.{Symbols, Typed, typed_app}
use Rattle.wh_terms.specs.StepOver.{StepOver, over_root, over_beta, over_function, over_argument}
use Rattle.wh_step_laws.specs.RootRelations.{IsRoot}
use Rattle.wh_step_laws.specs.Ends.{StepsIn, step_here, step_there}
use Rattle.wh_step_laws.specs.Spines.{HeadStep, ArgumentStep, FrontStep, OpeningStep}
use Rattle.wh_step_laws.proofs.Candidates.{head-spine, still_free}

-- the arguments of the spine that a tree is, before those of the list
abbrev pub arguments_before : Tm → List Tm → List Tm
arguments_before (app t u) l = arguments_before t (u ∷ l)
arguments_before _ l = l

arguments_before-spine : (h : Tm) (ts l : List Tm) → arguments_before (spine h ts) l ≡ arguments_before h (ts ++ l)
arguments_before-spine h [] l = refl
arguments_before-spine h (t ∷ ts) l = arguments_before-spine (app h t) ts l

fun_one : (f g : ℕ) → fun f ≡ fun g → f ≡ g
fun_one f g e = cc

-- spines headed by symbols are equal where the symbols and the arguments are
pub spine_one : (f g : ℕ) (ts us : List Tm) → spine (fun f) ts ≡ spine (fun g) us → (f ≡ g) × (ts ≡ us)
spine_one f g ts us e = (
  fun_one f g (sym (head-spine (fun f) ts) ∙ ap head e ∙ head-spine (fun g) us),
  sym (append-nil ts) ∙ sym (arguments_before-spine (fun f) ts []) ∙ ap (λ t. arguments_before t []) e ∙ arguments_before-spine (fun g) us [] ∙ append-nil us,
)

pub spine-append : (h : Tm) (ts us : List Tm) → spine h (ts ++ us) ≡ spine (spine h ts) us
spine-append h [] us = refl
spine-append h (t ∷ ts) us = spine-append (app h t) ts us

-- the head of a typed spine has a type with the same result
pub spine_head_typed : {S : Symbols} {Γ : List Ty} {a : Ty} (h : Tm) (ts : List Tm) → Typed S [] Γ (spine h ts) a → (b : Ty) × Typed S [] Γ h b × (result_sort b ≡ result_sort a)
spine_head_typed {a = a} h [] p = (a, p, refl)
spine_head_typed {S = S} {Γ = Γ} {a = a} h (t ∷ ts) p =
    let (b, q, e) = spine_head_typed (app h t) ts p in
    less q e
  where
    less : {b : Ty} → Typed S [] Γ (app h t) b → result_sort b ≡ result_sort a → (c : Ty) × Typed S [] Γ h c × (result_sort c ≡ result_sort a)
    less (typed_app {a = c} {b = b} p q) e = (c ⇒ b, p, e)

-- a step of a spine: at its head, in an argument, by R at a front part, or by beta with the first argument
pub data SpineStep (R : Tm → Tm → Type 0) : Tm → List Tm → Tm → Type 0 where
  at_head : {h h' v : Tm} {ts : List Tm} → StepOver R h h' → v ≡ spine h' ts → SpineStep R h ts v
  in_member : {h v : Tm} {ts ts' : List Tm} → StepsIn (StepOver R) ts ts' → v ≡ spine h ts' → SpineStep R h ts v
  at_front : {h v : Tm} {ts : List Tm} (us ws : List Tm) (w : Tm) → ts ≡ us ++ ws → R (spine h us) w → v ≡ spine w ws → SpineStep R h ts v
  by_beta : {h v : Tm} {ts : List Tm} (a : Ty) (s u : Tm) (us : List Tm) → h ≡ lam a s → ts ≡ u ∷ us → v ≡ spine (opened u s) us → SpineStep R h ts v

app_step : {R : Tm → Tm → Type 0} {w v : Tm} (h t : Tm) (ts : List Tm) → StepOver R (app h t) w → v ≡ spine w ts → SpineStep R h (t ∷ ts) v
app_step {w = w} h t ts (over_root r) d = at_front (t ∷ []) ts w refl r d
app_step h t ts (over_beta {a = a} {t = s} b) d = by_beta a s t ts refl refl (d ∙ ap (λ w. spine w ts) b)
app_step h t ts (over_function s) d = at_head s d
app_step h t ts (over_argument s) d = in_member (step_here s) d

spine_step_more : {R : Tm → Tm → Type 0} {v : Tm} (h t : Tm) (ts : List Tm) → SpineStep R (app h t) ts v → SpineStep R h (t ∷ ts) v
spine_step_more h t ts (at_head s d) = app_step h t ts s d
spine_step_more h t ts (in_member s d) = in_member (step_there s) d
spine_step_more h t ts (at_front us ws w c r d) = at_front (t ∷ us) ws w (ap (λ l. t ∷ l) c) r d
spine_step_more h t ts (by_beta a s u us e c d) = absurd (cc)

pub spine_step : {R : Tm → Tm → Type 0} {v : Tm} (h : Tm) (ts : List Tm) → StepOver R (spine h ts) v → SpineStep R h ts v
spine_step h [] s = at_head s refl
spine_step h (t ∷ ts) s = spine_step_more h t ts (spine_step (app h t) ts s)

-- how a symbol with arguments steps
pub symbol_step : {R : Tm → Tm → Type 0} {v : Tm} (f : ℕ) (ts : List Tm) → StepOver R (spine (fun f) ts) v → ArgumentStep (StepOver R) (fun f) ts v ⊎ FrontStep R (fun f) ts v
symbol_step {R = R} {v = v} f ts s = cases (spine_step (fun f) ts s)
  where
    alone : {w : Tm} → StepOver R (fun f) w → v ≡ spine w ts → FrontStep R (fun f) ts v
    alone (over_root {u = w} r) e = ([], ts, w, refl, r, e)

    cases : SpineStep R (fun f) ts v → ArgumentStep (StepOver R) (fun f) ts v ⊎ FrontStep R (fun f) ts v
    cases (at_head h e) = inr (alone h e)
    cases (in_member {ts' = us} m e) = inl (us, m, e)
    cases (at_front us ws w c r e) = inr (us, ws, w, c, r, e)
    cases (by_beta a b u us e c d) = absurd (cc)

-- R relates no spine whose head is no symbol
front_head : {S : Symbols} {R : Tm → Tm → Type 0} → IsRoot S R → (h : Tm) (us : List Tm) (w : Tm) → R (spine h us) w → (f : ℕ) × (head h ≡ fun f)
front_head root h us w r = let (f, e) = root.headed (spine h us) w r in (f, sym (head-spine h us) ∙ e)

-- how a variable with arguments steps
pub variable_step : {S : Symbols} {R : Tm → Tm → Type 0} {v : Tm} → IsRoot S R → (x : ℕ) (a : Ty) (ts : List Tm) → StepOver R (spine (free x a) ts) v → ArgumentStep (StepOver R) (free x a) ts v
variable_step {R = R} {v = v} root x a ts s = cases (spine_step (free x a) ts s)
  where
    cases : SpineStep R (free x a) ts v → ArgumentStep (StepOver R) (free x a) ts v
    cases (at_head {h' = w} h e) = absurd (still_free root x a w h)
    cases (in_member {ts' = us} m e) = (us, m, e)
    cases (at_front us ws w c r e) = let (f, d) = front_head root (free x a) us w r in absurd (cc)
    cases (by_beta b t u us e c d) = absurd (cc)

lam_body : {a b : Ty} {t u : Tm} → lam a t ≡ lam b u → t ≡ u
lam_body e = cc

-- how an abstraction with arguments steps
pub abstraction_spine_step : {S : Symbols} {R : Tm → Tm → Type 0} {v : Tm} → IsRoot S R → (a : Ty) (t : Tm) (ts : List Tm) → StepOver R (spine (lam a t) ts) v
    → HeadStep (StepOver R) (lam a t) ts v ⊎ (ArgumentStep (StepOver R) (lam a t) ts v ⊎ OpeningStep t ts v)
abstraction_spine_step {R = R} {v = v} root a t ts s = cases (spine_step (lam a t) ts s)
  where
    cases : SpineStep R (lam a t) ts v → HeadStep (StepOver R) (lam a t) ts v ⊎ (ArgumentStep (StepOver R) (lam a t) ts v ⊎ OpeningStep t ts v)
    cases (at_head {h' = w} h e) = inl (w, h, e)
    cases (in_member {ts' = us} m e) = inr (inl (us, m, e))
    cases (at_front us ws w c r e) = let (f, d) = front_head root (lam a t) us w r in absurd (cc)
    cases (by_beta b s u us e c d) = inr (inr (u, us, c, d ∙ ap (λ s. spine (opened u s) us) (sym (lam_body e))))
