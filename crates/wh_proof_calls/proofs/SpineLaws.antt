-- Spines: their heads and arguments, and values and substitutions in them.
use Rattle.std.proofs.Common.{◌≡◌, ℕ, ◌+◌, List, [], ◌∷◌, ◌++◌, length, map, refl, ap, sym, ◌∙◌, append_assoc, append-nil, arith}
use Rattle.wh_types.specs.Ty.{Ty}
use Rattle.wh_terms.specs.Tree.{Tm, bound, free, fun, meta, lam, app, spine, head, argument_count}
use Rattle.wh_terms.specs.Substitution.{act}
use Rattle.wh_terms.specs.Value.{Body}
use Rattle.wh_terms.proofs.ValueForm.{value}
use Rattle.wh_step_laws.proofs.Candidates.{head-spine}
use Rattle.wh_step_laws.proofs.Spines.{spine-append}
use Rattle.wh_pairs.specs.Spines.{spine_arguments}
use Rattle.wh_proof_calls.proofs.Puts.{inst}
use Rattle.wh_order_extended.proofs.SiftValues.{value-spine}

-- a tree is its head with its arguments
pub spine-arguments_head : (t : Tm) → spine (head t) (spine_arguments t) ≡ t
spine-arguments_head (bound i) = refl
spine-arguments_head (free x a) = refl
spine-arguments_head (fun f) = refl
spine-arguments_head (meta z ts) = refl
spine-arguments_head (lam a t) = refl
spine-arguments_head (app t u) = spine-append (head t) (spine_arguments t) (u ∷ []) ∙ ap (λ t. app t u) (spine-arguments_head t)

pub count-spine : (h : Tm) (ts : List Tm) → argument_count (spine h ts) ≡ argument_count h + length ts
count-spine h [] = omega arith
count-spine h (t ∷ ts) = omega (arith, count-spine (app h t) ts)

pub count-arguments : (t : Tm) → argument_count t ≡ length (spine_arguments t)
count-arguments (bound i) = refl
count-arguments (free x a) = refl
count-arguments (fun f) = refl
count-arguments (meta z ts) = refl
count-arguments (lam a t) = refl
count-arguments (app t u) = ap (λ n. n + 1) (count-arguments t) ∙ sym (length-push (spine_arguments t) u)
  where
    length-push : (ts : List Tm) (u : Tm) → length (ts ++ u ∷ []) ≡ length ts + 1
    length-push [] u = refl
    length-push (t ∷ ts) u = omega (arith, length-push ts u)

pub arguments-spine : (h : Tm) (ts : List Tm) → spine_arguments (spine h ts) ≡ spine_arguments h ++ ts
arguments-spine h [] = sym (append-nil (spine_arguments h))
arguments-spine h (t ∷ ts) = arguments-spine (app h t) ts ∙ append_assoc (spine_arguments h) (t ∷ []) ts

pub arguments-symbol_spine : (f : ℕ) (ts : List Tm) → spine_arguments (spine (fun f) ts) ≡ ts
arguments-symbol_spine f ts = arguments-spine (fun f) ts

pub head-symbol_spine : (f : ℕ) (ts : List Tm) → head (spine (fun f) ts) ≡ fun f
head-symbol_spine f ts = head-spine (fun f) ts

-- a tree that is headed by a symbol is the symbol with its arguments
pub symbol-spine : (f : ℕ) (t : Tm) → head t ≡ fun f → spine (fun f) (spine_arguments t) ≡ t
symbol-spine f t e = ap (λ h. spine h (spine_arguments t)) (sym e) ∙ spine-arguments_head t

pub value-symbol_spine : (g : ℕ → Body) (f : ℕ) (ts : List Tm) → value g (spine (fun f) ts) ≡ spine (fun f) (map (value g) ts)
unfolding value
value-symbol_spine g f ts = value-spine g (fun f) ts

pub act-spine : (σ : ℕ → Tm) (φ : ℕ → Ty → Tm) (h : Tm) (ts : List Tm) → act σ φ (spine h ts) ≡ spine (act σ φ h) (map (act σ φ) ts)
unfolding act
act-spine σ φ h [] = refl
act-spine σ φ h (t ∷ ts) = act-spine σ φ (app h t) ts

pub act-symbol_spine : (σ : ℕ → Tm) (φ : ℕ → Ty → Tm) (f : ℕ) (ts : List Tm) → act σ φ (spine (fun f) ts) ≡ spine (fun f) (map (act σ φ) ts)
unfolding act
act-symbol_spine σ φ f ts = act-spine σ φ (fun f) ts

pub inst-spine : (g : ℕ → Body) (σ : ℕ → Tm) (h : Tm) (ts : List Tm) → inst g σ (spine h ts) ≡ spine (inst g σ h) (map (inst g σ) ts)
unfolding value act
inst-spine g σ h [] = refl
inst-spine g σ h (t ∷ ts) = inst-spine g σ (app h t) ts

pub inst-symbol_spine : (g : ℕ → Body) (σ : ℕ → Tm) (f : ℕ) (ts : List Tm) → inst g σ (spine (fun f) ts) ≡ spine (fun f) (map (inst g σ) ts)
unfolding value act
inst-symbol_spine g σ f ts = inst-spine g σ (fun f) ts
