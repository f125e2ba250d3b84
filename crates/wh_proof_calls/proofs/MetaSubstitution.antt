-- Substitution of meta-terms before values are taken.
use Rattle.std.proofs.Common.{◌≡◌, ℕ, zero, suc, refl, ap, ap₂, sym, ◌∙◌, inl, inr}
use Rattle.wh_terms.specs.Tree.{Tm, bound, free, fun, meta, lam, app, Tms, none, more}
use Rattle.wh_terms.specs.Substitution.{up_renaming, rename, renames, up, up_free, act, acts}
use Rattle.wh_terms.specs.Sight.{Occurs, OccursIn}
use Rattle.wh_terms.specs.Value.{Body, parameters}
use Rattle.wh_terms.proofs.RenamingLaws.{count-renames}
use Rattle.wh_terms.proofs.ActLaws.{act_same, rename-is-act, count-acts}
use Rattle.wh_terms.proofs.ValueForm.{acted, value, values, value_agree, FitsArities, AllFitArities, FitsBodies, AllFitBodies, act-value}
use Rattle.wh_proof_calls.proofs.WholeBodies.{IsShut, ShutBodies, ShutBodiesIn, act_shut_body, value-shifted, inst-meta}

mutual
  unfolding rename renames

  pub occurs-rename-back : (z : ℕ) (ρ : ℕ → ℕ) (t : Tm) → Occurs z (rename ρ t) → Occurs z t
  occurs-rename-back z ρ (bound i) o = o
  occurs-rename-back z ρ (free x a) o = o
  occurs-rename-back z ρ (fun f) o = o
  occurs-rename-back z ρ (meta y ts) (inl e) = inl e
  occurs-rename-back z ρ (meta y ts) (inr o) = inr (occurs_in-renames-back z ρ ts o)
  occurs-rename-back z ρ (lam a t) o = occurs-rename-back z (up_renaming ρ) t o
  occurs-rename-back z ρ (app t u) (inl o) = inl (occurs-rename-back z ρ t o)
  occurs-rename-back z ρ (app t u) (inr o) = inr (occurs-rename-back z ρ u o)

  pub occurs_in-renames-back : (z : ℕ) (ρ : ℕ → ℕ) (ts : Tms) → OccursIn z (renames ρ ts) → OccursIn z ts
  occurs_in-renames-back z ρ none o = o
  occurs_in-renames-back z ρ (more t ts) (inl o) = inl (occurs-rename-back z ρ t o)
  occurs_in-renames-back z ρ (more t ts) (inr o) = inr (occurs_in-renames-back z ρ ts o)

-- P holds of each meta-variable that occurs in what is put for the loose variables
abbrev pub OnPut : (ℕ → Type 0) → (ℕ → Tm) → Type 0
OnPut P τ = (i z : ℕ) → Occurs z (τ i) → P z

on_put-up : (P : ℕ → Type 0) (τ : ℕ → Tm) → OnPut P τ → OnPut P (up τ)
unfolding up
on_put-up P τ h zero z o = absurd o
on_put-up P τ h (suc i) z o = h i z (occurs-rename-back z suc (τ i) o)

mutual
  unfolding act acts up_free rename

  -- what holds of the meta-variables of a meta-term, and of those that are put in, holds of those after it
  pub occurs-act-back : (P : ℕ → Type 0) (τ : ℕ → Tm) (t : Tm) → OnPut P τ → ((z : ℕ) → Occurs z t → P z) → (z : ℕ)
      → Occurs z (act τ free t) → P z
  occurs-act-back P τ (bound i) h k z o = h i z o
  occurs-act-back P τ (free x a) h k z o = absurd o
  occurs-act-back P τ (fun f) h k z o = absurd o
  occurs-act-back P τ (meta y ts) h k z (inl e) = k z (inl e)
  occurs-act-back P τ (meta y ts) h k z (inr o) = occurs_in-acts-back P τ ts h (λ w p. k w (inr p)) z o
  occurs-act-back P τ (lam a t) h k z o = occurs-act-back P (up τ) t (on_put-up P τ h) k z o
  occurs-act-back P τ (app t u) h k z (inl o) = occurs-act-back P τ t h (λ w p. k w (inl p)) z o
  occurs-act-back P τ (app t u) h k z (inr o) = occurs-act-back P τ u h (λ w p. k w (inr p)) z o

  pub occurs_in-acts-back : (P : ℕ → Type 0) (τ : ℕ → Tm) (ts : Tms) → OnPut P τ → ((z : ℕ) → OccursIn z ts → P z) → (z : ℕ)
      → OccursIn z (acts τ free ts) → P z
  occurs_in-acts-back P τ none h k z o = absurd o
  occurs_in-acts-back P τ (more t ts) h k z (inl o) = occurs-act-back P τ t h (λ w p. k w (inl p)) z o
  occurs_in-acts-back P τ (more t ts) h k z (inr o) = occurs_in-acts-back P τ ts h (λ w p. k w (inr p)) z o

mutual
  unfolding rename renames

  pub fits-rename : (n : ℕ → ℕ) (ρ : ℕ → ℕ) (t : Tm) → FitsArities n t → FitsArities n (rename ρ t)
  fits-rename n ρ (bound i) f = tt
  fits-rename n ρ (free x a) f = tt
  fits-rename n ρ (fun c) f = tt
  fits-rename n ρ (meta z ts) f = (f.0 ∙ sym (count-renames ρ ts), all_fit-renames n ρ ts f.1)
  fits-rename n ρ (lam a t) f = fits-rename n (up_renaming ρ) t f
  fits-rename n ρ (app t u) f = (fits-rename n ρ t f.0, fits-rename n ρ u f.1)

  pub all_fit-renames : (n : ℕ → ℕ) (ρ : ℕ → ℕ) (ts : Tms) → AllFitArities n ts → AllFitArities n (renames ρ ts)
  all_fit-renames n ρ none f = tt
  all_fit-renames n ρ (more t ts) f = (fits-rename n ρ t f.0, all_fit-renames n ρ ts f.1)

fits-up : (n : ℕ → ℕ) (τ : ℕ → Tm) → ((i : ℕ) → FitsArities n (τ i)) → (i : ℕ) → FitsArities n (up τ i)
unfolding up
fits-up n τ h zero = tt
fits-up n τ h (suc i) = fits-rename n suc (τ i) (h i)

mutual
  unfolding act acts up_free rename

  -- bodies fit what is made of fitting meta-terms
  pub fits-put : (n : ℕ → ℕ) (τ : ℕ → Tm) (t : Tm) → ((i : ℕ) → FitsArities n (τ i)) → FitsArities n t → FitsArities n (act τ free t)
  fits-put n τ (bound i) h f = h i
  fits-put n τ (free x a) h f = tt
  fits-put n τ (fun c) h f = tt
  fits-put n τ (meta z ts) h f = (f.0 ∙ sym (count-acts τ free ts), all_fit-puts n τ ts h f.1)
  fits-put n τ (lam a t) h f = fits-put n (up τ) t (fits-up n τ h) f
  fits-put n τ (app t u) h f = (fits-put n τ t h f.0, fits-put n τ u h f.1)

  pub all_fit-puts : (n : ℕ → ℕ) (τ : ℕ → Tm) (ts : Tms) → ((i : ℕ) → FitsArities n (τ i)) → AllFitArities n ts
      → AllFitArities n (acts τ free ts)
  all_fit-puts n τ none h f = tt
  all_fit-puts n τ (more t ts) h f = (fits-put n τ t h f.0, all_fit-puts n τ ts h f.1)

acted_shut : (σ : ℕ → Tm) (g : ℕ → Body) (z : ℕ) → IsShut g z → acted σ free g z ≡ g z
acted_shut σ g z l =
    let put : Tm → Body = λ b. record { arity = (g z).arity; tree = b } in
    ap put (act_shut_body σ (g z) l)

-- the value of a renamed meta-term
pub value-rename : (g : ℕ → Body) (ρ : ℕ → ℕ) (t : Tm) → ShutBodies g t → FitsBodies g t → value g (rename ρ t) ≡ rename ρ (value g t)
value-rename g ρ t h f =
    let σ : ℕ → Tm = λ i. bound (ρ i) in
    ap (value g) (rename-is-act ρ t)
    ∙ value_agree g (acted σ free g) (act σ free t)
    (λ z o. sym (acted_shut σ g z (occurs-act-back (IsShut g) σ t (λ i y p. absurd p) h z o)))
    ∙ sym (act-value σ free g t (λ i. tt) (λ x a. tt) f) ∙ sym (rename-is-act ρ (value g t))

value-up : (g : ℕ → Body) (τ : ℕ → Tm) → ((i : ℕ) → ShutBodies g (τ i)) → ((i : ℕ) → FitsBodies g (τ i)) → (i : ℕ)
    → value g (up τ i) ≡ up (λ j. value g (τ j)) i
unfolding up value
value-up g τ h f zero = refl
value-up g τ h f (suc i) = value-rename g suc (τ i) (h i) (f i)

mutual
  unfolding act acts value values up_free rename

  -- the value of a meta-term with meta-terms put for its loose variables
  pub value-act : (g : ℕ → Body) (τ : ℕ → Tm) (t : Tm) → ShutBodies g t → ((i : ℕ) → ShutBodies g (τ i)) → FitsBodies g t
      → ((i : ℕ) → FitsBodies g (τ i))
      → value g (act τ free t) ≡ act (λ i. value g (τ i)) free (value g t)
  value-act g τ (bound i) h k f e = refl
  value-act g τ (free x a) h k f e = refl
  value-act g τ (fun c) h k f e = refl
  value-act g τ (meta z ts) h k f e =
      ap (λ us. act (parameters us bound) free (g z).tree) (values-acts g τ ts (λ y o. h y (inr o)) k f.1 e)
      ∙ sym (inst-meta g (λ i. value g (τ i)) z ts (h z (inl refl)) f.0)
  value-act g τ (lam a t) h k f e =
      ap (lam a) (value-shifted g (act (up τ) free t) (occurs-act-back (IsShut g) (up τ) t (on_put-up (IsShut g) τ k) h)
      ∙ value-act g (up τ) t h (on_put-up (IsShut g) τ k) f (fits-up (λ z. (g z).arity) τ e)
      ∙ act_same (value-up g τ k e) (λ x b. refl) (value g t)
      ∙ ap (act (up (λ i. value g (τ i))) free) (sym (value-shifted g t h)))
  value-act g τ (app t u) h k f e = ap₂ app (value-act g τ t (λ z o. h z (inl o)) k f.0 e) (value-act g τ u (λ z o. h z (inr o)) k f.1 e)

  pub values-acts : (g : ℕ → Body) (τ : ℕ → Tm) (ts : Tms) → ShutBodiesIn g ts → ((i : ℕ) → ShutBodies g (τ i)) → AllFitBodies g ts
      → ((i : ℕ) → FitsBodies g (τ i))
      → values g (acts τ free ts) ≡ acts (λ i. value g (τ i)) free (values g ts)
  values-acts g τ none h k f e = refl
  values-acts g τ (more t ts) h k f e =
      ap₂ more (value-act g τ t (λ z o. h z (inl o)) k f.0 e) (values-acts g τ ts (λ z o. h z (inr o)) k f.1 e)
