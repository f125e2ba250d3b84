-- The value of a meta-term as a function: bodies are moved below the binders that they come under, and no binder is
-- opened. It is equal to the relation `Value` where the arities fit.
use Rattle.std.proofs.Common.{◌≡◌, ℕ, zero, suc, ◌+◌, refl, ap, ap₂, sym, ◌∙◌, one-add, inl, inr}
use Rattle.std.proofs.Math.Path.{fun_ext}
use Rattle.wh_types.specs.Ty.{Ty}
use Rattle.wh_terms.specs.Tree.{Tm, bound, free, fun, meta, lam, app, Tms, none, more, count}
use Rattle.wh_terms.specs.Substitution.{up_renaming, rename, up, up_free, act, acts, cons}
use Rattle.wh_terms.specs.Sight.{IsTerm, Occurs, OccursIn}
use Rattle.wh_terms.specs.Value.{Body, parameters}
use Rattle.wh_terms.proofs.RenamingLaws.{rename-up-suc}
use Rattle.wh_terms.proofs.ActLaws.{act_same, act-rename, rename-act, act-act, act-id, count-acts}
use Rattle.wh_terms.proofs.TermLaws.{term-rename, term-up}

-- a renaming, and a substitution, under n binders more
unfoldable pub up_times : ℕ → (ℕ → ℕ) → ℕ → ℕ
up_times zero ρ = ρ
up_times (suc n) ρ = up_times n (up_renaming ρ)

unfoldable pub up_many : ℕ → (ℕ → Tm) → ℕ → Tm
up_many zero σ = σ
up_many (suc n) σ = up_many n (up σ)

unfoldable pub up_free_many : ℕ → (ℕ → Ty → Tm) → ℕ → Ty → Tm
up_free_many zero φ = φ
up_free_many (suc n) φ = up_free_many n (up_free φ)

-- the bodies, moved below one binder: their parameters stay
abbrev pub shifted : (ℕ → Body) → ℕ → Body
shifted g z = record { arity = (g z).arity; tree = rename (up_times (g z).arity suc) (g z).tree }

-- the bodies after a substitution that does not touch their parameters
abbrev pub acted : (ℕ → Tm) → (ℕ → Ty → Tm) → (ℕ → Body) → ℕ → Body
acted σ φ g z = record { arity = (g z).arity; tree = act (up_many (g z).arity σ) (up_free_many (g z).arity φ) (g z).tree }

unfoldable mutual
  pub value : (ℕ → Body) → Tm → Tm
  value g (bound i) = bound i
  value g (free x a) = free x a
  value g (fun f) = fun f
  value g (meta z ts) = act (parameters (values g ts) bound) free (g z).tree
  value g (lam a t) = lam a (value (shifted g) t)
  value g (app t u) = app (value g t) (value g u)

  pub values : (ℕ → Body) → Tms → Tms
  values g none = none
  values g (more t ts) = more (value g t) (values g ts)

-- at each meta-application the body has as many parameters as there are arguments
abbrev mutual
  pub FitsArities : (ℕ → ℕ) → Tm → Type 0
  FitsArities n (meta z ts) = (n z ≡ count ts) × AllFitArities n ts
  FitsArities n (lam a t) = FitsArities n t
  FitsArities n (app t u) = FitsArities n t × FitsArities n u
  FitsArities n _ = Unit {0}

  pub AllFitArities : (ℕ → ℕ) → Tms → Type 0
  AllFitArities n none = Unit {0}
  AllFitArities n (more t ts) = FitsArities n t × AllFitArities n ts

abbrev pub FitsBodies : (ℕ → Body) → Tm → Type 0
FitsBodies g = FitsArities (λ z. (g z).arity)

abbrev pub AllFitBodies : (ℕ → Body) → Tms → Type 0
AllFitBodies g = AllFitArities (λ z. (g z).arity)

pub count-values : (g : ℕ → Body) (ts : Tms) → count (values g ts) ≡ count ts
unfolding values
count-values g none = refl
count-values g (more t ts) = ap (λ n. 1 + n) (count-values g ts)

-- a term is its own value
pub value_term : (g : ℕ → Body) (t : Tm) → IsTerm t → value g t ≡ t
unfolding value
value_term g (bound i) p = refl
value_term g (free x a) p = refl
value_term g (fun f) p = refl
value_term g (meta z ts) p = absurd p
value_term g (lam a t) p = ap (lam a) (value_term (shifted g) t p)
value_term g (app t u) p = ap₂ app (value_term g t p.0) (value_term g u p.1)

shifted_agree : (g h : ℕ → Body) (z : ℕ) → g z ≡ h z → shifted g z ≡ shifted h z
shifted_agree g h z e =
    let shift : Body → Body = λ b. record { arity = b.arity; tree = rename (up_times b.arity suc) b.tree } in
    ap shift e

mutual
  unfolding value values

  -- only the bodies of the meta-variables that occur matter
  pub value_agree : (g h : ℕ → Body) (t : Tm) → ((z : ℕ) → Occurs z t → g z ≡ h z) → value g t ≡ value h t
  value_agree g h (bound i) e = refl
  value_agree g h (free x a) e = refl
  value_agree g h (fun f) e = refl
  value_agree g h (meta z ts) e =
      ap₂ (λ us b. act (parameters us bound) free b) (values_agree g h ts (λ y o. e y (inr o))) (ap (λ b. b.tree) (e z (inl refl)))
  value_agree g h (lam a t) e = ap (lam a) (value_agree (shifted g) (shifted h) t (λ z o. shifted_agree g h z (e z o)))
  value_agree g h (app t u) e = ap₂ app (value_agree g h t (λ z o. e z (inl o))) (value_agree g h u (λ z o. e z (inr o)))

  pub values_agree : (g h : ℕ → Body) (ts : Tms) → ((z : ℕ) → OccursIn z ts → g z ≡ h z) → values g ts ≡ values h ts
  values_agree g h none e = refl
  values_agree g h (more t ts) e = ap₂ more (value_agree g h t (λ z o. e z (inl o))) (values_agree g h ts (λ z o. e z (inr o)))

pub value_same : (g h : ℕ → Body) (t : Tm) → ((z : ℕ) → g z ≡ h z) → value g t ≡ value h t
value_same g h t e = ap (λ f. value f t) (fun_ext e)

pub parameters_same : (ts : Tms) (σ τ : ℕ → Tm) → ((i : ℕ) → σ i ≡ τ i) → (i : ℕ) → parameters ts σ i ≡ parameters ts τ i
parameters_same ts σ τ h i = ap (λ σ. parameters ts σ i) (fun_ext h)

act-cons : (τ : ℕ → Tm) (ψ : ℕ → Ty → Tm) (t : Tm) (σ : ℕ → Tm) (i : ℕ) → cons (act τ ψ t) (λ j. act τ ψ (σ j)) i ≡ act τ ψ (cons t σ i)
unfolding cons
act-cons τ ψ t σ zero = refl
act-cons τ ψ t σ (suc i) = refl

-- a substitution in parameters
pub act-parameters : (τ : ℕ → Tm) (ψ : ℕ → Ty → Tm) (ts : Tms) (σ : ℕ → Tm) (i : ℕ) → act τ ψ (parameters ts σ i) ≡ parameters (acts τ ψ ts) (λ j. act τ ψ (σ j)) i
unfolding parameters acts
act-parameters τ ψ none σ i = refl
act-parameters τ ψ (more t ts) σ i =
    act-parameters τ ψ ts (cons t σ) i ∙ sym (parameters_same (acts τ ψ ts) (cons (act τ ψ t) (λ j. act τ ψ (σ j))) (λ j. act τ ψ (cons t σ j)) (act-cons τ ψ t σ) i)

act_cons-up : (t : Tm) (τ σ : ℕ → Tm) (i : ℕ) → act (cons t τ) free (up σ i) ≡ cons t (λ j. act τ free (σ j)) i
unfolding up cons act
act_cons-up t τ σ zero = refl
act_cons-up t τ σ (suc i) = act-rename suc (cons t τ) free (σ i)

-- parameters put into a substitution that left them alone
pub parameters-up_many : (ts : Tms) (τ σ : ℕ → Tm) (i : ℕ) → act (parameters ts τ) free (up_many (count ts) σ i) ≡ parameters ts (λ j. act τ free (σ j)) i
unfolding parameters up_many
parameters-up_many none τ σ i = refl
parameters-up_many (more t ts) τ σ i =
    ap (λ n. act (parameters ts (cons t τ)) free (up_many n σ i)) (one-add (count ts)) ∙ parameters-up_many ts (cons t τ) (up σ) i
    ∙ parameters_same ts (λ j. act (cons t τ) free (up σ j)) (cons t (λ j. act τ free (σ j))) (act_cons-up t τ σ) i

act_cons-suc : (t : Tm) (τ : ℕ → Tm) (u : Tm) → act (cons t τ) free (rename suc u) ≡ act τ free u
unfolding cons
act_cons-suc t τ u = act-rename suc (cons t τ) free u

pub parameters-up_many_free : (ts : Tms) (τ : ℕ → Tm) (φ : ℕ → Ty → Tm) (x : ℕ) (a : Ty) → act (parameters ts τ) free (up_free_many (count ts) φ x a) ≡ act τ free (φ x a)
unfolding parameters up_free_many up_free
parameters-up_many_free none τ φ x a = refl
parameters-up_many_free (more t ts) τ φ x a =
    ap (λ n. act (parameters ts (cons t τ)) free (up_free_many n φ x a)) (one-add (count ts)) ∙ parameters-up_many_free ts (cons t τ) (up_free φ) x a
    ∙ act_cons-suc t τ (φ x a)

up-follows : (ρ : ℕ → ℕ) (σ τ : ℕ → Tm) → ((i : ℕ) → τ (ρ i) ≡ rename ρ (σ i)) → (i : ℕ) → up τ (up_renaming ρ i) ≡ rename (up_renaming ρ) (up σ i)
unfolding up up_renaming rename
up-follows ρ σ τ h zero = refl
up-follows ρ σ τ h (suc i) = ap (rename suc) (h i) ∙ sym (rename-up-suc ρ (σ i))

up_many-follow : (n : ℕ) (ρ : ℕ → ℕ) (σ τ : ℕ → Tm) → ((i : ℕ) → τ (ρ i) ≡ rename ρ (σ i)) → (i : ℕ) → up_many n τ (up_times n ρ i) ≡ rename (up_times n ρ) (up_many n σ i)
unfolding up_many up_times
up_many-follow zero ρ σ τ h i = h i
up_many-follow (suc n) ρ σ τ h i = up_many-follow n (up_renaming ρ) (up σ) (up τ) (up-follows ρ σ τ h) i

up_free_many-follow : (n : ℕ) (ρ : ℕ → ℕ) (φ ψ : ℕ → Ty → Tm) → ((x : ℕ) (a : Ty) → ψ x a ≡ rename ρ (φ x a))
    → (x : ℕ) (a : Ty) → up_free_many n ψ x a ≡ rename (up_times n ρ) (up_free_many n φ x a)
unfolding up_free_many up_times up_free
up_free_many-follow zero ρ φ ψ h x a = h x a
up_free_many-follow (suc n) ρ φ ψ h x a = up_free_many-follow n (up_renaming ρ) (up_free φ) (up_free ψ) (λ y b. ap (rename suc) (h y b) ∙ sym (rename-up-suc ρ (φ y b))) x a

act_ups-shift : (n : ℕ) (σ : ℕ → Tm) (φ : ℕ → Ty → Tm) (b : Tm)
    → act (up_many n (up σ)) (up_free_many n (up_free φ)) (rename (up_times n suc) b) ≡ rename (up_times n suc) (act (up_many n σ) (up_free_many n φ) b)
unfolding up up_free
act_ups-shift n σ φ b =
    act-rename (up_times n suc) (up_many n (up σ)) (up_free_many n (up_free φ)) b
    ∙ act_same (up_many-follow n suc σ (up σ) (λ i. refl)) (up_free_many-follow n suc φ (up_free φ) (λ x a. refl)) b ∙ sym (rename-act (up_many n σ) (up_free_many n φ) (up_times n suc) b)

-- bodies with a substitution moved below a binder, or moved and substituted
pub acted-shifted : (σ : ℕ → Tm) (φ : ℕ → Ty → Tm) (g : ℕ → Body) (z : ℕ) → acted (up σ) (up_free φ) (shifted g) z ≡ shifted (acted σ φ g) z
acted-shifted σ φ g z =
    let put : Tm → Body = λ b. record { arity = (g z).arity; tree = b } in
    ap put (act_ups-shift (g z).arity σ φ (g z).tree)

-- a substitution in a body with its arguments
pub act-body : (σ : ℕ → Tm) (φ : ℕ → Ty → Tm) (b : Body) (us : Tms) → b.arity ≡ count us
    → act σ φ (act (parameters us bound) free b.tree) ≡ act (parameters (acts σ φ us) bound) free (act (up_many b.arity σ) (up_free_many b.arity φ) b.tree)
unfolding act
act-body σ φ b us e =
    act-act (parameters us bound) free σ φ b.tree ∙ act_same loose loosely b.tree ∙ sym (act-act (up_many b.arity σ) (up_free_many b.arity φ) (parameters (acts σ φ us) bound) free b.tree)
  where
    counted : b.arity ≡ count (acts σ φ us)
    counted = e ∙ sym (count-acts σ φ us)

    loose : (i : ℕ) → act σ φ (parameters us bound i) ≡ act (parameters (acts σ φ us) bound) free (up_many b.arity σ i)
    loose i =
        act-parameters σ φ us bound i ∙ sym (parameters_same (acts σ φ us) (λ j. act bound free (σ j)) σ (λ j. act-id (σ j)) i)
        ∙ sym (parameters-up_many (acts σ φ us) bound σ i) ∙ ap (λ n. act (parameters (acts σ φ us) bound) free (up_many n σ i)) (sym counted)

    loosely : (x : ℕ) (a : Ty) → φ x a ≡ act (parameters (acts σ φ us) bound) free (up_free_many b.arity φ x a)
    loosely x a =
        sym (act-id (φ x a)) ∙ sym (parameters-up_many_free (acts σ φ us) bound φ x a)
        ∙ ap (λ n. act (parameters (acts σ φ us) bound) free (up_free_many n φ x a)) (sym counted)

mutual
  unfolding act acts value values up_free

  -- a substitution of terms in a value: in the bodies, and in the meta-term
  pub act-value : (σ : ℕ → Tm) (φ : ℕ → Ty → Tm) (g : ℕ → Body) (t : Tm) → ((i : ℕ) → IsTerm (σ i)) → ((x : ℕ) (a : Ty) → IsTerm (φ x a)) → FitsBodies g t
      → act σ φ (value g t) ≡ value (acted σ φ g) (act σ φ t)
  act-value σ φ g (bound i) p q f = sym (value_term (acted σ φ g) (σ i) (p i))
  act-value σ φ g (free x a) p q f = sym (value_term (acted σ φ g) (φ x a) (q x a))
  act-value σ φ g (fun c) p q f = refl
  act-value σ φ g (meta z ts) p q f = act-body σ φ (g z) (values g ts) (f.0 ∙ sym (count-values g ts)) ∙ ap (λ us. act (parameters us bound) free (acted σ φ g z).tree) (acts-values σ φ g ts p q f.1)
  act-value σ φ g (lam a t) p q f =
      ap (lam a) (act-value (up σ) (up_free φ) (shifted g) t (term-up σ p) (λ x b. term-rename suc (φ x b) (q x b)) f
      ∙ value_same (acted (up σ) (up_free φ) (shifted g)) (shifted (acted σ φ g)) (act (up σ) (up_free φ) t) (acted-shifted σ φ g))
  act-value σ φ g (app t u) p q f = ap₂ app (act-value σ φ g t p q f.0) (act-value σ φ g u p q f.1)

  pub acts-values : (σ : ℕ → Tm) (φ : ℕ → Ty → Tm) (g : ℕ → Body) (ts : Tms) → ((i : ℕ) → IsTerm (σ i)) → ((x : ℕ) (a : Ty) → IsTerm (φ x a)) → AllFitBodies g ts
      → acts σ φ (values g ts) ≡ values (acted σ φ g) (acts σ φ ts)
  acts-values σ φ g none p q f = refl
  acts-values σ φ g (more t ts) p q f = ap₂ more (act-value σ φ g t p q f.0) (acts-values σ φ g ts p q f.1)
