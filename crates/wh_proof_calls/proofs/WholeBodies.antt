-- Bodies without loose variables but their parameters: no binder that they come under moves them, and no substitution changes them.
use Rattle.std.proofs.Common.{◌≡◌, ℕ, zero, suc, ◌+◌, ◌<◌, List, [], ◌∷◌, length, Some, slice_get, refl, ap, sym, ◌∙◌, subst, inl, inr, arith}
use Rattle.wh_types.specs.Ty.{Ty}
use Rattle.wh_terms.specs.Tree.{Tm, bound, free, meta, lam, Tms, count}
use Rattle.wh_terms.specs.Substitution.{up_renaming, rename, up, up_free, act, acts, cons, opened}
use Rattle.wh_terms.specs.Sight.{LooseBelow, Occurs, OccursIn}
use Rattle.wh_terms.specs.Typing.{Symbols, Declared, Typed, typed_bound, typed_free, typed_fun, typed_meta, typed_lam, typed_app, AllTyped, typed_none, typed_more}
use Rattle.wh_terms.specs.Value.{Body, parameters}
use Rattle.wh_terms.specs.TypedBodies.{parameter_types, FitsDeclared, TypedBodies}
use Rattle.wh_terms.proofs.RenamingLaws.{rename-id}
use Rattle.wh_terms.proofs.ActLaws.{act_same, act-id, opened-act}
use Rattle.wh_terms.proofs.SightLaws.{act_loose, rename_loose}
use Rattle.wh_terms.proofs.TypingLaws.{typed-rename, typed_loose}
use Rattle.wh_terms.proofs.ValueForm.{up_times, up_many, up_free_many, shifted, value, values, value_agree, FitsBodies, AllFitBodies, count-values, act-body}
use Rattle.wh_terms.proofs.ValueLaws.{up_free_many-free}
use Rattle.wh_terms.proofs.ValueTyping.{TypedBodiesIn, typed_count}
use Rattle.wh_proof_calls.proofs.Puts.{inst}

-- the body of z has no loose variable but its parameters
abbrev pub IsShut : (ℕ → Body) → ℕ → Type 0
IsShut g z = LooseBelow (g z).arity (g z).tree

abbrev pub ShutBodies : (ℕ → Body) → Tm → Type 0
ShutBodies g t = (z : ℕ) → Occurs z t → IsShut g z

abbrev pub ShutBodiesIn : (ℕ → Body) → Tms → Type 0
ShutBodiesIn g ts = (z : ℕ) → OccursIn z ts → IsShut g z

up_times_low : (n k : ℕ) (ρ : ℕ → ℕ) → ((i : ℕ) → i < k → ρ i ≡ i) → (i : ℕ) → i < n + k → up_times n ρ i ≡ i
unfolding up_times up_renaming
up_times_low zero k ρ h i b = h i (omega arith)
up_times_low (suc n) k ρ h i b = up_times_low n (k + 1) (up_renaming ρ) low i (omega arith)
  where
    low : (j : ℕ) → j < k + 1 → up_renaming ρ j ≡ j
    low zero c = refl
    low (suc j) c = ap suc (h j (omega arith))

ups_low : (n k : ℕ) (σ : ℕ → Tm) → ((i : ℕ) → i < k → σ i ≡ bound i) → (i : ℕ) → i < n + k → up_many n σ i ≡ bound i
unfolding up_many up rename
ups_low zero k σ h i b = h i (omega arith)
ups_low (suc n) k σ h i b = ups_low n (k + 1) (up σ) low i (omega arith)
  where
    low : (j : ℕ) → j < k + 1 → up σ j ≡ bound j
    low zero c = refl
    low (suc j) c = ap (rename suc) (h j (omega arith))

pub shifted_shut : (g : ℕ → Body) (z : ℕ) → IsShut g z → shifted g z ≡ g z
shifted_shut g z l =
    let put : Tm → Body = λ b. record { arity = (g z).arity; tree = b } in
    ap put (rename_loose (g z).arity (up_times (g z).arity suc) (g z).tree l
    (λ i b. up_times_low (g z).arity 0 suc (λ j c. absurd (omega arith)) i (omega arith)))

-- a substitution that leaves the parameters alone does not change a body without further loose variables
pub act_shut_body : (σ : ℕ → Tm) (b : Body) → LooseBelow b.arity b.tree → act (up_many b.arity σ) (up_free_many b.arity free) b.tree ≡ b.tree
act_shut_body σ b l =
    act_loose b.arity (up_many b.arity σ) bound (up_free_many b.arity free) b.tree l
    (λ i low. ups_low b.arity 0 σ (λ j c. absurd (omega arith)) i (omega arith))
    ∙ act_same (λ i. refl) (up_free_many-free b.arity) b.tree ∙ act-id b.tree

-- below a binder the bodies give the same values
pub value-shifted : (g : ℕ → Body) (t : Tm) → ShutBodies g t → value (shifted g) t ≡ value g t
value-shifted g t h = value_agree (shifted g) g t (λ z o. shifted_shut g z (h z o))

-- the instance of an abstraction
pub inst-lam : (g : ℕ → Body) (σ : ℕ → Tm) (a : Ty) (t : Tm) → ShutBodies g t
    → inst g σ (lam a t) ≡ lam a (act (up σ) (up_free free) (value g t))
unfolding act value
inst-lam g σ a t h = ap (λ v. lam a (act (up σ) (up_free free) v)) (value-shifted g t h)

-- and of its body, opened
pub inst-opened : (v : Tm) (g : ℕ → Body) (σ : ℕ → Tm) (t : Tm) → opened v (act (up σ) (up_free free) (value g t)) ≡ inst g (cons v σ) t
inst-opened v g σ t = opened-act v σ free (value g t)

-- the instance of a meta-application: the body with the instances of the arguments
pub inst-meta : (g : ℕ → Body) (σ : ℕ → Tm) (z : ℕ) (ts : Tms) → IsShut g z → (g z).arity ≡ count ts
    → inst g σ (meta z ts) ≡ act (parameters (acts σ free (values g ts)) bound) free (g z).tree
unfolding value
inst-meta g σ z ts l n =
    act-body σ free (g z) (values g ts) (n ∙ sym (count-values g ts))
    ∙ ap (act (parameters (acts σ free (values g ts)) bound) free) (act_shut_body σ (g z) l)

length-parameter_types : (cs Γ : List Ty) → length (parameter_types cs Γ) ≡ length cs + length Γ
length-parameter_types [] Γ = omega arith
length-parameter_types (c ∷ cs) Γ = omega (arith, length-parameter_types cs (c ∷ Γ))

-- a body of a declared type has no loose variable but its parameters
pub declared_shut : {S : Symbols} {d : Declared} (b : Body) → FitsDeclared S [] [] d b → LooseBelow b.arity b.tree
declared_shut {d = d} b h =
    let n : length (parameter_types d.args []) ≡ b.arity = omega (arith, length-parameter_types d.args [], h.counted) in
    subst (λ k. LooseBelow k b.tree) n (typed_loose h.typed)

parameter_types-more : (cs Γ Δ : List Ty) → ((i : ℕ) (b : Ty) → slice_get Γ i ≡ Some b → slice_get Δ i ≡ Some b)
    → (i : ℕ) (b : Ty) → slice_get (parameter_types cs Γ) i ≡ Some b → slice_get (parameter_types cs Δ) i ≡ Some b
parameter_types-more [] Γ Δ h i b e = h i b e
parameter_types-more (c ∷ cs) Γ Δ h i b e = parameter_types-more cs (c ∷ Γ) (c ∷ Δ) more i b e
  where
    more : (i : ℕ) (b : Ty) → slice_get (c ∷ Γ) i ≡ Some b → slice_get (c ∷ Δ) i ≡ Some b
    more zero b e = e
    more (suc i) b e = h i b e

-- it has that type under any binders
pub declared_anywhere : {S : Symbols} {d : Declared} (Γ : List Ty) (b : Body) → FitsDeclared S [] [] d b → FitsDeclared S [] Γ d b
declared_anywhere {S = S} {d = d} Γ b h = record {
  counted = h.counted;
  typed = subst (λ t. Typed S [] (parameter_types d.args Γ) t d.out) (rename-id b.tree)
      (typed-rename (parameter_types d.args Γ) (λ i. i) (parameter_types-more d.args [] Γ (λ i b e. absurd (cc))) h.typed);
}

mutual
  -- typed bodies fit a typed meta-term, and have no loose variable but their parameters
  pub typed_fits : {S : Symbols} {M : List Declared} {Γ : List Ty} {t : Tm} {a : Ty} (g : ℕ → Body) → Typed S M Γ t a
      → TypedBodies S M [] [] g t → FitsBodies g t
  typed_fits g (typed_bound e) h = tt
  typed_fits g (typed_free s) h = tt
  typed_fits g (typed_fun e) h = tt
  typed_fits g (typed_meta {z = z} {d = d} e ts o) h =
      ((h z d (inl refl) e).counted ∙ sym (typed_count ts), all_typed_fit g ts (λ y c p q. h y c (inr p) q))
  typed_fits g (typed_lam s p) h = typed_fits g p h
  typed_fits g (typed_app p q) h = (typed_fits g p (λ z d o e. h z d (inl o) e), typed_fits g q (λ z d o e. h z d (inr o) e))

  pub all_typed_fit : {S : Symbols} {M : List Declared} {Γ : List Ty} {ts : Tms} {cs : List Ty} (g : ℕ → Body) → AllTyped S M Γ ts cs
      → TypedBodiesIn S M [] [] g ts → AllFitBodies g ts
  all_typed_fit g typed_none h = tt
  all_typed_fit g (typed_more p ps) h = (typed_fits g p (λ z d o e. h z d (inl o) e), all_typed_fit g ps (λ z d o e. h z d (inr o) e))

mutual
  -- a meta-variable that occurs in a typed meta-term is declared
  pub occurs_known : {S : Symbols} {M : List Declared} {Γ : List Ty} {t : Tm} {a : Ty} (z : ℕ) → Typed S M Γ t a → Occurs z t
      → (d : Declared) × (slice_get M z ≡ Some d)
  occurs_known z (typed_bound e) o = absurd o
  occurs_known z (typed_free s) o = absurd o
  occurs_known z (typed_fun e) o = absurd o
  occurs_known {M = M} z (typed_meta {d = d} e ts out) (inl o) = (d, subst (λ y. slice_get M y ≡ Some d) o e)
  occurs_known z (typed_meta e ts out) (inr o) = occurs_in_known z ts o
  occurs_known z (typed_lam s p) o = occurs_known z p o
  occurs_known z (typed_app p q) (inl o) = occurs_known z p o
  occurs_known z (typed_app p q) (inr o) = occurs_known z q o

  pub occurs_in_known : {S : Symbols} {M : List Declared} {Γ : List Ty} {ts : Tms} {cs : List Ty} (z : ℕ) → AllTyped S M Γ ts cs
      → OccursIn z ts → (d : Declared) × (slice_get M z ≡ Some d)
  occurs_in_known z typed_none o = absurd o
  occurs_in_known z (typed_more p ps) (inl o) = occurs_known z p o
  occurs_in_known z (typed_more p ps) (inr o) = occurs_in_known z ps o

pub typed_shut : {S : Symbols} {M : List Declared} {Γ : List Ty} {t : Tm} {a : Ty} (g : ℕ → Body) → Typed S M Γ t a
    → TypedBodies S M [] [] g t → ShutBodies g t
typed_shut g p h z o = let (d, e) = occurs_known z p o in declared_shut (g z) (h z d o e)

pub all_typed_shut : {S : Symbols} {M : List Declared} {Γ : List Ty} {ts : Tms} {cs : List Ty} (g : ℕ → Body) → AllTyped S M Γ ts cs
    → TypedBodiesIn S M [] [] g ts → ShutBodiesIn g ts
all_typed_shut g p h z o = let (d, e) = occurs_in_known z p o in declared_shut (g z) (h z d o e)
