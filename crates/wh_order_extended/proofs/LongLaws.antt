-- Extended terms under renaming and substitution, up to beta.
use Rattle.std.proofs.Common.{◌≡◌, ℕ, zero, suc, List, [], ◌∷◌, refl, ap, ap₂, ◌∙◌, sym, Some, slice_get}
use mathlib.Core.Path.{path_j}
use Rattle.std.proofs.lemmas.Option.{none-some, same_Some}
use Rattle.wh_types.specs.Ty.{Ty, sort, ◌⇒◌}
use Rattle.wh_terms.specs.Tree.{Tm, bound, free, fun, meta, lam, app, Tms, none, more}
use Rattle.wh_terms.specs.Substitution.{up_renaming, rename, renames, up, up_free, act}
use Rattle.wh_terms.specs.Typing.{Symbols, Declared, Typed, typed_bound, typed_free, typed_fun, typed_meta, typed_lam, typed_app}
use Rattle.wh_terms.specs.StepOver.{StepOver}
use Rattle.wh_terms.proofs.TypingLaws.{FitsLoose, fits-free, typed-act, typed-shift}
use Rattle.wh_order_extended.specs.Kinds.{type_at, codomain, out_at, kind}
use Rattle.wh_order_extended.specs.Long.{expand, finish, finish_argument, core, cores, long}
use Rattle.wh_order_extended.specs.Many.{Many, stay, go}
use Rattle.wh_order_extended.proofs.Expand.{IsRenamed, expand-rename, expand-act, many-expand, many-body, many-argument, many-app, expand-applied}
use Rattle.wh_order_extended.proofs.ManyLaws.{many_both, many_equal}

pub at_is : (Γ : List Ty) (i : ℕ) (a : Ty) → slice_get Γ i ≡ Some a → type_at Γ i ≡ a
at_is [] i a e = absurd (none-some a e)
at_is (b ∷ Γ) zero a e = same_Some b a e
at_is (b ∷ Γ) (suc i) a e = at_is Γ i a e

out_is : (M : List Declared) (z : ℕ) (d : Declared) → slice_get M z ≡ Some d → out_at M z ≡ d.out
out_is [] z d e = absurd (none-some d e)
out_is (c ∷ M) zero d e = ap (λ d. d.out) (same_Some c d e)
out_is (c ∷ M) (suc z) d e = out_is M z d e

-- the type of a typed tree
pub kind_is : {S : Symbols} {M : List Declared} {Γ : List Ty} {t : Tm} {a : Ty} → Typed S M Γ t a → kind S M Γ t ≡ a
kind_is (typed_bound {Γ = Γ} {i = i} {a = a} e) = at_is Γ i a e
kind_is (typed_free p) = refl
kind_is (typed_fun {S = S} {f = f} {a = a} e) = at_is S.funs f a e
kind_is (typed_meta {M = M} {z = z} {d = d} e ts o) = out_is M z d e ∙ sym o
kind_is (typed_lam {a = a} p t) = ap (λ b. a ⇒ b) (kind_is t)
kind_is (typed_app t u) = ap codomain (kind_is t)

-- a renaming that keeps the types of all numbers
abbrev pub KeepsAll : List Ty → List Ty → (ℕ → ℕ) → Type 0
KeepsAll Γ Δ r = (i : ℕ) → type_at Δ (r i) ≡ type_at Γ i

pub keeps_up : (Γ Δ : List Ty) (r : ℕ → ℕ) (b : Ty) → KeepsAll Γ Δ r → KeepsAll (b ∷ Γ) (b ∷ Δ) (up_renaming r)
unfolding up_renaming
keeps_up Γ Δ r b h zero = refl
keeps_up Γ Δ r b h (suc i) = h i

finish-rename : (r : ℕ → ℕ) (t : Tm) (a : Ty) (c : Tm) → rename r (finish t a c) ≡ finish (rename r t) a (rename r c)
unfolding rename
finish-rename r (bound i) a c = expand-rename r a c
finish-rename r (free x b) a c = expand-rename r a c
finish-rename r (fun f) a c = expand-rename r a c
finish-rename r (meta z ts) a c = refl
finish-rename r (lam b t) a c = refl
finish-rename r (app t u) a c = expand-rename r a c

finish_argument-rename : (r : ℕ → ℕ) (t : Tm) (a : Ty) (c : Tm) → rename r (finish_argument t a c) ≡ finish_argument (rename r t) a (rename r c)
unfolding rename
finish_argument-rename r (bound i) a c = refl
finish_argument-rename r (free x b) a c = expand-rename r a c
finish_argument-rename r (fun f) a c = expand-rename r a c
finish_argument-rename r (meta z ts) a c = refl
finish_argument-rename r (lam b t) a c = refl
finish_argument-rename r (app t u) a c = expand-rename r a c

module _ (S : Symbols) (M : List Declared) where
  pub kind-rename : (t : Tm) (Γ Δ : List Ty) (r : ℕ → ℕ) → KeepsAll Γ Δ r → kind S M Δ (rename r t) ≡ kind S M Γ t
  unfolding rename
  kind-rename (bound i) Γ Δ r h = h i
  kind-rename (free x a) Γ Δ r h = refl
  kind-rename (fun f) Γ Δ r h = refl
  kind-rename (meta z ts) Γ Δ r h = refl
  kind-rename (lam b t) Γ Δ r h = ap (λ c. b ⇒ c) (kind-rename t (b ∷ Γ) (b ∷ Δ) (up_renaming r) (keeps_up Γ Δ r b h))
  kind-rename (app t u) Γ Δ r h = ap codomain (kind-rename t Γ Δ r h)

  finished : (t : Tm) (Γ Δ : List Ty) (r : ℕ → ℕ) → KeepsAll Γ Δ r → core S M Δ (rename r t) ≡ rename r (core S M Γ t)
      → finish (rename r t) (kind S M Δ (rename r t)) (core S M Δ (rename r t)) ≡ rename r (finish t (kind S M Γ t) (core S M Γ t))
  finished t Γ Δ r h e = ap₂ (finish (rename r t)) (kind-rename t Γ Δ r h) e ∙ sym (finish-rename r t (kind S M Γ t) (core S M Γ t))

  finished_argument : (t : Tm) (Γ Δ : List Ty) (r : ℕ → ℕ) → KeepsAll Γ Δ r → core S M Δ (rename r t) ≡ rename r (core S M Γ t)
      → finish_argument (rename r t) (kind S M Δ (rename r t)) (core S M Δ (rename r t)) ≡ rename r (finish_argument t (kind S M Γ t) (core S M Γ t))
  finished_argument t Γ Δ r h e = ap₂ (finish_argument (rename r t)) (kind-rename t Γ Δ r h) e ∙ sym (finish_argument-rename r t (kind S M Γ t) (core S M Γ t))

  mutual
    unfolding core cores rename renames

    pub core-rename : (t : Tm) (Γ Δ : List Ty) (r : ℕ → ℕ) → KeepsAll Γ Δ r → core S M Δ (rename r t) ≡ rename r (core S M Γ t)
    core-rename (bound i) Γ Δ r h = refl
    core-rename (free x a) Γ Δ r h = refl
    core-rename (fun f) Γ Δ r h = refl
    core-rename (meta z ts) Γ Δ r h = ap (meta z) (cores-rename ts Γ Δ r h)
    core-rename (lam b t) Γ Δ r h =
        let k = keeps_up Γ Δ r b h in
        ap (lam b) (finished t (b ∷ Γ) (b ∷ Δ) (up_renaming r) k (core-rename t (b ∷ Γ) (b ∷ Δ) (up_renaming r) k))
    core-rename (app t u) Γ Δ r h = ap₂ app (core-rename t Γ Δ r h) (finished u Γ Δ r h (core-rename u Γ Δ r h))

    pub cores-rename : (ts : Tms) (Γ Δ : List Ty) (r : ℕ → ℕ) → KeepsAll Γ Δ r → cores S M Δ (renames r ts) ≡ renames r (cores S M Γ ts)
    cores-rename none Γ Δ r h = refl
    cores-rename (more t ts) Γ Δ r h = ap₂ more (finished_argument t Γ Δ r h (core-rename t Γ Δ r h)) (cores-rename ts Γ Δ r h)

  pub long-rename : (t : Tm) (Γ Δ : List Ty) (r : ℕ → ℕ) → KeepsAll Γ Δ r → long S M Δ (rename r t) ≡ rename r (long S M Γ t)
  long-rename t Γ Δ r h = finished t Γ Δ r h (core-rename t Γ Δ r h)

module _ (S : Symbols) (R : Tm → Tm → Type 0) (kept : IsRenamed R) where
  -- the extended tree, extended once more, steps to itself
  abbrev pub Eta : Ty → Type 0
  Eta a = (Γ : List Ty) (t : Tm) → Typed S [] Γ t a → Many (StepOver R) (expand a (long S [] Γ t)) (long S [] Γ t)

  -- so at each part of the type
  abbrev pub EtaAll : Ty → Type 0
  EtaAll (sort s) = Unit {0}
  EtaAll (a ⇒ b) = EtaAll a × EtaAll b × Eta (a ⇒ b)

  pub eta_at : (a : Ty) → EtaAll a → Eta a
  unfolding expand
  eta_at (sort s) h Γ t p = stay
  eta_at (a ⇒ b) h Γ t p = h.2 Γ t p

  -- what is put for a variable before and after extending: a variable for itself, or a tree and its extension
  pub data Put (Δ : List Ty) (b : Ty) (u v : Tm) : Type 0 where
    variable : (j : ℕ) → u ≡ bound j → v ≡ bound j → Put Δ b u v
    extension : v ≡ long S [] Δ u → EtaAll b → Put Δ b u v

  abbrev pub Puts : List Ty → List Ty → (ℕ → Tm) → (ℕ → Tm) → Type 0
  Puts Γ Δ σ τ = (i : ℕ) (b : Ty) → slice_get Γ i ≡ Some b → Typed S [] Δ (σ i) b × Put Δ b (σ i) (τ i)

  put_shift : (Δ : List Ty) (a b : Ty) (u v : Tm) → Put Δ b u v → Put (a ∷ Δ) b (rename suc u) (rename suc v)
  unfolding rename
  put_shift Δ a b u v (variable j e d) = variable (suc j) (ap (rename suc) e) (ap (rename suc) d)
  put_shift Δ a b u v (extension e h) = extension (ap (rename suc) e ∙ sym (long-rename S [] u Δ (a ∷ Δ) suc (λ i. refl))) h

  pub puts_up : (Γ Δ : List Ty) (σ τ : ℕ → Tm) (a : Ty) → Puts Γ Δ σ τ → Puts (a ∷ Γ) (a ∷ Δ) (up σ) (up τ)
  unfolding up
  puts_up Γ Δ σ τ a h zero b e = (typed_bound e, variable 0 refl refl)
  puts_up Γ Δ σ τ a h (suc i) b e = (typed-shift a (h i b e).0, put_shift Δ a b (σ i) (τ i) (h i b e).1)

  -- what the core of a tree comes to after a substitution
  pub data Comes (a : Ty) (v c l : Tm) : Type 0 where
    as_core : Many (StepOver R) v c → Comes a v c l
    as_long : Many (StepOver R) v l → EtaAll a → Comes a v c l

  expanded_applied : (c w l : Tm) (a b k : Ty) → k ≡ a ⇒ b → Many (StepOver R) (expand a w) w → EtaAll b
      → Comes b (app (expand k c) w) l (expand (codomain k) (app c w))
  expanded_applied c w l a b k e m h =
      path_j (λ k e. Comes b (app (expand k c) w) l (expand (codomain k) (app c w)))
      (as_long (go (expand-applied kept a b c w) (many-expand kept b (many-argument kept c m))) h) (sym e)

  pub applied : (Δ : List Ty) (t u : Tm) (a b : Ty) → Typed S [] Δ t (a ⇒ b) → Typed S [] Δ u a → EtaAll (a ⇒ b)
      → Comes b (app (long S [] Δ t) (long S [] Δ u)) (core S [] Δ (app t u)) (long S [] Δ (app t u))
  unfolding core
  applied Δ (bound i) u a b p q h = expanded_applied (bound i) (long S [] Δ u) (core S [] Δ (app (bound i) u)) a b (type_at Δ i) (kind_is p) (eta_at a h.0 Δ u q) h.1
  applied Δ (free x c) u a b p q h = expanded_applied (free x c) (long S [] Δ u) (core S [] Δ (app (free x c) u)) a b c (kind_is p) (eta_at a h.0 Δ u q) h.1
  applied Δ (fun f) u a b p q h = expanded_applied (fun f) (long S [] Δ u) (core S [] Δ (app (fun f) u)) a b (type_at S.funs f) (kind_is p) (eta_at a h.0 Δ u q) h.1
  applied Δ (meta z ts) u a b (typed_meta {d = d} e us o) q h = absurd (none-some d e)
  applied Δ (lam c t) u a b p q h = as_core stay
  applied Δ (app t v) u a b p q h = expanded_applied (core S [] Δ (app t v)) (long S [] Δ u) (core S [] Δ (app (app t v) u)) a b (kind S [] Δ (app t v)) (kind_is p) (eta_at a h.0 Δ u q) h.1

  pub in_app : (Δ : List Ty) (t u : Tm) (a b : Ty) (v w : Tm) → Typed S [] Δ t (a ⇒ b) → Typed S [] Δ u a
      → Comes (a ⇒ b) v (core S [] Δ t) (long S [] Δ t) → Many (StepOver R) w (long S [] Δ u)
      → Comes b (app v w) (core S [] Δ (app t u)) (long S [] Δ (app t u))
  unfolding core
  in_app Δ t u a b v w p q (as_core m) n = as_core (many-app kept m n)
  in_app Δ t u a b v w p q (as_long m h) n =
      before (applied Δ t u a b p q h)
    where
      before : Comes b (app (long S [] Δ t) (long S [] Δ u)) (core S [] Δ (app t u)) (long S [] Δ (app t u)) → Comes b (app v w) (core S [] Δ (app t u)) (long S [] Δ (app t u))
      before (as_core o) = as_core (many_both (many-app kept m n) o)
      before (as_long o k) = as_long (many_both (many-app kept m n) o) k

  bound_long : (Δ : List Ty) (b k : Ty) (u v : Tm) → k ≡ b → Typed S [] Δ u b → Put Δ b u v → Many (StepOver R) (expand k v) (long S [] Δ u)
  unfolding core
  bound_long Δ b k u v e p (variable j f g) =
      many_equal (ap₂ expand (e ∙ sym (kind_is p) ∙ ap (kind S [] Δ) f) g ∙ sym (ap (long S [] Δ) f))
  bound_long Δ b k u v e p (extension g h) =
      many_both (many_equal (ap₂ expand e g)) (eta_at b h Δ u p)

  pub app_long : (Δ : List Ty) (t u : Tm) (b k : Ty) (v : Tm) → k ≡ b → Typed S [] Δ (app t u) b
      → Comes b v (core S [] Δ (app t u)) (long S [] Δ (app t u)) → Many (StepOver R) (expand k v) (long S [] Δ (app t u))
  app_long Δ t u b k v e p (as_core m) =
      many_both (many-expand kept k m) (many_equal (ap (λ k. expand k (core S [] Δ (app t u))) (e ∙ sym (kind_is p))))
  app_long Δ t u b k v e p (as_long m h) =
      many_both (many-expand kept k m) (many_both (many_equal (ap (λ k. expand k (long S [] Δ (app t u))) e)) (eta_at b h Δ (app t u) p))

  lam_core : (a b : Ty) (v c : Tm) → Comes b v c c → Many (StepOver R) v c
  lam_core a b v c (as_core m) = m
  lam_core a b v c (as_long m h) = m

  fits : (Γ Δ : List Ty) (σ τ : ℕ → Tm) → Puts Γ Δ σ τ → FitsLoose S [] Γ Δ σ
  fits Γ Δ σ τ h i b e = (h i b e).0

  -- from the core to the whole
  finish_act : {Γ : List Ty} {t : Tm} {a : Ty} (Δ : List Ty) (σ τ : ℕ → Tm) → Puts Γ Δ σ τ → Typed S [] Γ t a
      → Comes a (act τ free (core S [] Γ t)) (core S [] Δ (act σ free t)) (long S [] Δ (act σ free t))
      → Many (StepOver R) (act τ free (long S [] Γ t)) (long S [] Δ (act σ free t))
  unfolding core act up_free rename
  finish_act {Γ = Γ} Δ σ τ h (typed_bound {i = i} {a = a} e) c =
      many_both (many_equal (expand-act τ free (type_at Γ i) (bound i)))
      (bound_long Δ a (type_at Γ i) (σ i) (τ i) (at_is Γ i a e) (h i a e).0 (h i a e).1)
  finish_act Δ σ τ h (typed_free {x = x} {a = a} p) c = many_equal (expand-act τ free a (free x a))
  finish_act Δ σ τ h (typed_fun {f = f} e) c = many_equal (expand-act τ free (type_at S.funs f) (fun f))
  finish_act Δ σ τ h (typed_meta {d = d} e us o) c = absurd (none-some d e)
  finish_act {Γ = Γ} Δ σ τ h (typed_lam {a = a} {b = b} {t = t} p q) c = lam_core a (a ⇒ b) (act τ free (core S [] Γ (lam a t))) (core S [] Δ (act σ free (lam a t))) c
  finish_act {Γ = Γ} Δ σ τ h (typed_app {a = a} {b = b} {t = t} {u = u} p q) c =
      many_both (many_equal (expand-act τ free (kind S [] Γ (app t u)) (core S [] Γ (app t u))))
      (app_long Δ (act σ free t) (act σ free u) b (kind S [] Γ (app t u)) (act τ free (core S [] Γ (app t u))) (kind_is (typed_app p q))
      (typed-act Δ σ free (fits Γ Δ σ τ h) (fits-free Δ) (typed_app p q)) c)

  bound_core : (Δ : List Ty) (b : Ty) (u v : Tm) → Put Δ b u v → Comes b v (core S [] Δ u) (long S [] Δ u)
  unfolding core
  bound_core Δ b u v (variable j f g) = as_core (many_equal (g ∙ ap (core S [] Δ) (sym f)))
  bound_core Δ b u v (extension g h) = as_long (many_equal g) h

  -- the core of a term after a substitution
  pub core_act : {Γ : List Ty} {t : Tm} {a : Ty} (Δ : List Ty) (σ τ : ℕ → Tm) → Puts Γ Δ σ τ → Typed S [] Γ t a
      → Comes a (act τ free (core S [] Γ t)) (core S [] Δ (act σ free t)) (long S [] Δ (act σ free t))
  unfolding core act up_free rename
  core_act Δ σ τ h (typed_bound {i = i} {a = a} e) = bound_core Δ a (σ i) (τ i) (h i a e).1
  core_act Δ σ τ h (typed_free p) = as_core stay
  core_act Δ σ τ h (typed_fun e) = as_core stay
  core_act Δ σ τ h (typed_meta {d = d} e us o) = absurd (none-some d e)
  core_act {Γ = Γ} Δ σ τ h (typed_lam {a = a} {b = b} {t = t} p q) =
      as_core (many-body kept a (finish_act (a ∷ Δ) (up σ) (up τ) (puts_up Γ Δ σ τ a h) q (core_act (a ∷ Δ) (up σ) (up τ) (puts_up Γ Δ σ τ a h) q)))
  core_act {Γ = Γ} Δ σ τ h (typed_app {a = a} {b = b} {t = t} {u = u} p q) =
      in_app Δ (act σ free t) (act σ free u) a b (act τ free (core S [] Γ t)) (act τ free (long S [] Γ u))
      (typed-act Δ σ free (fits Γ Δ σ τ h) (fits-free Δ) p) (typed-act Δ σ free (fits Γ Δ σ τ h) (fits-free Δ) q)
      (core_act Δ σ τ h p) (finish_act Δ σ τ h q (core_act Δ σ τ h q))

  -- the extension of a term after a substitution
  pub long_act : {Γ : List Ty} {t : Tm} {a : Ty} (Δ : List Ty) (σ τ : ℕ → Tm) → Puts Γ Δ σ τ → Typed S [] Γ t a
      → Many (StepOver R) (act τ free (long S [] Γ t)) (long S [] Δ (act σ free t))
  long_act Δ σ τ h p = finish_act Δ σ τ h p (core_act Δ σ τ h p)
