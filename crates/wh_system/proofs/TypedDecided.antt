-- Whether a tree has a type is decided.
use Rattle.std.proofs.Common.{◌≡◌, ℕ, ◌<◌, ◌≤◌, ◌⊎◌, inl, inr, Bool, true, false, List, [], ◌∷◌, Option, Some, None, slice_get, refl, ap, sym, ◌∙◌, subst, arith, ltb-false, ltb-true}
use Rattle.std.specs.Prelude.{nat_lt}
use Rattle.wh_types.specs.Ty.{Ty, sort, ◌⇒◌, SortsBelow, same_ty}
use Rattle.wh_terms.specs.Tree.{Tm, bound, free, fun, meta, lam, app, Tms, none, more}
use Rattle.wh_terms.specs.Typing.{Symbols, Declared, Typed, typed_bound, typed_free, typed_fun, typed_meta, typed_lam, typed_app, AllTyped, typed_none, typed_more}
use Rattle.wh_terms.proofs.TypeTests.{same_ty-self, same_ty-equal}
use Rattle.wh_terms.proofs.TypingLaws.{some_one, typed_one, domain_one}
use Rattle.wh_terms.proofs.TypeWalk.{type_of_bound, type_of_fun, body_of_lam, declared_of_meta, function_of_app}

-- it holds or it does not
abbrev pub Decided : Type 0 → Type 0
Decided A = A ⊎ (A → ⊥)

pub below_decided : (m n : ℕ) → Decided (m < n)
below_decided m n = go (nat_lt m n) refl
  where
    go : (b : Bool) → nat_lt m n ≡ b → Decided (m < n)
    go true e = inl (ltb-true m n e)
    go false e = let past : n ≤ m = ltb-false m n e in inr (λ l. omega arith)

pub decided_by : {A B : Type 0} → (A → B) → (B → A) → Decided A → Decided B
decided_by f g (inl a) = inl (f a)
decided_by f g (inr k) = inr (λ b. k (g b))

pub both_decided : {A B : Type 0} → Decided A → Decided B → Decided (A × B)
both_decided (inl a) (inl b) = inl (a, b)
both_decided (inl a) (inr g) = inr (λ p. g p.1)
both_decided (inr f) d = inr (λ p. f p.0)

pub sorts_decided : (n : ℕ) (a : Ty) → Decided (SortsBelow n a)
sorts_decided n (sort s) = below_decided s n
sorts_decided n (a ⇒ b) = both_decided (sorts_decided n a) (sorts_decided n b)

pub same_type_decided : (a b : Ty) → Decided (a ≡ b)
same_type_decided a b = go (same_ty a b) refl
  where
    go : (t : Bool) → same_ty a b ≡ t → Decided (a ≡ b)
    go true e = inl (same_ty-equal a b e)
    go false e = inr (λ same. absurd (let equal : same_ty a b ≡ true = ap (λ c. same_ty a c) (sym same) ∙ same_ty-self a in cc))

-- has a type
abbrev pub HasType : Symbols → List Declared → List Ty → Tm → Type 0
HasType S M Γ t = (a : Ty) × Typed S M Γ t a

sorts_of_free : {S : Symbols} {M : List Declared} {Γ : List Ty} {x : ℕ} {a b : Ty} → Typed S M Γ (free x a) b → SortsBelow S.sorts a
sorts_of_free (typed_free s) = s

sorts_of_lam : {S : Symbols} {M : List Declared} {Γ : List Ty} {a : Ty} {t : Tm} {c : Ty} → Typed S M Γ (lam a t) c → SortsBelow S.sorts a
sorts_of_lam (typed_lam s p) = s

first_typed : {S : Symbols} {M : List Declared} {Γ : List Ty} {t : Tm} {ts : Tms} {a : Ty} {as_well : List Ty} → AllTyped S M Γ (more t ts) (a ∷ as_well) → Typed S M Γ t a
first_typed (typed_more p ps) = p

rest_typed : {S : Symbols} {M : List Declared} {Γ : List Ty} {t : Tm} {ts : Tms} {a : Ty} {as_well : List Ty} → AllTyped S M Γ (more t ts) (a ∷ as_well) → AllTyped S M Γ ts as_well
rest_typed (typed_more p ps) = ps

too_few : {S : Symbols} {M : List Declared} {Γ : List Ty} {a : Ty} {as_well : List Ty} → AllTyped S M Γ none (a ∷ as_well) → ⊥
too_few p = elim p [ ]

too_many : {S : Symbols} {M : List Declared} {Γ : List Ty} {t : Tm} {ts : Tms} → AllTyped S M Γ (more t ts) [] → ⊥
too_many p = elim p [ ]

bound_decided : (S : Symbols) (M : List Declared) (Γ : List Ty) (i : ℕ) (o : Option Ty) → slice_get Γ i ≡ o → Decided (HasType S M Γ (bound i))
bound_decided S M Γ i (Some a) e = inl (a, typed_bound e)
bound_decided S M Γ i None e = inr (λ p. absurd (cc (e, type_of_bound p.1)))

fun_decided : (S : Symbols) (M : List Declared) (Γ : List Ty) (f : ℕ) (o : Option Ty) → slice_get S.funs f ≡ o → Decided (HasType S M Γ (fun f))
fun_decided S M Γ f (Some a) e = inl (a, typed_fun e)
fun_decided S M Γ f None e = inr (λ p. absurd (cc (e, type_of_fun p.1)))

app_decided : (S : Symbols) (M : List Declared) (Γ : List Ty) (t u : Tm) → Decided (HasType S M Γ t) → Decided (HasType S M Γ u) → Decided (HasType S M Γ (app t u))
app_decided S M Γ t u (inr f) d = inr (λ p. let parts = function_of_app p.1 in f (parts.0 ⇒ p.0, parts.1))
app_decided S M Γ t u (inl p) (inr g) = inr (λ q. let parts = function_of_app q.1 in g (parts.0, parts.2))
app_decided S M Γ t u (inl (sort s, p)) (inl (c, q)) = inr (λ r. let parts = function_of_app r.1 in absurd (let e : sort s ≡ (parts.0 ⇒ r.0) = typed_one p parts.1 in cc))
app_decided S M Γ t u (inl (a ⇒ b, p)) (inl (c, q)) = go (same_type_decided c a)
  where
    go : Decided (c ≡ a) → Decided (HasType S M Γ (app t u))
    go (inl e) = inl (b, typed_app p (subst (Typed S M Γ u) e q))
    go (inr f) = inr (λ r. let parts = function_of_app r.1 in f (typed_one q parts.2 ∙ sym (domain_one (typed_one p parts.1))))

lam_decided : (S : Symbols) (M : List Declared) (Γ : List Ty) (a : Ty) (t : Tm) → Decided (SortsBelow S.sorts a) → Decided (HasType S M (a ∷ Γ) t) → Decided (HasType S M Γ (lam a t))
lam_decided S M Γ a t (inr f) d = inr (λ p. f (sorts_of_lam p.1))
lam_decided S M Γ a t (inl s) (inl (b, p)) = inl (a ⇒ b, typed_lam s p)
lam_decided S M Γ a t (inl s) (inr g) = inr (λ p. g (body_of_lam p.1))

-- of an argument list
more_decided : (S : Symbols) (M : List Declared) (Γ : List Ty) (t : Tm) (ts : Tms) (a : Ty) (wanted : List Ty) → Decided (HasType S M Γ t) → Decided (AllTyped S M Γ ts wanted)
    → Decided (AllTyped S M Γ (more t ts) (a ∷ wanted))
more_decided S M Γ t ts a wanted (inr f) d = inr (λ p. f (a, first_typed p))
more_decided S M Γ t ts a wanted (inl p) (inr g) = inr (λ q. g (rest_typed q))
more_decided S M Γ t ts a wanted (inl (b, p)) (inl ps) = go (same_type_decided b a)
  where
    go : Decided (b ≡ a) → Decided (AllTyped S M Γ (more t ts) (a ∷ wanted))
    go (inl e) = inl (typed_more (subst (Typed S M Γ t) e p) ps)
    go (inr f) = inr (λ q. f (typed_one p (first_typed q)))

meta_decided : (S : Symbols) (M : List Declared) (Γ : List Ty) (z : ℕ) (ts : Tms) (o : Option Declared) → slice_get M z ≡ o → ((wanted : List Ty) → Decided (AllTyped S M Γ ts wanted))
    → Decided (HasType S M Γ (meta z ts))
meta_decided S M Γ z ts None e decided = inr (λ p. let d = declared_of_meta p.1 in absurd (cc (e, d.1)))
meta_decided S M Γ z ts (Some d) e decided =
    decided_by (λ ps. (d.out, typed_meta e ps refl)) (λ p. let there = declared_of_meta p.1 in subst (λ d. AllTyped S M Γ ts d.args) (some_one (sym there.1 ∙ e)) there.2) (decided d.args)

mutual
  pub typed_decided : (S : Symbols) (M : List Declared) (t : Tm) (Γ : List Ty) → Decided (HasType S M Γ t)
  typed_decided S M (bound i) Γ = bound_decided S M Γ i (slice_get Γ i) refl
  typed_decided S M (free x a) Γ = decided_by (λ s. (a, typed_free s)) (λ p. sorts_of_free p.1) (sorts_decided S.sorts a)
  typed_decided S M (fun f) Γ = fun_decided S M Γ f (slice_get S.funs f) refl
  typed_decided S M (meta z ts) Γ = meta_decided S M Γ z ts (slice_get M z) refl (λ wanted. all_typed_decided S M ts Γ wanted)
  typed_decided S M (lam a t) Γ = lam_decided S M Γ a t (sorts_decided S.sorts a) (typed_decided S M t (a ∷ Γ))
  typed_decided S M (app t u) Γ = app_decided S M Γ t u (typed_decided S M t Γ) (typed_decided S M u Γ)

  pub all_typed_decided : (S : Symbols) (M : List Declared) (ts : Tms) (Γ : List Ty) (wanted : List Ty) → Decided (AllTyped S M Γ ts wanted)
  all_typed_decided S M none Γ [] = inl typed_none
  all_typed_decided S M none Γ (a ∷ wanted) = inr too_few
  all_typed_decided S M (more t ts) Γ [] = inr too_many
  all_typed_decided S M (more t ts) Γ (a ∷ wanted) = more_decided S M Γ t ts a wanted (typed_decided S M t Γ) (all_typed_decided S M ts Γ wanted)
