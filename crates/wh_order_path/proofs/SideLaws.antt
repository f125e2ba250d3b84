-- Sides that inferences compare: well typed, full, and with a property of each free variable; so are their parts.
use Rattle.std.proofs.Common.{◌≡◌, ℕ, zero, suc, List, [], ◌∷◌, ◌++◌, ◌⊎◌, inl, inr, length, refl, ap, ◌∙◌, sym, subst, Some, slice_get, true, arith}
use Rattle.wh_types.specs.Ty.{Ty, sort, ◌⇒◌, arguments, result_sort}
use Rattle.wh_terms.specs.Tree.{Tm, bound, free, fun, meta, lam, app, Tms, none, more, head}
use Rattle.wh_terms.specs.Substitution.{rename, up, up_free, act, acts, cons, opened}
use Rattle.wh_terms.specs.Typing.{Symbols, Declared, Typed, typed_bound, typed_free, typed_fun, typed_meta, typed_lam, typed_app, AllTyped, typed_more}
use Rattle.wh_terms.proofs.TypingLaws.{typed-opened_free}
use Rattle.wh_order_extended.specs.Filtered.{FullWith, AllFull, symbol_arity, Full, HasOneSort}
use Rattle.wh_order_extended.proofs.Sifting.{IsFlexible}
use Rattle.wh_order_extended.proofs.SiftSteps.{flexible_or_left, full_any}
use Rattle.wh_order_extended.proofs.Fullness.{full_rename}
use Rattle.wh_order_path.specs.Heads.{arguments_of, list_of}
use Rattle.wh_order_path.specs.Verdict.{is_other_head}
use Rattle.wh_order_path.proofs.FreeNumbers.{EachFree, AllEachFree, each_opened, each_more}

full_up : (arity : ℕ → ℕ) (σ : ℕ → Tm) → ((n i : ℕ) → FullWith arity n (σ i)) → (n i : ℕ) → FullWith arity n (up σ i)
unfolding up
full_up arity σ h n zero = tt
full_up arity σ h n (suc i) = full_rename arity n suc (σ i) (h n i)

mutual
  unfolding act acts up_free rename

  -- a full tree stays full where full trees without a symbol at their head are put in
  full_put : (arity : ℕ → ℕ) (σ : ℕ → Tm) → ((n i : ℕ) → FullWith arity n (σ i)) → (n : ℕ) (t : Tm) → FullWith arity n t → FullWith arity n (act σ free t)
  full_put arity σ h n (bound i) f = h n i
  full_put arity σ h n (free x a) f = tt
  full_put arity σ h n (fun g) f = f
  full_put arity σ h n (meta z ts) f = all_full_put arity σ h ts f
  full_put arity σ h n (lam a t) f = full_put arity (up σ) (full_up arity σ h) 0 t f
  full_put arity σ h n (app t u) f = (full_put arity σ h (suc n) t f.0, full_put arity σ h 0 u f.1)

  all_full_put : (arity : ℕ → ℕ) (σ : ℕ → Tm) → ((n i : ℕ) → FullWith arity n (σ i)) → (ts : Tms) → AllFull arity ts → AllFull arity (acts σ free ts)
  all_full_put arity σ h none f = tt
  all_full_put arity σ h (more t ts) f = (full_put arity σ h 0 t f.0, all_full_put arity σ h ts f.1)

full_opened : (arity : ℕ → ℕ) (x : ℕ) (a : Ty) (t : Tm) → FullWith arity 0 t → FullWith arity 0 (opened (free x a) t)
unfolding opened cons
full_opened arity x a t f = full_put arity (cons (free x a) bound) first 0 t f
  where
    first : (n i : ℕ) → FullWith arity n (cons (free x a) bound i)
    first n zero = tt
    first n (suc i) = tt

module _ (F : Symbols) (M : List Declared) where
  -- a side, or a part of one with n arguments behind it
  pub record Side (P : ℕ → Ty → Type 0) (n : ℕ) (t : Tm) (a : Ty) : Type 0 where
    pub typed : Typed F M [] t a
    pub frees : EachFree P t
    pub full : Full F n t

  -- each tree of the list is a side
  abbrev pub Sides : (ℕ → Ty → Type 0) → List Tm → Type 0
  Sides P [] = Unit {0}
  Sides P (t ∷ ts) = ((a : Ty) × Side P 0 t a) × Sides P ts

  sides_append : (P : ℕ → Ty → Type 0) (ts us : List Tm) → Sides P ts → Sides P us → Sides P (ts ++ us)
  sides_append P [] us s r = r
  sides_append P (t ∷ ts) us s r = (s.0, sides_append P ts us s.1 r)

  pub side_at : (P : ℕ → Ty → Type 0) (ts : List Tm) (n : ℕ) (u : Tm) → Sides P ts → slice_get ts n ≡ Some u → (a : Ty) × Side P 0 u a
  side_at P [] n u s e = absurd (cc)
  side_at P (t ∷ ts) zero u s e = subst (λ u. (a : Ty) × Side P 0 u a) (one e) s.0
    where
      one : {v : Tm} → Some t ≡ Some v → t ≡ v
      one e = cc
  side_at P (t ∷ ts) (suc n) u s e = side_at P ts n u s.1 e

  -- an application, by its two parts
  record Applied (P : ℕ → Ty → Type 0) (n : ℕ) (t u : Tm) (b : Ty) : Type 0 where
    domain : Ty
    function : Side P (suc n) t (domain ⇒ b)
    argument : Side P 0 u domain

  applied_side : {P : ℕ → Ty → Type 0} {n : ℕ} {t u : Tm} {b : Ty} → Side P n (app t u) b → Applied P n t u b
  applied_side {P = P} {n = n} {t = t} {u = u} {b = b} s = on s.typed
    where
      on : Typed F M [] (app t u) b → Applied P n t u b
      on (typed_app {a = a} p q) = record {
        domain = a;
        function = record { typed = p; frees = s.frees.0; full = s.full.0 };
        argument = record { typed = q; frees = s.frees.1; full = s.full.1 };
      }

  pub side_arguments : (P : ℕ → Ty → Type 0) (n : ℕ) (t : Tm) (b : Ty) → Side P n t b → Sides P (arguments_of t)
  side_arguments P n (bound i) b s = tt
  side_arguments P n (free x a) b s = tt
  side_arguments P n (fun f) b s = tt
  side_arguments P n (meta z ts) b s = tt
  side_arguments P n (lam a t) b s = tt
  side_arguments P n (app t u) b s =
      let a = applied_side s in
      sides_append P (arguments_of t) (u ∷ []) (side_arguments P (suc n) t (a.domain ⇒ b) a.function) ((a.domain, a.argument), tt)

  flexible_head : (t : Tm) → is_other_head t ≡ true → IsFlexible t
  flexible_head (bound i) e = tt
  flexible_head (free x a) e = tt
  flexible_head (fun f) e = absurd (cc)
  flexible_head (meta z ts) e = tt
  flexible_head (lam a t) e = tt
  flexible_head (app t u) e = absurd (cc)

  side_front : (P : ℕ → Ty → Type 0) (n : ℕ) (t : Tm) (b : Ty) → Side P n t b → (m : ℕ) × (a : Ty) × Side P m (head t) a
  side_front P n (bound i) b s = (n, b, s)
  side_front P n (free x a) b s = (n, b, s)
  side_front P n (fun f) b s = (n, b, s)
  side_front P n (meta z ts) b s = (n, b, s)
  side_front P n (lam a t) b s = (n, b, s)
  side_front P n (app t u) b s = let a = applied_side s in side_front P (suc n) t (a.domain ⇒ b) a.function

  -- a head that is no symbol is a side of its own
  pub side_head : (P : ℕ → Ty → Type 0) (n : ℕ) (t : Tm) (b : Ty) → is_other_head (head t) ≡ true → Side P n t b → (a : Ty) × Side P 0 (head t) a
  side_head P n t b e s =
      let (m, a, r) = side_front P n t b s in
      (a, record { typed = r.typed; frees = r.frees; full = full_any F (head t) m 0 (flexible_head (head t) e) r.full })

  pub side_metas : (P : ℕ → Ty → Type 0) (z : ℕ) (ts : Tms) (b : Ty) → Side P 0 (meta z ts) b → Sides P (list_of ts)
  side_metas P z ts b s = on s.typed
    where
      all : (ts : Tms) (cs : List Ty) → AllTyped F M [] ts cs → AllEachFree P ts → AllFull (symbol_arity F) ts → Sides P (list_of ts)
      all none cs p e f = tt
      all (more t ts) [] p e f = elim p [ ]
      all (more t ts) (c ∷ cs) (typed_more p ps) e f = ((c, record { typed = p; frees = e.0; full = f.0 }), all ts cs ps e.1 f.1)

      on : Typed F M [] (meta z ts) b → Sides P (list_of ts)
      on (typed_meta {d = d} e ps o) = all ts d.args ps s.frees s.full

  -- the body of an abstraction, opened
  pub side_opened : (P Q : ℕ → Ty → Type 0) → ((x : ℕ) (a : Ty) → P x a → Q x a) → (x : ℕ) (a : Ty) (t : Tm) (b : Ty) → Q x a → Side P 0 (lam a t) b
      → (c : Ty) × (b ≡ a ⇒ c) × Side Q 0 (opened (free x a) t) c
  side_opened P Q h x a t b q s = on s.typed
    where
      on : {b : Ty} → Typed F M [] (lam a t) b → (c : Ty) × (b ≡ a ⇒ c) × Side Q 0 (opened (free x a) t) c
      on (typed_lam {b = c} k p) = (
        c,
        refl,
        record {
          typed = typed-opened_free x k p;
          frees = each_opened P Q h x a t q s.frees;
          full = full_opened (symbol_arity F) x a t s.full;
        },
      )

  pub side_more : (P Q : ℕ → Ty → Type 0) → ((x : ℕ) (a : Ty) → P x a → Q x a) → {n : ℕ} {t : Tm} {b : Ty} → Side P n t b → Side Q n t b
  side_more P Q h {t = t} s = record { typed = s.typed; frees = each_more P Q h t s.frees; full = s.full }

  -- the result of a spine that a symbol heads is that of the symbol
  head_result : {Γ : List Ty} {t : Tm} {b : Ty} (f : ℕ) → Typed F M Γ t b → head t ≡ fun f → (c : Ty) × (slice_get F.funs f ≡ Some c) × (result_sort c ≡ result_sort b)
  head_result f (typed_bound e) d = absurd (cc)
  head_result f (typed_free p) d = absurd (cc)
  head_result {b = b} f (typed_fun {f = g} e) d = (b, ap (slice_get F.funs) (sym (one d)) ∙ e, refl)
    where
      one : fun g ≡ fun f → g ≡ f
      one d = cc
  head_result f (typed_meta e us o) d = absurd (cc)
  head_result f (typed_lam p q) d = absurd (cc)
  head_result f (typed_app p q) d = head_result f p d

  not_flexible : (f : ℕ) (t : Tm) → head t ≡ fun f → IsFlexible t → ⊥
  not_flexible f (bound i) d p = cc
  not_flexible f (free x a) d p = cc
  not_flexible f (fun g) d p = p
  not_flexible f (meta z ts) d p = cc
  not_flexible f (lam a t) d p = cc
  not_flexible f (app t u) d p = not_flexible f t d p

  -- a full tree that a symbol heads has the one sort as its type
  pub symbol_sort : HasOneSort F → (P : ℕ → Ty → Type 0) (f : ℕ) (t : Tm) (b : Ty) → head t ≡ fun f → Side P 0 t b → b ≡ sort 0
  symbol_sort one P f t b d s = on b (flexible_or_left F 0 s.typed s.full) (head_result f s.typed d)
    where
      on : (b : Ty) → IsFlexible t ⊎ (length (arguments b) ≡ 0) → (c : Ty) × (slice_get F.funs f ≡ Some c) × (result_sort c ≡ result_sort b) → b ≡ sort 0
      on b (inl p) h = absurd (not_flexible f t d p)
      on (sort s) (inr e) (c, at, r) = ap sort (sym r ∙ one f c at)
      on (a ⇒ b) (inr e) h = absurd (omega (arith, e))
