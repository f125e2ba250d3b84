-- Steps of full terms are steps of filtered terms.
use Rattle.std.proofs.Common.{◌≡◌, ℕ, zero, suc, ◌⊎◌, inl, inr, List, [], ◌∷◌, length, refl, ap, ◌∙◌, sym, subst, arith}
use Rattle.std.specs.Prelude.{get_or}
use Rattle.std.proofs.Math.Path.{fun_ext}
use Rattle.wh_types.specs.Ty.{Ty, sort, ◌⇒◌, arguments}
use Rattle.wh_terms.specs.Tree.{Tm, bound, free, fun, meta, lam, app, spine}
use Rattle.wh_terms.specs.Substitution.{act, cons, opened}
use Rattle.wh_terms.specs.Typing.{Symbols, Declared, Typed, typed_bound, typed_free, typed_fun, typed_meta, typed_lam, typed_app}
use Rattle.wh_terms.specs.StepOver.{StepOver, over_beta}
use Rattle.wh_terms.proofs.TypingLaws.{some_one, typed-opened}
use Rattle.wh_order_inference.specs.Filters.{Filter, keep, pick}
use Rattle.wh_order_extended.specs.Filtered.{collapse, chosen, filtered, sift, sifts, Full}
use Rattle.wh_order_extended.specs.Many.{Many, stay, go}
use Rattle.wh_order_extended.proofs.Expand.{IsRenamed, many-app}
use Rattle.wh_order_extended.proofs.ManyLaws.{many_both, many_equal}
use Rattle.wh_order_extended.proofs.LongLaws.{at_is}
use Rattle.wh_order_extended.proofs.Sifting.{IsFlexible, IsArrow, Behind, Flexibles, put_sifted, sift-act}

module _ (S : Symbols) where
  -- a full tree is headed by no symbol, or has as many arguments to come as stand behind it
  pub flexible_or_left : {M : List Declared} {Γ : List Ty} {t : Tm} {a : Ty} (n : ℕ) → Typed S M Γ t a → Full S n t → IsFlexible t ⊎ (length (arguments a) ≡ n)
  flexible_or_left n (typed_bound e) f = inl tt
  flexible_or_left n (typed_free p) f = inl tt
  flexible_or_left n (typed_fun {f = g} {a = a} e) f = inr (ap (λ b. length (arguments b)) (sym (at_is S.funs g a e)) ∙ sym f)
  flexible_or_left n (typed_meta e us o) f = inl tt
  flexible_or_left n (typed_lam p q) f = inl tt
  flexible_or_left n (typed_app {a = a} {b = b} {t = h} p q) f = on (flexible_or_left (suc n) p f.0)
    where
      on : IsFlexible h ⊎ (length (arguments (a ⇒ b)) ≡ suc n) → IsFlexible h ⊎ (length (arguments b) ≡ n)
      on (inl g) = inl g
      on (inr e) = inr (omega (arith, e))

  pub full_flexible : {M : List Declared} {Γ : List Ty} {t : Tm} (a : Ty) → Typed S M Γ t a → Full S 0 t → IsArrow a → IsFlexible t
  full_flexible (sort s) p f w = absurd w
  full_flexible {t = t} (a ⇒ b) p f w = on (flexible_or_left 0 p f)
    where
      on : IsFlexible t ⊎ (length (arguments (a ⇒ b)) ≡ 0) → IsFlexible t
      on (inl h) = h
      on (inr e) = absurd (omega (arith, e))

  pub full_any : (t : Tm) (m n : ℕ) → IsFlexible t → Full S m t → Full S n t
  full_any (bound i) m n p f = tt
  full_any (free x a) m n p f = tt
  full_any (fun g) m n p f = absurd p
  full_any (meta z ts) m n p f = f
  full_any (lam a t) m n p f = f
  full_any (app t u) m n p f = (full_any t (suc m) (suc n) p f.0, f.1)

module _ (Φ : ℕ → Filter) (R : Tm → Tm → Type 0) (kept : IsRenamed R) where
  -- pending arguments that step
  pub data Lists : List Tm → List Tm → Type 0 where
    no_lists : Lists [] []
    more_lists : {t u : Tm} {ts us : List Tm} → Many (StepOver R) t u → Lists ts us → Lists (t ∷ ts) (u ∷ us)

  pub same_lists : (ts : List Tm) → Lists ts ts
  same_lists [] = no_lists
  same_lists (t ∷ ts) = more_lists stay (same_lists ts)

  pub many_spines : (t u : Tm) {ts us : List Tm} → Many (StepOver R) t u → Lists ts us → Many (StepOver R) (spine t ts) (spine u us)
  many_spines t u m no_lists = m
  many_spines t u m (more_lists {t = v} {u = w} n r) = many_spines (app t v) (app u w) (many-app kept m n) r

  many_get : {ts us : List Tm} → Lists ts us → (i : ℕ) → Many (StepOver R) (get_or ts i (fun 0)) (get_or us i (fun 0))
  many_get no_lists i = stay
  many_get (more_lists m r) zero = m
  many_get (more_lists m r) (suc i) = many_get r i

  many_chosen : {ts us : List Tm} → Lists ts us → (is : List ℕ) → Lists (chosen is ts) (chosen is us)
  many_chosen r [] = no_lists
  many_chosen r (i ∷ is) = more_lists (many_get r i) (many_chosen r is)

  pub many_filtered : {ts us : List Tm} → Lists ts us → (F : Filter) (f : ℕ) → Many (StepOver R) (filtered F f ts) (filtered F f us)
  many_filtered r (keep p is) f = many_spines (fun f) (fun f) stay (many_chosen r is)
  many_filtered r (pick i) f = many_get r i

  pub many_sift : (t : Tm) {ts us : List Tm} → Lists ts us → Many (StepOver R) (sift Φ t ts) (sift Φ t us)
  unfolding sift
  many_sift (bound i) r = many_spines (bound i) (bound i) stay r
  many_sift (free x a) r = many_spines (free x (collapse a)) (free x (collapse a)) stay r
  many_sift (fun f) r = many_filtered r (Φ f) f
  many_sift (meta z ts) r = many_spines (meta z (sifts Φ ts)) (meta z (sifts Φ ts)) stay r
  many_sift (lam a t) r = many_spines (lam (collapse a) (sift Φ t [])) (lam (collapse a) (sift Φ t [])) stay r
  many_sift (app t u) r = many_sift t (more_lists stay r)

module _ (S : Symbols) (Φ : ℕ → Filter) (R : Tm → Tm → Type 0) (kept : IsRenamed R) where
  opened_flexibles : (Γ : List Ty) (a : Ty) (u : Tm) → Typed S [] Γ u a → Full S 0 u → Flexibles S Φ (a ∷ Γ) (cons u bound)
  unfolding cons
  opened_flexibles Γ a u p f zero b e w = full_flexible S b (subst (Typed S [] Γ u) (some_one e) p) f w
  opened_flexibles Γ a u p f (suc i) b e w = tt

  cons_sifted : (u : Tm) (i : ℕ) → sift Φ (cons u bound i) [] ≡ cons (sift Φ u []) bound i
  unfolding cons sift
  cons_sifted u zero = refl
  cons_sifted u (suc i) = refl

  -- a beta step
  pub beta_sift : (Γ : List Ty) (a b : Ty) (t u : Tm) (qs : List Tm) → Typed S [] (a ∷ Γ) t b → Typed S [] Γ u a → Full S 0 u → Full S 0 (opened u t) → Behind b qs
      → Many (StepOver R) (sift Φ (app (lam a t) u) qs) (sift Φ (opened u t) qs)
  unfolding sift opened
  beta_sift Γ a b t u qs p q f g w =
      many_both (many_spines Φ R kept (app (lam (collapse a) (sift Φ t [])) (sift Φ u [])) (opened (sift Φ u []) (sift Φ t [])) (go (over_beta refl) stay) (same_lists Φ R kept qs))
      (many_equal (ap (λ v. spine v qs) (ap (λ σ. act σ free (sift Φ t [])) (fun_ext (λ i. sym (cons_sifted u i)))
      ∙ sift-act S Φ (cons u bound) (opened_flexibles Γ a u q f) p [] (inl refl))
      ∙ put_sifted S Φ (opened u t) qs b w (full_flexible S b (typed-opened q p) g)))
