-- Extensions of all terms step to themselves; spines; and steps of a term are steps of its extension.
use Rattle.std.proofs.Common.{◌≡◌, ℕ, zero, suc, List, [], ◌∷◌, ◌++◌, map, refl, ap, ap₂, ◌∙◌, sym, subst}
use mathlib.Core.Path.{subst₂}
use Rattle.std.proofs.lemmas.Option.{none-some}
use Rattle.wh_types.specs.Ty.{Ty, sort, ◌⇒◌}
use Rattle.wh_terms.specs.Tree.{Tm, bound, free, fun, meta, lam, app, spine, head}
use Rattle.wh_terms.specs.Substitution.{up_renaming, rename, cons, opened}
use Rattle.wh_terms.specs.Typing.{Symbols, Typed, typed_bound, typed_meta, typed_lam, typed_app}
use Rattle.wh_terms.specs.StepOver.{StepOver, over_root, over_beta, over_function, over_argument, over_body, KeepsTypes}
use Rattle.wh_terms.proofs.ActLaws.{act-rename, act-id}
use Rattle.wh_terms.proofs.TypingLaws.{typed-shift, some_one}
use Rattle.wh_terms.proofs.StepOver.{over-typed}
use Rattle.wh_step_laws.proofs.Spines.{spine-append}
use Rattle.wh_step_laws.proofs.Candidates.{head-spine}
use Rattle.wh_order_extended.specs.Kinds.{type_at, kind}
use Rattle.wh_order_extended.specs.Long.{expand, finish, core, long}
use Rattle.wh_order_extended.specs.Many.{Many, go}
use Rattle.wh_order_extended.proofs.Expand.{IsRenamed, many-expand, many-body, many-function, many-argument, expand-twice}
use Rattle.wh_order_extended.proofs.ManyLaws.{many_both, many_equal}
use Rattle.wh_order_extended.proofs.LongLaws.{kind_is, core-rename, Eta, EtaAll, eta_at, variable, extension, Puts, Comes, as_core, as_long, applied, long_act}

module _ (S : Symbols) (R : Tm → Tm → Type 0) (kept : IsRenamed R) where
  twice_at : (a k : Ty) (c : Tm) → k ≡ a → Many (StepOver R) (expand a (expand k c)) (expand k c)
  twice_at a k c e = subst (λ a. Many (StepOver R) (expand a (expand k c)) (expand k c)) e (expand-twice kept k c)

  -- a variable for its extension
  eta_put : (a : Ty) → EtaAll S R kept a → (Γ : List Ty) → Puts S R kept (a ∷ Γ) (a ∷ Γ) bound (λ i. cons (expand a (bound 0)) bound (up_renaming suc i))
  unfolding cons up_renaming core
  eta_put a h Γ zero b e = (typed_bound e, extension refl (subst (EtaAll S R kept) (some_one e) h))
  eta_put a h Γ (suc i) b e = (typed_bound e, variable (suc i) refl refl)

  eta_lam : (a b : Ty) → EtaAll S R kept a → EtaAll S R kept b → (Γ : List Ty) (t : Tm) → Typed S [] (a ∷ Γ) t b
      → Many (StepOver R) (expand (a ⇒ b) (lam a (long S [] (a ∷ Γ) t))) (lam a (long S [] (a ∷ Γ) t))
  unfolding expand rename opened core
  eta_lam a b h k Γ t p =
      let e : Tm = long S [] (a ∷ Γ) t in
      many-body kept a (many_both (many-expand kept b (
      go (over_beta refl) (many_both
      (many_equal (act-rename (up_renaming suc) (cons (expand a (bound 0)) bound) free e))
      (many_both (long_act S R kept (a ∷ Γ) bound (λ i. cons (expand a (bound 0)) bound (up_renaming suc i)) (eta_put a h Γ) p)
      (many_equal (ap (long S [] (a ∷ Γ)) (act-id t)))))))
      (eta_at S R kept b k (a ∷ Γ) t p))

  eta_arrow : (a b : Ty) → EtaAll S R kept a → EtaAll S R kept b → Eta S R kept (a ⇒ b)
  unfolding core
  eta_arrow a b h k Γ (bound i) p = twice_at (a ⇒ b) (type_at Γ i) (bound i) (kind_is p)
  eta_arrow a b h k Γ (free x c) p = twice_at (a ⇒ b) c (free x c) (kind_is p)
  eta_arrow a b h k Γ (fun f) p = twice_at (a ⇒ b) (type_at S.funs f) (fun f) (kind_is p)
  eta_arrow a b h k Γ (meta z ts) (typed_meta {d = d} e us o) = absurd (none-some d e)
  eta_arrow a b h k Γ (lam c t) (typed_lam s p) = eta_lam a b h k Γ t p
  eta_arrow a b h k Γ (app t u) p = twice_at (a ⇒ b) (kind S [] Γ (app t u)) (core S [] Γ (app t u)) (kind_is p)

  pub eta_all : (a : Ty) → EtaAll S R kept a
  eta_all (sort s) = tt
  eta_all (a ⇒ b) = (eta_all a, eta_all b, eta_arrow a b (eta_all a) (eta_all b))

  pub eta : (a : Ty) → Eta S R kept a
  eta a = eta_at S R kept a (eta_all a)

  pub longs : List Ty → List Tm → List Tm
  unfolding core
  longs Γ ts = map (long S [] Γ) ts

  pub core-spine : (Γ : List Ty) (h : Tm) (ts : List Tm) → core S [] Γ (spine h ts) ≡ spine (core S [] Γ h) (longs Γ ts)
  unfolding core longs
  core-spine Γ h [] = refl
  core-spine Γ h (t ∷ ts) = core-spine Γ (app h t) ts

  pub many-spine : (ts : List Tm) {t u : Tm} → Many (StepOver R) t u → Many (StepOver R) (spine t ts) (spine u ts)
  many-spine [] m = m
  many-spine (v ∷ ts) m = many-spine ts (many-function kept v m)

  finish-spine : (t u : Tm) (ts : List Tm) (a : Ty) (c : Tm) → finish (spine (app t u) ts) a c ≡ expand a c
  finish-spine t u [] a c = refl
  finish-spine t u (v ∷ ts) a c = finish-spine (app t u) v ts a c

  -- the extension of an application with more arguments
  pub long-spine : (Γ : List Ty) (t u : Tm) (ts : List Tm) (b : Ty) → Typed S [] Γ (spine (app t u) ts) b
      → long S [] Γ (spine (app t u) ts) ≡ expand b (spine (app (core S [] Γ t) (long S [] Γ u)) (longs Γ ts))
  unfolding core
  long-spine Γ t u ts b p =
      finish-spine t u ts (kind S [] Γ (spine (app t u) ts)) (core S [] Γ (spine (app t u) ts))
      ∙ ap₂ expand (kind_is p) (core-spine Γ (app t u) ts)

  -- the head of a typed spine takes its first argument
  pub front_typed : {Γ : List Ty} {b : Ty} (h t : Tm) (ts : List Tm) → Typed S [] Γ (spine h (t ∷ ts)) b → (a c : Ty) × Typed S [] Γ h (a ⇒ c) × Typed S [] Γ t a
  front_typed {Γ = Γ} h t [] p = back p
    where
      back : {b : Ty} → Typed S [] Γ (app h t) b → (a c : Ty) × Typed S [] Γ h (a ⇒ c) × Typed S [] Γ t a
      back (typed_app {a = a} {b = c} p q) = (a, c, p, q)
  front_typed {Γ = Γ} h t (u ∷ ts) p =
      let (a, c, q, r) = front_typed (app h t) u ts p in
      back q
    where
      back : {b : Ty} → Typed S [] Γ (app h t) b → (a c : Ty) × Typed S [] Γ h (a ⇒ c) × Typed S [] Γ t a
      back (typed_app {a = a} {b = c} p q) = (a, c, p, q)

  -- an extended head with extended arguments comes to the extended spine
  pub spine_long : (Γ : List Ty) (c : Tm) (ts : List Tm) (b : Ty) → Typed S [] Γ (spine c ts) b
      → Many (StepOver R) (expand b (spine (long S [] Γ c) (longs Γ ts))) (long S [] Γ (spine c ts))
  unfolding longs core
  spine_long Γ c [] b p = eta b Γ c p
  spine_long Γ c (t ∷ ts) b p =
      let (a, d, q, r) = front_typed c t ts p in
      on (spine_long Γ (app c t) ts b p) (applied S R kept Γ c t a d q r (eta_all (a ⇒ d)))
    where
      on : {d : Ty} → Many (StepOver R) (expand b (spine (long S [] Γ (app c t)) (longs Γ ts))) (long S [] Γ (spine (app c t) ts)) → Comes S R kept d (app (long S [] Γ c) (long S [] Γ t)) (core S [] Γ (app c t)) (long S [] Γ (app c t))
          → Many (StepOver R) (expand b (spine (app (long S [] Γ c) (long S [] Γ t)) (longs Γ ts))) (long S [] Γ (spine (app c t) ts))
      on n (as_core m) = many_both (many-expand kept b (many-spine (longs Γ ts) m)) (many_equal (sym (long-spine Γ c t ts b p)))
      on n (as_long m h) = many_both (many-expand kept b (many-spine (longs Γ ts) m)) n

-- a core with its missing arguments comes to the extension
pub core_long : (S : Symbols) (R : Tm → Tm → Type 0) (kept : IsRenamed R) (Γ : List Ty) (t : Tm) (b : Ty) → Typed S [] Γ t b → Many (StepOver R) (expand b (core S [] Γ t)) (long S [] Γ t)
core_long S R kept Γ (bound i) b p = many_equal (ap (λ k. expand k (core S [] Γ (bound i))) (sym (kind_is p)))
core_long S R kept Γ (free x c) b p = many_equal (ap (λ k. expand k (core S [] Γ (free x c))) (sym (kind_is p)))
core_long S R kept Γ (fun f) b p = many_equal (ap (λ k. expand k (core S [] Γ (fun f))) (sym (kind_is p)))
core_long S R kept Γ (meta z ts) b (typed_meta {d = d} e us o) = absurd (none-some d e)
core_long S R kept Γ (lam c t) b p = eta S R kept b Γ (lam c t) p
core_long S R kept Γ (app t u) b p = many_equal (ap (λ k. expand k (core S [] Γ (app t u))) (sym (kind_is p)))

pub finish-headed : (f : ℕ) (t : Tm) (a : Ty) (c : Tm) → head t ≡ fun f → finish t a c ≡ expand a c
finish-headed f (bound i) a c e = refl
finish-headed f (free x b) a c e = refl
finish-headed f (fun g) a c e = refl
finish-headed f (meta z ts) a c e = absurd (cc)
finish-headed f (lam b t) a c e = absurd (cc)
finish-headed f (app t u) a c e = refl

-- an extension of a functional term, by the term with one argument more
applied-core : (S : Symbols) (Γ : List Ty) (t : Tm) (a b : Ty) → Typed S [] Γ t (a ⇒ b)
    → lam a (long S [] (a ∷ Γ) (app (rename suc t) (bound 0))) ≡ expand (a ⇒ b) (core S [] Γ t)
unfolding core expand
applied-core S Γ t a b p = ap (lam a) (ap₂ (λ k c. expand k (app c (expand a (bound 0)))) (kind_is (typed_app (typed-shift a p) (typed_bound {i = 0} refl))) (core-rename S [] t Γ (a ∷ Γ) suc (λ i. refl)))

rename-spine : (r : ℕ → ℕ) (h : Tm) (ts : List Tm) → rename r (spine h ts) ≡ spine (rename r h) (map (rename r) ts)
unfolding rename
rename-spine r h [] = refl
rename-spine r h (t ∷ ts) = rename-spine r (app h t) ts

module _ (S : Symbols) (R : Tm → Tm → Type 0) (kept : IsRenamed R) (Q : Tm → Tm → Type 0)
    (q_kept : IsRenamed Q) (q_typed : KeepsTypes S Q) (q_headed : (t u : Tm) → Q t u → (f : ℕ) × (head t ≡ fun f))
    (root : (Γ : List Ty) (t u : Tm) (ws : List Tm) (s : ℕ) → Q t u → Typed S [] Γ (spine t ws) (sort s) → Many (StepOver R) (long S [] Γ (spine t ws)) (long S [] Γ (spine u ws))) where
  renamed : (r : ℕ → ℕ) (t u : Tm) → Q t u → Q (rename r t) (rename r u)
  renamed r t u q = q_kept r t u q

  spine_typed : {Γ : List Ty} {b : Ty} {t u : Tm} → ((a : Ty) → Typed S [] Γ t a → Typed S [] Γ u a) → (ws : List Tm) → Typed S [] Γ (spine t ws) b → Typed S [] Γ (spine u ws) b
  spine_typed {b = b} h [] p = h b p
  spine_typed {Γ = Γ} {b = b} {t = t} {u = u} h (w ∷ ws) p = spine_typed (λ a. more a) ws p
    where
      more : (a : Ty) → Typed S [] Γ (app t w) a → Typed S [] Γ (app u w) a
      more a (typed_app {a = c} q r) = typed_app (h (c ⇒ a) q) r

  one_more : (ws : List Tm) (v : Tm) → spine (rename suc v) (map (rename suc) ws ++ bound 0 ∷ []) ≡ app (rename suc (spine v ws)) (bound 0)
  one_more ws v = spine-append (rename suc v) (map (rename suc) ws) (bound 0 ∷ []) ∙ ap (λ w. app w (bound 0)) (sym (rename-spine suc v ws))

  -- a root step with arguments of any type
  root_long : (b : Ty) (Γ : List Ty) (t u : Tm) (ws : List Tm) → Q t u → Typed S [] Γ (spine t ws) b → Many (StepOver R) (long S [] Γ (spine t ws)) (long S [] Γ (spine u ws))
  root_long (sort s) Γ t u ws q p = root Γ t u ws s q p
  root_long (a ⇒ b) Γ t u ws q p =
      let p' = spine_typed (λ c. q_typed Γ t u c q) ws p in
      let m = root_long b (a ∷ Γ) (rename suc t) (rename suc u) (map (rename suc) ws ++ bound 0 ∷ []) (renamed suc t u q)
      (subst (λ v. Typed S [] (a ∷ Γ) v b) (sym (one_more ws t)) (typed_app (typed-shift a p) (typed_bound {i = 0} refl))) in
      let (f, e) = q_headed t u q in
      many_both (many_equal (finish-headed f (spine t ws) (kind S [] Γ (spine t ws)) (core S [] Γ (spine t ws)) (head-spine t ws ∙ e) ∙ ap (λ k. expand k (core S [] Γ (spine t ws))) (kind_is p) ∙ sym (applied-core S Γ (spine t ws) a b p)))
      (many_both (many-body kept a (subst₂ (λ v w. Many (StepOver R) (long S [] (a ∷ Γ) v) (long S [] (a ∷ Γ) w)) (one_more ws t) (one_more ws u) m))
      (many_both (many_equal (applied-core S Γ (spine u ws) a b p')) (core_long S R kept Γ (spine u ws) (a ⇒ b) p')))

  opened_put : (Γ : List Ty) (a : Ty) (u : Tm) → Typed S [] Γ u a → Puts S R kept (a ∷ Γ) Γ (cons u bound) (cons (long S [] Γ u) bound)
  unfolding cons
  opened_put Γ a u p zero b e = (subst (Typed S [] Γ u) (some_one e) p, extension refl (eta_all S R kept b))
  opened_put Γ a u p (suc i) b e = (typed_bound e, variable i refl refl)

  beta_long : (Γ : List Ty) (a c b : Ty) (t u : Tm) (ws : List Tm) → Typed S [] (a ∷ Γ) t c → Typed S [] Γ u a
      → Typed S [] Γ (spine (app (lam a t) u) ws) b → Typed S [] Γ (spine (opened u t) ws) b
      → Many (StepOver R) (long S [] Γ (spine (app (lam a t) u) ws)) (long S [] Γ (spine (opened u t) ws))
  unfolding core opened longs
  beta_long Γ a c b t u ws p q w w' =
      many_both (many_equal (long-spine S R kept Γ (lam a t) u ws b w))
      (many_both (many-expand kept b (many-spine S R kept (longs S R kept Γ ws) (go (over_beta refl) (long_act S R kept Γ (cons u bound) (cons (long S [] Γ u) bound) (opened_put Γ a u q) p))))
      (spine_long S R kept Γ (opened u t) ws b w'))

  body_long : {Γ : List Ty} {t : Tm} {b : Ty} (a : Ty) (t' : Tm) → ((c : Ty) → Typed S [] (a ∷ Γ) t c → Many (StepOver R) (long S [] (a ∷ Γ) t) (long S [] (a ∷ Γ) t'))
      → Typed S [] Γ (lam a t) b → Many (StepOver R) (long S [] Γ (lam a t)) (long S [] Γ (lam a t'))
  unfolding core
  body_long a t' h (typed_lam {b = c} s q) = many-body kept a (h c q)

  -- steps of a term with arguments are steps of its extension
  pub step_long : {t u : Tm} → StepOver Q t u → (Γ : List Ty) (ws : List Tm) (b : Ty) → Typed S [] Γ (spine t ws) b
      → Many (StepOver R) (long S [] Γ (spine t ws)) (long S [] Γ (spine u ws))
  step_long (over_root {t = t} {u = u} q) Γ ws b p = root_long b Γ t u ws q p
  step_long (over_beta {a = a} {t = t} {u = u} {v = v} e) Γ ws b p =
      let (c, d, q, r) = front_typed S R kept (lam a t) u ws p in
      on q r
    where
      on : {c d : Ty} → Typed S [] Γ (lam a t) (c ⇒ d) → Typed S [] Γ u c → Many (StepOver R) (long S [] Γ (spine (app (lam a t) u) ws)) (long S [] Γ (spine v ws))
      on (typed_lam {b = d} s q) r = subst (λ v. Many (StepOver R) (long S [] Γ (spine (app (lam a t) u) ws)) (long S [] Γ (spine v ws))) (sym e)
          (beta_long Γ a d b t u ws q r p (spine_typed (λ c s. over-typed S q_typed Γ c (over_beta refl) s) ws p))
  step_long (over_function {t = t} {t' = t'} {u = u} s) Γ ws b p = step_long s Γ (u ∷ ws) b p
  step_long (over_argument {t = t} {u = u} {u' = u'} s) Γ ws b p =
      let (a, c, q, r) = front_typed S R kept t u ws p in
      let p' = spine_typed (λ c h. over-typed S q_typed Γ c (over_argument s) h) ws p in
      many_both (many_equal (long-spine S R kept Γ t u ws b p))
      (many_both (many-expand kept b (many-spine S R kept (longs S R kept Γ ws) (many-argument kept (core S [] Γ t) (step_long s Γ [] a r))))
      (many_equal (sym (long-spine S R kept Γ t u' ws b p'))))
  step_long (over_body {a = a} {t = t} {t' = t'} s) Γ [] b p = body_long a t' (λ c. step_long s (a ∷ Γ) [] c) p
  step_long (over_body {a = a} {t = t} {t' = t'} s) Γ (w ∷ ws) b p =
      let p' = spine_typed (λ c h. over-typed S q_typed Γ c (over_body s) h) (w ∷ ws) p in
      let (c, d, q, r) = front_typed S R kept (lam a t) w ws p in
      many_both (many_equal (long-spine S R kept Γ (lam a t) w ws b p))
      (many_both (many-expand kept b (many-spine S R kept (longs S R kept Γ ws) (many-function kept (long S [] Γ w) (body_long a t' (λ c. step_long s (a ∷ Γ) [] c) q))))
      (many_equal (sym (long-spine S R kept Γ (lam a t') w ws b p'))))
