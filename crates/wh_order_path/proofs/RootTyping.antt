-- Inferences keep the types of instances.
use Rattle.std.proofs.Common.{◌≡◌, ◌≢◌, ℕ, zero, suc, inl, inr, List, [], ◌∷◌, length, map, refl, ap, ap₂, ◌∙◌, sym, subst, Some, slice_get, Contains, arith}
use Rattle.std.specs.List.{AllByRecursion}
use mathlib.Core.Path.{subst₂}
use Rattle.std.proofs.Math.Path.{fun_ext}
use Rattle.wh_types.specs.Ty.{Ty, sort, ◌⇒◌}
use Rattle.wh_terms.specs.Tree.{Tm, bound, free, fun, meta, lam, app, Tms, tms_of, spine}
use Rattle.wh_terms.specs.Substitution.{rename, up_renaming, up, up_free, act}
use Rattle.wh_terms.specs.Sight.{LooseBelow, Fresh, IsTerm}
use Rattle.wh_terms.specs.Typing.{Symbols, Declared, Typed, typed_bound, typed_free, typed_fun, typed_meta, typed_lam, typed_app, AllTyped, typed_none, typed_more}
use Rattle.wh_terms.specs.Value.{Body}
use Rattle.wh_terms.specs.StepOver.{StepOver, AreFreeTerms, KeepsTypes}
use Rattle.wh_terms.proofs.ActLaws.{rename-is-act}
use Rattle.wh_terms.proofs.TypingLaws.{typed_one, some_one, typed_loose, typed_term, typed-shift, typed-opened_free}
use Rattle.wh_terms.proofs.StepOver.{over-typed}
use Rattle.wh_terms.proofs.ValueForm.{shifted, acted, value, value_term, value_same, FitsBodies, up_many, up_times}
use Rattle.wh_terms.proofs.ValueLaws.{up_free_many-free}
use Rattle.wh_step_laws.specs.RootRelations.{IsRoot}
use Rattle.wh_step_laws.proofs.Spines.{spine_one}
use Rattle.wh_step_laws.proofs.Listed.{In, in_contains, contains_in}
use Rattle.wh_order_inference.specs.Inferences.{Inference, Inferences}
use Rattle.wh_order_path.specs.Order.{Variable, NoneNumbered, AtLeast, at_least_same, at_least_greater, AllAtLeast, none_at_least, more_at_least, Greater, by_bodies, by_arguments, by_above, Above, by_part, by_lower, by_first_less, by_spine, by_body, by_variable, by_meta, AllAbove, none_above, more_above}
use Rattle.wh_order_path.specs.Heads.{nearest, abstracted}
use Rattle.wh_order_extended.specs.Kinds.{AreCounted}
use Rattle.wh_order_extended.specs.Many.{Many, stay, go}
use Rattle.wh_order_extended.proofs.Acted.{typed_fits}
use Rattle.wh_order_path.proofs.OrderSteps.{instead, instead_same, instead_other, instead_terms, free_up, inst, inst-spine, body_inst, Root, left_is, right_is}
use Rattle.wh_order_extended.specs.Kinds.{arrows}
use Rattle.wh_order_extended.proofs.TypeLists.{arrows_one, typed_spine-arguments, typed_spine, typed_length}
use Rattle.wh_order_path.proofs.Symbols.{fresh_spine, inst_instead}
use Rattle.wh_order_path.proofs.Roots.{inst-act, meta_steps, abstraction_type, root_kept, root_headed, root_even, symbol_arguments}

pub up_many-renaming : (n : ℕ) (r : ℕ → ℕ) (i : ℕ) → up_many n (λ i. bound (r i)) i ≡ bound (up_times n r i)
unfolding up_many up_times up up_renaming rename
up_many-renaming zero r i = refl
up_many-renaming (suc n) r i = ap (λ σ. up_many n σ i) (fun_ext (λ j. one j)) ∙ up_many-renaming n (λ j. up_renaming r j) i
  where
    one : (j : ℕ) → up (λ i. bound (r i)) j ≡ bound (up_renaming r j)
    one zero = refl
    one (suc j) = refl

-- bodies moved below a binder are bodies with a renaming in them
pub acted_suc : (g : ℕ → Body) (z : ℕ) → acted (λ i. bound (suc i)) free g z ≡ shifted g z
acted_suc g z =
    let put : Tm → Body = λ b. record { arity = (g z).arity; tree = b } in
    ap put (ap₂ (λ σ φ. act σ φ (g z).tree) (fun_ext (λ i. up_many-renaming (g z).arity suc i)) (fun_ext (λ x. fun_ext (λ a. up_free_many-free (g z).arity x a)))
    ∙ sym (rename-is-act (up_times (g z).arity suc) (g z).tree))

-- an instance below one binder more
inst_shift : (g : ℕ → Body) (φ : ℕ → Ty → Tm) (t : Tm) → AreFreeTerms φ → LooseBelow 0 t → FitsBodies g t → inst (shifted g) (up_free φ) t ≡ rename suc (inst g φ t)
unfolding up_free
inst_shift g φ t p l f =
    sym (rename-is-act suc (inst g φ t) ∙ inst-act (λ i. bound (suc i)) free g φ t (λ i. tt) (λ x a. tt) p l f
    ∙ value_same (acted (λ i. bound (suc i)) free g) (shifted g) (act bound (λ x a. act (λ i. bound (suc i)) free (φ x a)) t) (acted_suc g)
    ∙ ap (λ ψ. inst (shifted g) ψ t) (fun_ext (λ x. fun_ext (λ a. sym (rename-is-act suc (φ x a))))))

module _ (F : Symbols) (prec : ℕ → ℕ) where
  spine_kept : {Γ : List Ty} {b : Ty} {t u : Tm} → ((a : Ty) → Typed F [] Γ t a → Typed F [] Γ u a) → (ws : List Tm) → Typed F [] Γ (spine t ws) b → Typed F [] Γ (spine u ws) b
  spine_kept {b = b} h [] p = h b p
  spine_kept {Γ = Γ} {b = b} {t = t} {u = u} h (w ∷ ws) p = spine_kept (λ a. more_kept a) ws p
    where
      more_kept : (a : Ty) → Typed F [] Γ (app t w) a → Typed F [] Γ (app u w) a
      more_kept a (typed_app {a = c} q r) = typed_app (h (c ⇒ a) q) r

  -- what is known of types where the instance of L steps at its root
  record Below (M : List Declared) (Ls : List Tm) (Γ : List Ty) (g : ℕ → Body) (φ : ℕ → Ty → Tm) (X : List Variable) : Type 0 where
    counted : AreCounted M g
    terms : AreFreeTerms φ
    arguments_typed : (n : ℕ) (u : Tm) → slice_get Ls n ≡ Some u → (c : Ty) × Typed F M [] u c × Typed F [] Γ (inst g φ u) c
    variables_typed : (x : ℕ) (a : Ty) → Contains X (record { number = x; type_of = a }) → Typed F [] Γ (φ x a) a

  fresh_at : (x : ℕ) (ls : List Tm) (n : ℕ) (u : Tm) → AllByRecursion (Fresh x) ls → slice_get ls n ≡ Some u → Fresh x u
  fresh_at x [] n u f e = absurd (cc)
  fresh_at x (l ∷ ls) zero u f e = subst (Fresh x) (some_one e) f.0
  fresh_at x (l ∷ ls) (suc n) u f e = fresh_at x ls n u f.1 e

  next_typed : (Γ : List Ty) (φ : ℕ → Ty → Tm) (X : List Variable) (x : ℕ) (a : Ty) → NoneNumbered x X → ((y : ℕ) (b : Ty) → Contains X (record { number = y; type_of = b }) → Typed F [] Γ (φ y b) b)
      → (y : ℕ) (b : Ty) → Contains (record { number = x; type_of = a } ∷ X) (record { number = y; type_of = b }) → Typed F [] (a ∷ Γ) (instead x (bound 0) (up_free φ) y b) b
  unfolding up_free
  next_typed Γ φ X x a new h y b c = on (contains_in (record { number = y; type_of = b }) (record { number = x; type_of = a } ∷ X) c)
    where
      other : (Y : List Variable) → NoneNumbered x Y → In (record { number = y; type_of = b }) Y → y ≢ x
      other [] n i = absurd i
      other (v ∷ Y) n (inl e) = λ d. n.0 (sym (ap (λ v. v.number) e) ∙ d)
      other (v ∷ Y) n (inr i) = other Y n.1 i

      on : In (record { number = y; type_of = b }) (record { number = x; type_of = a } ∷ X) → Typed F [] (a ∷ Γ) (instead x (bound 0) (up_free φ) y b) b
      on (inl e) =
          let number : y ≡ x = ap (λ v. v.number) e in
          let type : b ≡ a = ap (λ v. v.type_of) e in
          subst (λ t. Typed F [] (a ∷ Γ) t b) (sym (ap (λ y. instead x (bound 0) (up_free φ) y b) number ∙ instead_same x (bound 0) (up_free φ) b)) (typed_bound {i = 0} (ap Some (sym type)))
      on (inr i) = subst (λ t. Typed F [] (a ∷ Γ) t b) (sym (instead_other x (bound 0) (up_free φ) y b (other X new i))) (typed-shift a (h y b (in_contains (record { number = y; type_of = b }) X i)))

  next : (M : List Declared) (Ls : List Tm) (Γ : List Ty) (g : ℕ → Body) (φ : ℕ → Ty → Tm) (X : List Variable) → Below M Ls Γ g φ X → (x : ℕ) (a : Ty) → AllByRecursion (Fresh x) Ls → NoneNumbered x X
      → Below M Ls (a ∷ Γ) (shifted g) (instead x (bound 0) (up_free φ)) (record { number = x; type_of = a } ∷ X)
  next M Ls Γ g φ X o x a fresh new = record {
    counted = o.counted;
    terms = instead_terms x (bound 0) (up_free φ) tt (free_up φ o.terms);
    arguments_typed = λ n u e.
        let (c, p, q) = o.arguments_typed n u e in
        (c, p, subst (λ t. Typed F [] (a ∷ Γ) t c) (sym (inst_instead (shifted g) (up_free φ) x (bound 0) u (fresh_at x Ls n u fresh e) ∙ inst_shift g φ u o.terms (typed_loose p) (typed_fits g o.counted p))) (typed-shift a q));
    variables_typed = next_typed Γ φ X x a new o.variables_typed;
  }

  lam_loose : {M : List Declared} {a c : Ty} {t : Tm} → Typed F M [] (lam a t) c → LooseBelow 1 t
  lam_loose (typed_lam s p) = typed_loose p

  body_typed : {Γ : List Ty} {a c : Ty} {s t : Tm} → ((b : Ty) → Typed F [] (a ∷ Γ) s b → Typed F [] (a ∷ Γ) t b) → Typed F [] Γ (lam a s) c → Typed F [] Γ (lam a t) c
  body_typed h (typed_lam {b = b} s p) = typed_lam s (h b p)

  types_at : (M : List Declared) (Γ : List Ty) (g : ℕ → Body) (φ : ℕ → Ty → Tm) (Ls : List Tm) (cs : List Ty) → AllTyped F M [] (tms_of Ls) cs → AllTyped F [] Γ (tms_of (map (inst g φ) Ls)) cs
      → (n : ℕ) (u : Tm) → slice_get Ls n ≡ Some u → (c : Ty) × Typed F M [] u c × Typed F [] Γ (inst g φ u) c
  types_at M Γ g φ [] cs p h n u e = absurd (cc)
  types_at M Γ g φ (l ∷ Ls) [] p h n u e = elim p [ ]
  types_at M Γ g φ (l ∷ Ls) (c ∷ cs) (typed_more q qs) (typed_more r rs) zero u e = (c, subst (λ u. Typed F M [] u c) (some_one e) q, subst (λ u. Typed F [] Γ (inst g φ u) c) (some_one e) r)
  types_at M Γ g φ (l ∷ Ls) (c ∷ cs) (typed_more q qs) (typed_more r rs) (suc n) u e = types_at M Γ g φ Ls cs qs rs n u e

  pub meta_declared : {M : List Declared} {Γ : List Ty} {z : ℕ} {ts : Tms} {b : Ty} → Typed F M Γ (meta z ts) b → (d : Declared) × (slice_get M z ≡ Some d) × AllTyped F M Γ ts d.args × (b ≡ d.out)
  meta_declared (typed_meta {d = d} e ps o) = (d, e, ps, o)

  pub terms_in : {Γ : List Ty} (ts : List Tm) (cs : List Ty) → AllTyped F [] Γ (tms_of ts) cs → (n : ℕ) (w : Tm) → slice_get ts n ≡ Some w → IsTerm w
  terms_in [] cs p n w e = absurd (cc)
  terms_in (t ∷ ts) [] p n w e = elim p [ ]
  terms_in (t ∷ ts) (c ∷ cs) (typed_more q qs) zero w e = subst IsTerm (some_one e) (typed_term t q)
  terms_in (t ∷ ts) (c ∷ cs) (typed_more q qs) (suc n) w e = terms_in ts cs qs n w e

  length_map : {A B : Type 0} (h : A → B) (l : List A) → length (map h l) ≡ length l
  length_map h [] = refl
  length_map h (a ∷ l) = ap suc (length_map h l)

  no_member : {v : Variable} → Contains [] v → ⊥
  no_member (k, h, e) = omega arith

  argument_kept : {Γ : List Ty} {s t : Tm} (k : Tm) → ((d : Ty) → Typed F [] Γ s d → Typed F [] Γ t d) → (b : Ty) → Typed F [] Γ (app k s) b → Typed F [] Γ (app k t) b
  argument_kept k h b (typed_app {a = d} p q) = typed_app p (h d q)

  many_typed : {t u : Tm} (Γ : List Ty) (a : Ty) → Many (StepOver (λ t u. ⊥)) t u → Typed F [] Γ t a → Typed F [] Γ u a
  many_typed Γ a stay p = p
  many_typed Γ a (go s m) p = many_typed Γ a m (over-typed F (λ Δ t u b r q. absurd r) Γ a s p)

  mutual
    unfolding value act

    at_least_typed : {M : List Declared} {s t : Tm} {i : Inference} → AtLeast F prec M s t i → (Γ : List Ty) (g : ℕ → Body) (φ : ℕ → Ty → Tm) → AreCounted M g → AreFreeTerms φ → (a : Ty) → Typed F [] Γ (inst g φ s) a → Typed F [] Γ (inst g φ t) a
    at_least_typed (at_least_same e) Γ g φ c h a p = subst (λ t. Typed F [] Γ (inst g φ t) a) e p
    at_least_typed (at_least_greater q) Γ g φ c h a p = greater_typed q Γ g φ c h a p

    greater_typed : {M : List Declared} {s t : Tm} {i : Inference} → Greater F prec M s t i → (Γ : List Ty) (g : ℕ → Body) (φ : ℕ → Ty → Tm) → AreCounted M g → AreFreeTerms φ → (a : Ty) → Typed F [] Γ (inst g φ s) a → Typed F [] Γ (inst g φ t) a
    greater_typed (by_bodies {a = b} {s = s} {t = t} x fs ft o r) Γ g φ c h a p =
        body_typed (λ d q. subst (λ v. Typed F [] (b ∷ Γ) v d) (sym (body_inst g φ x b t ft (lam_loose o.right)))
        (greater_typed r (b ∷ Γ) (shifted g) (instead x (bound 0) (up_free φ)) c (instead_terms x (bound 0) (up_free φ) tt (free_up φ h)) d
        (subst (λ v. Typed F [] (b ∷ Γ) v d) (body_inst g φ x b s fs (lam_loose o.left)) q))) p
    greater_typed (by_arguments k ss ts other e d o r w) Γ g φ c h a p =
        subst (λ v. Typed F [] Γ v a) (sym (ap (inst g φ) d ∙ inst-spine g φ k ts))
        (all_typed_after r Γ g φ c h a (inst g φ k) (subst (λ v. Typed F [] Γ v a) (ap (inst g φ) e ∙ inst-spine g φ k ss) p))
    greater_typed {M = M} {t = t} (by_above f ss e p q r) Γ g φ c h a w =
        let (ds, at, ps) = symbol_arguments F prec f ss (subst (λ s. Typed F M [] s (sort 0)) e p) in
        let (cs, at', qs) = symbol_arguments F prec f (map (inst g φ) ss) (subst (λ v. Typed F [] Γ v a) (ap (inst g φ) e ∙ inst-spine g φ (fun f) ss) w) in
        let (same, result) = arrows_one cs ds a (sort 0) (sym (typed_length (map (inst g φ) ss) cs qs) ∙ length_map (inst g φ) ss ∙ typed_length ss ds ps) (some_one (sym at' ∙ at)) in
        subst (Typed F [] Γ (inst g φ t)) (sym result)
        (above_typed r f ss e Γ g φ (record { counted = c; terms = h; arguments_typed = types_at M Γ g φ ss ds ps (subst (AllTyped F [] Γ (tms_of (map (inst g φ) ss))) same qs); variables_typed = λ x a m. absurd (no_member m) }) (sort 0) q)

    all_typed_after : {M : List Declared} {ss ts : List Tm} {is : Inferences} → AllAtLeast F prec M ss ts is → (Γ : List Ty) (g : ℕ → Body) (φ : ℕ → Ty → Tm) → AreCounted M g → AreFreeTerms φ → (a : Ty) (k : Tm)
        → Typed F [] Γ (spine k (map (inst g φ) ss)) a → Typed F [] Γ (spine k (map (inst g φ) ts)) a
    all_typed_after none_at_least Γ g φ c h a k p = p
    all_typed_after (more_at_least {s = s} {t = t} {ss = ss} q r) Γ g φ c h a k p =
        all_typed_after r Γ g φ c h a (app k (inst g φ t)) (spine_kept (λ b. argument_kept k (λ d. at_least_typed q Γ g φ c h d) b) (map (inst g φ) ss) p)

    above_typed : {M : List Declared} {s t : Tm} {X : List Variable} {i : Inference} → Above F prec M s X t i → (f : ℕ) (Ls : List Tm) → s ≡ spine (fun f) Ls → (Γ : List Ty) (g : ℕ → Body) (φ : ℕ → Ty → Tm) → Below M Ls Γ g φ X
        → (b : Ty) → Typed F M [] t b → Typed F [] Γ (inst g φ t) b
    above_typed {t = t} (by_part h n ss u e at one p) f Ls d Γ g φ o b q =
        let (same, list) = spine_one h f ss Ls (sym e ∙ d) in
        let (c, r, k) = o.arguments_typed n u (ap (λ l. slice_get l n) (sym list) ∙ at) in
        subst (Typed F [] Γ (inst g φ t)) (typed_one r one.left ∙ typed_one one.right q) (at_least_typed p Γ g φ o.counted o.terms c k)
    above_typed {M = M} (by_lower h j ss us e w less is) f Ls d Γ g φ o b q =
        let (cs, at, rs) = symbol_arguments F prec j us (subst (λ t. Typed F M [] t b) w q) in
        subst (λ v. Typed F [] Γ v b) (sym (ap (inst g φ) w ∙ inst-spine g φ (fun j) us)) (typed_spine (fun j) (map (inst g φ) us) cs (typed_fun at) (all_above_typed is f Ls d Γ g φ o cs rs))
    above_typed {M = M} (by_first_less h j n ss us u v e w same_prec at_sort front at at' p is) f Ls d Γ g φ o b q =
        let (cs, k, rs) = symbol_arguments F prec j us (subst (λ t. Typed F M [] t b) w q) in
        subst (λ v. Typed F [] Γ v b) (sym (ap (inst g φ) w ∙ inst-spine g φ (fun j) us)) (typed_spine (fun j) (map (inst g φ) us) cs (typed_fun k) (all_above_typed is f Ls d Γ g φ o cs rs))
    above_typed {M = M} (by_spine h u us other w p is) f Ls d Γ g φ o b q =
        let (cs, r, rs) = typed_spine-arguments h (u ∷ us) (subst (λ t. Typed F M [] t b) w q) in
        subst (λ v. Typed F [] Γ v b) (sym (ap (inst g φ) w ∙ inst-spine g φ h (u ∷ us)))
        (typed_spine (inst g φ h) (map (inst g φ) (u ∷ us)) cs (above_typed p f Ls d Γ g φ o (arrows cs b) r) (all_above_typed is f Ls d Γ g φ o cs rs))
    above_typed {M = M} {X = X} (by_body {t = t} {a = a} x fs ft new p) f Ls d Γ g φ o b (typed_lam {b = c} s q) =
        typed_lam s (subst (λ v. Typed F [] (a ∷ Γ) v c) (sym (body_inst g φ x a t ft (typed_loose q)))
        (above_typed p f Ls d (a ∷ Γ) (shifted g) (instead x (bound 0) (up_free φ)) (next M Ls Γ g φ X o x a (fresh_spine x (fun f) Ls (subst (Fresh x) d fs)).1 new) c (typed-opened_free x s q)))
    above_typed (by_variable {x = x} {a = a} c) f Ls d Γ g φ o b (typed_free r) = subst (λ v. Typed F [] Γ v a) (sym (value_term g (φ x a) (o.terms x a))) (o.variables_typed x a c)
    above_typed {M = M} (by_meta {z = z} h n ss us u cs e at form len is) f Ls d Γ g φ o b q =
        let (same, list) = spine_one h f ss Ls (sym e ∙ d) in
        let (k, r, p) = o.arguments_typed n u (ap (λ l. slice_get l n) (sym list) ∙ at) in
        let (dd, slot, rs, out) = meta_declared q in
        let (dc, slot', args, shape) = abstraction_type cs z k (subst (λ u. Typed F M [] u k) form r) in
        let one : dc ≡ dd = some_one (sym slot' ∙ slot) in
        let qs = all_above_typed is f Ls d Γ g φ o dd.args rs in
        many_typed Γ b (meta_steps g φ cs z k us o.counted len (terms_in (map (inst g φ) us) dd.args qs) (subst (λ u. Typed F M [] u k) form r))
        (typed_spine (inst g φ (abstracted cs (meta z (nearest (length cs))))) (map (inst g φ) us) dd.args
        (subst₂ (λ u k. Typed F [] Γ (inst g φ u) k) form (shape ∙ ap₂ arrows (sym args ∙ ap (λ d. d.args) one) (ap (λ d. d.out) one ∙ sym out)) p) qs)

    all_above_typed : {M : List Declared} {s : Tm} {us : List Tm} {X : List Variable} {is : Inferences} → AllAbove F prec M s X us is → (f : ℕ) (Ls : List Tm) → s ≡ spine (fun f) Ls → (Γ : List Ty) (g : ℕ → Body) (φ : ℕ → Ty → Tm) → Below M Ls Γ g φ X
        → (cs : List Ty) → AllTyped F M [] (tms_of us) cs → AllTyped F [] Γ (tms_of (map (inst g φ) us)) cs
    all_above_typed none_above f Ls d Γ g φ o [] q = typed_none
    all_above_typed none_above f Ls d Γ g φ o (c ∷ cs) q = elim q [ ]
    all_above_typed (more_above p is) f Ls d Γ g φ o [] q = elim q [ ]
    all_above_typed (more_above {t = t} p is) f Ls d Γ g φ o (c ∷ cs) (typed_more q qs) = typed_more (above_typed p f Ls d Γ g φ o c q) (all_above_typed is f Ls d Γ g φ o cs qs)

  root_typed : KeepsTypes F (Root F prec)
  root_typed Γ t u a r p =
      subst (λ v. Typed F [] Γ v a) (sym (right_is F prec r))
      (greater_typed (by_above r.symbol r.given r.headed r.typed_left r.typed_right r.above) Γ r.bodies r.frees r.counted r.terms a (subst (λ v. Typed F [] Γ v a) (left_is F prec r) p))

  -- the order is a relation that may stand at the root
  pub root_is : IsRoot F (Root F prec)
  root_is = record { kept = root_kept F prec; typed = root_typed; headed = root_headed F prec; even = root_even F prec }
