-- All typed filtered terms end by steps of the order and of beta.
use Rattle.std.proofs.Common.{◌≡◌, ◌≢◌, ℕ, zero, suc, ◌<◌, ◌≤◌, ◌⊎◌, inl, inr, List, [], ◌∷◌, ◌++◌, length, map, take, refl, ap, ap₂, ◌∙◌, sym, subst, Some, slice_get, Contains, arith, append-nil, eq-or-lt_of_le}
use Rattle.std.specs.List.{AllByRecursion}
use mathlib.Core.Path.{subst₂}
use Rattle.wh_types.specs.Ty.{Ty, sort, arguments, result_sort, SortsBelow}
use Rattle.wh_terms.specs.Tree.{Tm, bound, free, fun, meta, lam, app, Tms, tms_of, spine}
use Rattle.wh_terms.specs.Substitution.{up, up_free, act, opened}
use Rattle.wh_terms.specs.Sight.{Fresh}
use Rattle.wh_terms.specs.Typing.{Symbols, Declared, Typed, typed_free, typed_fun, typed_meta, typed_lam, AllTyped, typed_none, typed_more}
use Rattle.wh_terms.specs.Value.{Body}
use Rattle.wh_terms.specs.StepOver.{StepOver, AreFreeTerms}
use Rattle.wh_terms.proofs.SightLaws.{act_fresh}
use Rattle.wh_terms.proofs.TypingLaws.{typed_one, some_one, typed_term, typed-opened_free, typed-opened-back}
use Rattle.wh_terms.proofs.ValueForm.{shifted, value, value_term, FitsBodies}
use Rattle.wh_terms.proofs.ValueLaws.{fits-act}
use Rattle.wh_terms.proofs.TermLaws.{term-up}
use Rattle.wh_step_laws.specs.Ends.{Ends, ends}
use Rattle.wh_step_laws.specs.Ranks.{PlaceHas, IsAccessibleIn}
use Rattle.wh_step_laws.specs.RootRelations.{IsRoot, KnowsSorts}
use Rattle.wh_step_laws.specs.Computable.{Computable, ComputableList}
use Rattle.wh_step_laws.specs.Spines.{ArgumentStep, FrontStep}
use Rattle.wh_step_laws.proofs.Candidates.{candidate_free}
use Rattle.wh_step_laws.proofs.Fundamental.{candidate, abstraction_computable, typed-computable}
use Rattle.wh_step_laws.proofs.Spines.{spine_one, symbol_step}
use Rattle.wh_step_laws.proofs.Listed.{In, in_contains, contains_in}
use Rattle.wh_step_laws.proofs.Symbols.{sort_computable, list_at, list_ends, list_step}
use Rattle.wh_step_laws.proofs.SystemComputable.{computable-typed, known_type}
use Rattle.wh_order_inference.specs.Inferences.{Inference, Inferences}
use Rattle.wh_order_path.specs.Order.{Variable, NoneNumbered, Above, by_part, by_lower, by_first_less, by_spine, by_body, by_variable, by_meta, AllAbove, none_above, more_above}
use Rattle.wh_order_path.specs.Heads.{nearest, abstracted}
use Rattle.wh_order_extended.specs.Kinds.{AreCounted}
use Rattle.wh_order_extended.specs.Many.{Many, stay, go}
use Rattle.wh_order_extended.proofs.Acted.{typed_fits}
use Rattle.wh_order_path.proofs.OrderSteps.{instead, instead_same, instead_other, instead_terms, inst, inst-spine, free_up, opened_inst, Root, greater_steps, at_least_steps, left_is, right_is}
use Rattle.wh_order_extended.specs.Kinds.{arrows}
use Rattle.wh_order_extended.proofs.TypeLists.{arrows-arguments, arguments-arrows, typed_length, typed_spine, typed_spine-arguments, computable-spine, list-typed, list-length, spine-computable}
use Rattle.wh_order_path.proofs.SmallerLists.{Smaller, SmallerIn, smaller_at, steps_smaller, ends-smaller}

-- a fresh number for a spine is one for its parts
pub fresh_spine : (x : ℕ) (h : Tm) (ts : List Tm) → Fresh x (spine h ts) → Fresh x h × AllByRecursion (Fresh x) ts
fresh_spine x h [] p = (p, tt)
fresh_spine x h (t ∷ ts) p = let (q, r) = fresh_spine x (app h t) ts p in (q.0, (q.1, r))

pub inst_instead : (g : ℕ → Body) (φ : ℕ → Ty → Tm) (x : ℕ) (w : Tm) (t : Tm) → Fresh x t → inst g (instead x w φ) t ≡ inst g φ t
inst_instead g φ x w t f = ap (value g) (act_fresh x bound (instead x w φ) φ t f (λ y b n. instead_other x w φ y b n))

insts_instead : (g : ℕ → Body) (φ : ℕ → Ty → Tm) (x : ℕ) (w : Tm) (ts : List Tm) → AllByRecursion (Fresh x) ts → map (inst g (instead x w φ)) ts ≡ map (inst g φ) ts
insts_instead g φ x w [] f = refl
insts_instead g φ x w (t ∷ ts) f = ap₂ (λ t ts. t ∷ ts) (inst_instead g φ x w t f.0) (insts_instead g φ x w ts f.1)

take_map : {A B : Type 0} (h : A → B) (n : ℕ) (l m : List A) → take n l ≡ take n m → take n (map h l) ≡ take n (map h m)
take_map h n l m e = sym (map_take h n l) ∙ ap (map h) e ∙ map_take h n m
  where
    map_take : {A B : Type 0} (h : A → B) (n : ℕ) (l : List A) → map h (take n l) ≡ take n (map h l)
    map_take h zero l = refl
    map_take h (suc n) [] = refl
    map_take h (suc n) (a ∷ l) = ap (λ m. h a ∷ m) (map_take h n l)

get_map : {A B : Type 0} (h : A → B) (n : ℕ) (l : List A) (a : A) → slice_get l n ≡ Some a → slice_get (map h l) n ≡ Some (h a)
get_map h n [] a e = absurd (cc)
get_map h zero (b ∷ l) a e = ap (λ b. Some (h b)) (some_one e)
get_map h (suc n) (b ∷ l) a e = get_map h n l a e

module _ (F : Symbols) (prec : ℕ → ℕ) (root : IsRoot F (Root F prec)) (known : KnowsSorts F) (most : ℕ)
    (few : (f : ℕ) (b : Ty) → slice_get F.funs f ≡ Some b → length (arguments b) ≤ most) where
  abbrev pub Order : Tm → Tm → Type 0
  Order = StepOver (Root F prec)

  abbrev pub Good : Ty → Tm → Type 0
  Good a t = Computable F (λ s. 0) Order a t

  abbrev pub GoodList : List Ty → List Tm → Type 0
  GoodList cs ts = ComputableList F (λ s. 0) Order cs ts

  pub good_many : (a : Ty) → SortsBelow F.sorts a → {t u : Tm} → Good a t → Many Order t u → Good a u
  good_many a k c stay = c
  good_many a k c (go {a = t} {b = v} r m) = good_many a k ((candidate root (λ s. 0) a k).step t v c r) m

  -- what is known where the instance of L, with the arguments ts, steps at its root
  pub record Around (M : List Declared) (Ls ts : List Tm) (g : ℕ → Body) (φ : ℕ → Ty → Tm) (X : List Variable) : Type 0 where
    pub counted : AreCounted M g
    pub terms : AreFreeTerms φ
    pub values : map (inst g φ) Ls ≡ ts
    pub arguments_good : (n : ℕ) (u : Tm) → slice_get Ls n ≡ Some u → (c : Ty) × Typed F M [] u c × Good c (inst g φ u)
    pub variables_good : (x : ℕ) (a : Ty) → Contains X (record { number = x; type_of = a }) → Good a (φ x a)

  fresh_at : (x : ℕ) (ls : List Tm) (n : ℕ) (u : Tm) → AllByRecursion (Fresh x) ls → slice_get ls n ≡ Some u → Fresh x u
  fresh_at x [] n u f e = absurd (cc)
  fresh_at x (l ∷ ls) zero u f e = subst (Fresh x) (some_one e) f.0
  fresh_at x (l ∷ ls) (suc n) u f e = fresh_at x ls n u f.1 e

  good_at : (M : List Declared) (g : ℕ → Body) (φ : ℕ → Ty → Tm) (Ls : List Tm) (cs : List Ty) → AllTyped F M [] (tms_of Ls) cs → GoodList cs (map (inst g φ) Ls)
      → (n : ℕ) (u : Tm) → slice_get Ls n ≡ Some u → (c : Ty) × Typed F M [] u c × Good c (inst g φ u)
  good_at M g φ [] cs p h n u e = absurd (cc)
  good_at M g φ (l ∷ Ls) [] p h n u e = elim p [ ]
  good_at M g φ (l ∷ Ls) (c ∷ cs) (typed_more q qs) h zero u e = (c, subst (λ u. Typed F M [] u c) (some_one e) q, subst (λ u. Good c (inst g φ u)) (some_one e) h.1)
  good_at M g φ (l ∷ Ls) (c ∷ cs) (typed_more q qs) h (suc n) u e = good_at M g φ Ls cs qs h.2 n u e

  -- a variable more
  next_variables : (φ : ℕ → Ty → Tm) (X : List Variable) (x : ℕ) (a : Ty) (w : Tm) → Good a w → NoneNumbered x X → ((y : ℕ) (b : Ty) → Contains X (record { number = y; type_of = b }) → Good b (φ y b))
      → (y : ℕ) (b : Ty) → Contains (record { number = x; type_of = a } ∷ X) (record { number = y; type_of = b }) → Good b (instead x w φ y b)
  next_variables φ X x a w good new h y b c = on (contains_in (record { number = y; type_of = b }) (record { number = x; type_of = a } ∷ X) c)
    where
      other : (Y : List Variable) → NoneNumbered x Y → In (record { number = y; type_of = b }) Y → y ≢ x
      other [] n i = absurd i
      other (v ∷ Y) n (inl e) = λ d. n.0 (sym (ap (λ v. v.number) e) ∙ d)
      other (v ∷ Y) n (inr i) = other Y n.1 i

      on : In (record { number = y; type_of = b }) (record { number = x; type_of = a } ∷ X) → Good b (instead x w φ y b)
      on (inl e) =
          let number : y ≡ x = ap (λ v. v.number) e in
          let type : b ≡ a = ap (λ v. v.type_of) e in
          subst (Good b) (sym (ap (λ y. instead x w φ y b) number ∙ instead_same x w φ b)) (subst (λ a. Good a w) (sym type) good)
      on (inr i) = subst (Good b) (sym (instead_other x w φ y b (other X new i))) (h y b (in_contains (record { number = y; type_of = b }) X i))

  next : (M : List Declared) (Ls ts : List Tm) (g : ℕ → Body) (φ : ℕ → Ty → Tm) (X : List Variable) → Around M Ls ts g φ X → (x : ℕ) (a : Ty) (w : Tm) → Good a w → AllByRecursion (Fresh x) Ls → NoneNumbered x X
      → Around M Ls ts g (instead x w φ) (record { number = x; type_of = a } ∷ X)
  next M Ls ts g φ X o x a w good fresh new = record {
    counted = o.counted;
    terms = instead_terms x w φ (typed_term w (computable-typed F (λ s. 0) Order a w good)) o.terms;
    values = insts_instead g φ x w Ls fresh ∙ o.values;
    arguments_good = λ n u e.
        let (c, p, k) = o.arguments_good n u e in
        (c, p, subst (Good c) (sym (inst_instead g φ x w u (fresh_at x Ls n u fresh e))) k);
    variables_good = next_variables φ X x a w good new o.variables_good;
  }

  module _ (M : List Declared) (f : ℕ) (Ls ts : List Tm)
      (lower_good : (h : ℕ) (b : Ty) → slice_get F.funs h ≡ Some b → prec h < prec f → Good b (fun h))
      (smaller_good : (h : ℕ) (cs : List Ty) (us : List Tm) → slice_get F.funs h ≡ Some (arrows cs (sort 0)) → prec h ≡ prec f → GoodList cs us → Smaller Order ts us → Good (sort 0) (spine (fun h) us))
      (metas_good : (g : ℕ → Body) (φ : ℕ → Ty → Tm) (z : ℕ) (cs ds : List Ty) (b : Ty) (us : List Tm) → length cs ≡ length us → AreCounted M g → Typed F M [] (meta z (tms_of us)) b
      → AllTyped F M [] (tms_of us) ds → GoodList ds (map (inst g φ) us) → (k : Ty) → Typed F M [] (abstracted cs (meta z (nearest (length cs)))) k
      → Good k (inst g φ (abstracted cs (meta z (nearest (length cs))))) → Good b (inst g φ (meta z (tms_of us)))) where
    symbol_type : {h : ℕ} {a : Ty} → Typed F M [] (fun h) a → slice_get F.funs h ≡ Some a
    symbol_type (typed_fun e) = e

    good_known : (a : Ty) (t : Tm) → Good a t → SortsBelow F.sorts a
    good_known a t c = known_type known (computable-typed F (λ s. 0) Order a t c)

    meta_types : {z : ℕ} {us : Tms} {b : Ty} → Typed F M [] (meta z us) b → (ds : List Ty) × AllTyped F M [] us ds
    meta_types (typed_meta {d = d} e ps o) = (d.args, ps)

    -- an abstraction whose instances are good
    body_good : {X : List Variable} (x : ℕ) (a : Ty) (t : Tm) (g : ℕ → Body) (φ : ℕ → Ty → Tm) → Around M Ls ts g φ X → AllByRecursion (Fresh x) Ls → Fresh x t → NoneNumbered x X
        → ((w : Tm) → Around M Ls ts g (instead x w φ) (record { number = x; type_of = a } ∷ X) → (c : Ty) → Typed F M [] (opened (free x a) t) c → Good c (inst g (instead x w φ) (opened (free x a) t)))
        → (b : Ty) → Typed F M [] (lam a t) b → Good b (inst g φ (lam a t))
    unfolding value act
    body_good {X = X} x a t g φ o fresh ft new h b (typed_lam {b = c} s q) =
        let body : Tm = value (shifted g) (act (up bound) (up_free φ) t) in
        let fit : FitsBodies g (act (up bound) (up_free φ) t) = fits-act (λ z. (g z).arity) (up bound) (up_free φ) t (term-up bound (λ i. tt)) (free_up φ o.terms) (typed_fits g o.counted q) in
        let each : (w : Tm) → Good a w → Good c (opened w body) = λ w k.
        subst (Good c) (sym (opened_inst g φ x a t ft w (typed_term w (computable-typed F (λ s. 0) Order a w k)) fit))
        (h w (next M Ls ts g φ X o x a w k fresh new) c (typed-opened_free x s q)) in
        let at_free = each (free 0 a) (candidate_free root (candidate root (λ s. 0) a s) s 0) in
        let typed = typed-opened-back 0 a body (computable-typed F (λ s. 0) Order c (opened (free 0 a) body) at_free) in
        abstraction_computable root (λ s. 0) a c s (good_known c (opened (free 0 a) body) at_free) body (typed_lam s typed) each

    mutual
      unfolding value act

      above_good : {s t : Tm} {X : List Variable} {i : Inference} → Above F prec M s X t i → s ≡ spine (fun f) Ls → (g : ℕ → Body) (φ : ℕ → Ty → Tm) → Around M Ls ts g φ X
          → (b : Ty) → Typed F M [] t b → Good b (inst g φ t)
      above_good {t = t} (by_part h n ss u e at one p) d g φ o b q =
          let (same, list) = spine_one h f ss Ls (sym e ∙ d) in
          let (c, r, k) = o.arguments_good n u (ap (λ l. slice_get l n) (sym list) ∙ at) in
          subst (λ a. Good a (inst g φ t)) (typed_one r one.left ∙ typed_one one.right q)
          (good_many c (good_known c (inst g φ u) k) k (at_least_steps F prec p g φ o.counted o.terms))
      above_good {t = t} (by_lower h j ss us e w less is) d g φ o b q =
          let (same, list) = spine_one h f ss Ls (sym e ∙ d) in
          let (cs, r, rs) = typed_spine-arguments (fun j) us (subst (λ t. Typed F M [] t b) w q) in
          subst (Good b) (sym (ap (inst g φ) w ∙ inst-spine g φ (fun j) us))
          (computable-spine F (λ s. 0) Order cs b (fun j) (map (inst g φ) us) (lower_good j (arrows cs b) (symbol_type r) (subst (λ h. prec j < prec h) same less)) (all_above_good is d g φ o cs rs))
      above_good {t = t} (by_first_less h j n ss us u v e w same_prec at_sort front at at' p is) d g φ o b q =
          let (same, list) = spine_one h f ss Ls (sym e ∙ d) in
          let (cs, r, rs) = typed_spine-arguments (fun j) us (subst (λ t. Typed F M [] t (sort 0)) w at_sort) in
          let less : Smaller Order ts (map (inst g φ) us) = subst (λ l. Smaller Order l (map (inst g φ) us)) (ap (map (inst g φ)) list ∙ o.values)
          (smaller_at n (map (inst g φ) ss) (map (inst g φ) us) (inst g φ u) (inst g φ v) (take_map (inst g φ) n ss us front) (get_map (inst g φ) n ss u at) (get_map (inst g φ) n us v at') (greater_steps F prec p g φ o.counted o.terms)) in
          subst (λ a. Good a (inst g φ t)) (typed_one at_sort q)
          (subst (Good (sort 0)) (sym (ap (inst g φ) w ∙ inst-spine g φ (fun j) us))
          (smaller_good j cs (map (inst g φ) us) (symbol_type r) (same_prec ∙ ap prec same) (all_above_good is d g φ o cs rs) less))
      above_good {t = t} (by_spine h u us other w p is) d g φ o b q =
          let (cs, r, rs) = typed_spine-arguments h (u ∷ us) (subst (λ t. Typed F M [] t b) w q) in
          subst (Good b) (sym (ap (inst g φ) w ∙ inst-spine g φ h (u ∷ us)))
          (computable-spine F (λ s. 0) Order cs b (inst g φ h) (map (inst g φ) (u ∷ us)) (above_good p d g φ o (arrows cs b) r) (all_above_good is d g φ o cs rs))
      above_good {s = s} {X = X} (by_body {t = t} {a = a} x fs ft new p) d g φ o b q =
          body_good x a t g φ o (fresh_spine x (fun f) Ls (subst (Fresh x) d fs)).1 ft new (λ w k c r. above_good p d g (instead x w φ) k c r) b q
      above_good (by_variable {x = x} {a = a} c) d g φ o b (typed_free r) = subst (Good a) (sym (value_term g (φ x a) (o.terms x a))) (o.variables_good x a c)
      above_good (by_meta {z = z} h n ss us u cs e at form len is) d g φ o b q =
          let (same, list) = spine_one h f ss Ls (sym e ∙ d) in
          let (k, r, c) = o.arguments_good n u (ap (λ l. slice_get l n) (sym list) ∙ at) in
          let (ds, rs) = meta_types q in
          metas_good g φ z cs ds b us len o.counted q rs (all_above_good is d g φ o ds rs) k (subst (λ u. Typed F M [] u k) form r) (subst (λ u. Good k (inst g φ u)) form c)

      all_above_good : {s : Tm} {us : List Tm} {X : List Variable} {is : Inferences} → AllAbove F prec M s X us is → s ≡ spine (fun f) Ls → (g : ℕ → Body) (φ : ℕ → Ty → Tm) → Around M Ls ts g φ X
          → (cs : List Ty) → AllTyped F M [] (tms_of us) cs → GoodList cs (map (inst g φ) us)
      all_above_good none_above d g φ o [] typed_none = tt
      all_above_good none_above d g φ o (c ∷ cs) q = elim q [ ]
      all_above_good (more_above p is) d g φ o [] q = elim q [ ]
      all_above_good (more_above {t = t} p is) d g φ o (c ∷ cs) (typed_more q qs) =
          let k = above_good p d g φ o c q in
          (good_known c (inst g φ t) k, k, all_above_good is d g φ o cs qs)

  -- what is put for a meta-variable in an argument is computable, since the argument is
  abbrev pub MetasGood : Type 0
  MetasGood = (M : List Declared) (g : ℕ → Body) (φ : ℕ → Ty → Tm) (z : ℕ) (cs ds : List Ty) (b : Ty) (us : List Tm) → length cs ≡ length us → AreCounted M g → Typed F M [] (meta z (tms_of us)) b
      → AllTyped F M [] (tms_of us) ds → GoodList ds (map (inst g φ) us) → (k : Ty) → Typed F M [] (abstracted cs (meta z (nearest (length cs)))) k
      → Good k (inst g φ (abstracted cs (meta z (nearest (length cs))))) → Good b (inst g φ (meta z (tms_of us)))

  same_arguments : (cs ds : List Ty) → arrows cs (sort 0) ≡ arrows ds (sort 0) → cs ≡ ds
  same_arguments cs ds e = sym (append-nil cs) ∙ sym (arguments-arrows cs (sort 0)) ∙ ap arguments e ∙ arguments-arrows ds (sort 0) ∙ append-nil ds

  front_all : (ts us ws : List Tm) → ts ≡ us ++ ws → length ts ≡ length us → (ts ≡ us) × (ws ≡ [])
  front_all [] [] [] e n = (refl, refl)
  front_all [] [] (w ∷ ws) e n = absurd (cc)
  front_all [] (u ∷ us) ws e n = absurd (cc)
  front_all (t ∷ ts) [] ws e n = absurd (omega (arith))
  front_all (t ∷ ts) (u ∷ us) ws e n =
      let (f, g) = front_all ts us ws (tails e) (omega arith) in
      (ap₂ (λ t ts. t ∷ ts) (heads e) f, g)
    where
      heads : t ∷ ts ≡ u ∷ (us ++ ws) → t ≡ u
      heads e = cc

      tails : t ∷ ts ≡ u ∷ (us ++ ws) → ts ≡ us ++ ws
      tails e = cc

  length_map : {A B : Type 0} (h : A → B) (l : List A) → length (map h l) ≡ length l
  length_map h [] = refl
  length_map h (a ∷ l) = ap suc (length_map h l)

  module _ (metas : MetasGood) where
    -- a step at the root of a symbol with computable arguments
    root_good : (f : ℕ) (cs : List Ty) (ts us ws : List Tm) (w : Tm) → slice_get F.funs f ≡ Some (arrows cs (sort 0)) → GoodList cs ts → ts ≡ us ++ ws → Root F prec (spine (fun f) us) w
        → ((h : ℕ) (b : Ty) → slice_get F.funs h ≡ Some b → prec h < prec f → Good b (fun h))
        → ((h : ℕ) (ds : List Ty) (vs : List Tm) → slice_get F.funs h ≡ Some (arrows ds (sort 0)) → prec h ≡ prec f → GoodList ds vs → Smaller Order ts vs → Good (sort 0) (spine (fun h) vs))
        → Good (sort 0) (spine w ws)
    unfolding value act
    root_good f cs ts us ws w at good split r lower smaller =
        let g = r.bodies in
        let φ = r.frees in
        let (same, list) = spine_one f r.symbol us (map (inst g φ) r.given) (left_is F prec r ∙ ap (inst g φ) r.headed ∙ inst-spine g φ (fun r.symbol) r.given) in
        let headed : r.left ≡ spine (fun f) r.given = r.headed ∙ ap (λ f. spine (fun f) r.given) (sym same) in
        let (ds, p, ps) = typed_spine-arguments (fun f) r.given (subst (λ t. Typed F r.metas [] t (sort 0)) headed r.typed_left) in
        let one : cs ≡ ds = same_arguments cs ds (some_one (sym at ∙ known_fun p)) in
        let count : length ts ≡ length us = list-length F (λ s. 0) Order cs ts good ∙ ap length one ∙ sym (typed_length r.given ds ps) ∙ sym (length_map (inst g φ) r.given) ∙ ap length (sym list) in
        let (whole, nothing) = front_all ts us ws split count in
        let given_good : GoodList ds (map (inst g φ) r.given) = subst₂ GoodList one (whole ∙ list) good in
        let around : Around r.metas r.given ts g φ [] = record {
          counted = r.counted;
          terms = r.terms;
          values = sym list ∙ sym whole;
          arguments_good = good_at r.metas g φ r.given ds ps given_good;
          variables_good = λ x a c. absurd (no_member c);
        } in
        subst (λ ws. Good (sort 0) (spine w ws)) (sym nothing) (subst (Good (sort 0)) (sym (right_is F prec r))
        (above_good r.metas f r.given ts lower smaller (metas r.metas) r.above headed g φ around (sort 0) r.typed_right))
      where
        known_fun : {M : List Declared} {a : Ty} → Typed F M [] (fun f) a → slice_get F.funs f ≡ Some a
        known_fun (typed_fun e) = e

        no_member : {v : Variable} → Contains [] v → ⊥
        no_member (k, h, e) = omega arith

    -- a symbol with all its arguments: by induction on these, which get smaller from the left
    at_sort : (p : ℕ) → ((h : ℕ) (b : Ty) → slice_get F.funs h ≡ Some b → prec h < p → Good b (fun h)) → (ts : List Tm) → Ends (SmallerIn Order most) ts
        → (f : ℕ) (cs : List Ty) → prec f ≡ p → slice_get F.funs f ≡ Some (arrows cs (sort 0)) → GoodList cs ts → Good (sort 0) (spine (fun f) ts)
    at_sort p lower ts (ends k) f cs e at good =
        sort_computable F (λ s. 0) Order 0 (spine (fun f) ts) typed
        (λ v r. reduct (λ us m h ds d a q. at_sort p lower us (k us (record { smaller = m; few = fit h ds us a q; each = list_ends root (λ s. 0) ds us q })) h ds d a q) v (symbol_step f ts r))
        argument
      where
        fit : (h : ℕ) (ds : List Ty) (us : List Tm) → slice_get F.funs h ≡ Some (arrows ds (sort 0)) → GoodList ds us → length us ≤ most
        fit h ds us a q = subst (λ n. n ≤ most) (ap length (arguments-arrows ds (sort 0) ∙ append-nil ds) ∙ sym (list-length F (λ s. 0) Order ds us q)) (few h (arrows ds (sort 0)) a)

        typed : Typed F [] [] (spine (fun f) ts) (sort 0)
        typed = typed_spine (fun f) ts cs (typed_fun at) (list-typed F (λ s. 0) Order cs ts good)

        reduct : ((us : List Tm) → Smaller Order ts us → (h : ℕ) (ds : List Ty) → prec h ≡ p → slice_get F.funs h ≡ Some (arrows ds (sort 0)) → GoodList ds us → Good (sort 0) (spine (fun h) us)) → (v : Tm)
            → ArgumentStep Order (fun f) ts v ⊎ FrontStep (Root F prec) (fun f) ts v → Good (sort 0) v
        reduct again v (inl (us, m, d)) = subst (Good (sort 0)) (sym d) (again us (steps_smaller m) f cs e at (list_step root (λ s. 0) cs good m))
        reduct again v (inr (us, ws, w, c, i, d)) = subst (Good (sort 0)) (sym d)
            (root_good f cs ts us ws w at good c i (λ h b a l. lower h b a (subst (λ q. prec h < q) e l)) (λ h ds vs a l q m. again vs m h ds (l ∙ e) a q))

        argument : (h i : ℕ) (a : Ty) (us : List Tm) (u : Tm) → spine (fun f) ts ≡ spine (fun h) us → PlaceHas F h i a → IsAccessibleIn (λ s. 0) 0 a → slice_get us i ≡ Some u → Good a u
        argument h i a us u d (c, q, o) acc at' =
            let (same, list) = spine_one f h ts us d in
            let one : arrows cs (sort 0) ≡ c = some_one (sym at ∙ ap (slice_get F.funs) same ∙ q) in
            list_at F (λ s. 0) Order cs ts i a u good (ap (λ l. slice_get l i) (sym (arguments-arrows cs (sort 0) ∙ append-nil cs)) ∙ ap (λ c. slice_get (arguments c) i) one ∙ o) (ap (λ l. slice_get l i) list ∙ at')

    module _ (one_sort : (f : ℕ) (b : Ty) → slice_get F.funs f ≡ Some b → result_sort b ≡ 0) where
      at_precedence : (p : ℕ) → ((h : ℕ) (b : Ty) → slice_get F.funs h ≡ Some b → prec h < p → Good b (fun h)) → (f : ℕ) (b : Ty) → slice_get F.funs f ≡ Some b → prec f ≡ p → Good b (fun f)
      at_precedence p lower f b at e =
          let shape : b ≡ arrows (arguments b) (sort 0) = arrows-arguments b ∙ ap (λ s. arrows (arguments b) (sort s)) (one_sort f b at) in
          let at' : slice_get F.funs f ≡ Some (arrows (arguments b) (sort 0)) = at ∙ ap Some shape in
          let all : (ts : List Tm) → GoodList (arguments b) ts → Good (sort 0) (spine (fun f) ts) = λ ts h.
          at_sort p lower ts (ends-smaller most ts (subst (λ n. n ≤ most) (sym (list-length F (λ s. 0) Order (arguments b) ts h)) (few f b at)) (list_ends root (λ s. 0) (arguments b) ts h))
          f (arguments b) e at' h in
          subst (λ b. Good b (fun f)) (sym shape) (spine-computable root (λ s. 0) (arguments b) (sort 0) (fun f) (subst (SortsBelow F.sorts) shape (known f b at)) (typed_fun at') all)

      below : (p : ℕ) (f : ℕ) (b : Ty) → slice_get F.funs f ≡ Some b → prec f < p → Good b (fun f)
      below zero f b at l = absurd (omega arith)
      below (suc p) f b at l = on (λ h c. below p h c) (eq-or-lt_of_le {n = prec f} {m = p} (omega arith))
        where
          on : ((h : ℕ) (c : Ty) → slice_get F.funs h ≡ Some c → prec h < p → Good c (fun h)) → (prec f ≡ p) ⊎ (prec f < p) → Good b (fun f)
          on again (inl e) = at_precedence p again f b at e
          on again (inr l) = again f b at l

      -- every typed filtered term ends by steps of the order and of beta
      pub order_ends : (t : Tm) (a : Ty) → Typed F [] [] t a → Ends Order t
      order_ends t a p =
          let c = typed-computable root (λ s. 0) known (λ f b at. below (suc (prec f)) f b at (omega arith)) p in
          (candidate root (λ s. 0) a (known_type known p)).ends t c
