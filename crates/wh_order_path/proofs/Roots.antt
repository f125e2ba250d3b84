-- Inferences at a symbol are a relation that may stand at the root of steps.
use Rattle.std.proofs.Common.{◌≡◌, ℕ, zero, suc, ◌+◌, List, [], ◌∷◌, length, map, refl, ap, ap₂, ◌∙◌, sym, subst, Some, slice_get, arith, append-nil, one-add}
use Rattle.std.proofs.Math.Path.{fun_ext}
use Rattle.wh_types.specs.Ty.{Ty, sort, ◌⇒◌, arguments}
use Rattle.wh_terms.specs.Tree.{Tm, bound, free, fun, meta, lam, app, Tms, none, more, tms_of, count, spine, head, argument_count}
use Rattle.wh_terms.specs.Substitution.{rename, up, up_free, act, acts, cons, opened}
use Rattle.wh_terms.specs.Sight.{LooseBelow, IsTerm, NoFree, AllNoFree}
use Rattle.wh_terms.specs.Typing.{Symbols, Declared, Typed, typed_bound, typed_fun, typed_meta, typed_lam, AllTyped, typed_none, typed_more}
use Rattle.wh_terms.specs.Value.{Body, Value, parameters}
use Rattle.wh_terms.specs.TypedBodies.{parameter_types}
use Rattle.wh_terms.specs.StepOver.{StepOver, over_beta, over_function, IsKept, AreTerms, AreFreeTerms}
use Rattle.wh_terms.proofs.ActLaws.{act-act, act_same, act-id}
use Rattle.wh_terms.proofs.SightLaws.{act_shut, act_closed}
use Rattle.wh_terms.proofs.TermLaws.{term-rename, term-up}
use Rattle.wh_terms.proofs.TypingLaws.{typed_loose, some_one}
use Rattle.wh_terms.proofs.ValueForm.{shifted, acted, value, values, value_term, FitsBodies, act-value, up_many, parameters-up_many}
use Rattle.wh_terms.proofs.ValueLaws.{opened-value, fits-act}
use Rattle.wh_step_laws.proofs.Candidates.{head-spine}
use Rattle.wh_order_path.specs.Heads.{nearest, abstracted}
use Rattle.wh_order_extended.specs.Kinds.{AreCounted}
use Rattle.wh_order_extended.specs.Many.{Many, go}
use Rattle.wh_order_extended.proofs.ManyLaws.{many_both, many_equal, many_map}
use Rattle.wh_order_extended.proofs.Acted.{typed_fits}
use Rattle.wh_order_path.proofs.OrderSteps.{inst, inst-spine, Root, inst_is, left_is, right_is}
use Rattle.wh_order_extended.specs.Kinds.{arrows}
use Rattle.wh_order_extended.proofs.TypeLists.{typed_spine-arguments, typed_length, arguments-arrows}

many_spine : {R : Tm → Tm → Type 0} (ts : List Tm) {t u : Tm} → Many (StepOver R) t u → Many (StepOver R) (spine t ts) (spine u ts)
many_spine [] m = m
many_spine (v ∷ ts) m = many_spine ts (many_map (λ t. app t v) (λ t u s. over_function s) m)

act_term : (σ : ℕ → Tm) (φ : ℕ → Ty → Tm) (t : Tm) → AreTerms σ → AreFreeTerms φ → IsTerm t → IsTerm (act σ φ t)
unfolding act up_free
act_term σ φ (bound i) p q r = p i
act_term σ φ (free x a) p q r = q x a
act_term σ φ (fun f) p q r = tt
act_term σ φ (meta z ts) p q r = absurd r
act_term σ φ (lam a t) p q r = act_term (up σ) (up_free φ) t (term-up σ p) (λ x b. term-rename suc (φ x b) (q x b)) r
act_term σ φ (app t u) p q r = (act_term σ φ t p q r.0, act_term σ φ u p q r.1)

-- a substitution in an instance
pub inst-act : (σ : ℕ → Tm) (ψ : ℕ → Ty → Tm) (g : ℕ → Body) (φ : ℕ → Ty → Tm) (t : Tm) → AreTerms σ → AreFreeTerms ψ → AreFreeTerms φ → LooseBelow 0 t → FitsBodies g t
    → act σ ψ (inst g φ t) ≡ inst (acted σ ψ g) (λ x a. act σ ψ (φ x a)) t
unfolding act
inst-act σ ψ g φ t p q r l f =
    act-value σ ψ g (act bound φ t) p q (fits-act (λ z. (g z).arity) bound φ t (λ i. tt) r f)
    ∙ ap (value (acted σ ψ g)) (act-act bound φ σ ψ t ∙ act_shut σ bound (λ x a. act σ ψ (φ x a)) t l)

module _ (F : Symbols) (prec : ℕ → ℕ) where
  kept_value : {M : List Declared} {b : Ty} {t : Tm} (σ : ℕ → Tm) (ψ : ℕ → Ty → Tm) (g : ℕ → Body) (φ : ℕ → Ty → Tm) → AreTerms σ → AreFreeTerms ψ → AreCounted M g → AreFreeTerms φ → Typed F M [] t b
      → (v : Tm) → v ≡ inst g φ t → Value (acted σ ψ g) (act bound (λ x a. act σ ψ (φ x a)) t) (act σ ψ v)
  kept_value {t = t} σ ψ g φ p q c h w v e =
      subst (Value (acted σ ψ g) (act bound (λ x a. act σ ψ (φ x a)) t)) (sym (ap (act σ ψ) e ∙ inst-act σ ψ g φ t p q h (typed_loose w) (typed_fits g c w)))
      (inst_is (acted σ ψ g) (λ x a. act σ ψ (φ x a)) c (λ x a. act_term σ ψ (φ x a) p q (h x a)) w)

  pub root_kept : IsKept (Root F prec)
  root_kept σ ψ t u p q r = record {
    metas = r.metas;
    bodies = acted σ ψ r.bodies;
    frees = λ x a. act σ ψ (r.frees x a);
    left = r.left;
    right = r.right;
    inference = r.inference;
    symbol = r.symbol;
    given = r.given;
    headed = r.headed;
    counted = r.counted;
    terms = λ x a. act_term σ ψ (r.frees x a) p q (r.terms x a);
    typed_left = r.typed_left;
    typed_right = r.typed_right;
    above = r.above;
    is_left = kept_value σ ψ r.bodies r.frees p q r.counted r.terms r.typed_left t (left_is F prec r);
    is_right = kept_value σ ψ r.bodies r.frees p q r.counted r.terms r.typed_right u (right_is F prec r);
  }

  root_spine : (t u : Tm) (r : Root F prec t u) → t ≡ spine (fun r.symbol) (map (inst r.bodies r.frees) r.given)
  unfolding value act
  root_spine t u r = left_is F prec r ∙ ap (inst r.bodies r.frees) r.headed ∙ inst-spine r.bodies r.frees (fun r.symbol) r.given

  pub root_headed : (t u : Tm) → Root F prec t u → (f : ℕ) × (head t ≡ fun f)
  root_headed t u r = (r.symbol, ap head (root_spine t u r) ∙ head-spine (fun r.symbol) (map (inst r.bodies r.frees) r.given))

  count_spine : (h : Tm) (ts : List Tm) → argument_count (spine h ts) ≡ argument_count h + length ts
  count_spine h [] = omega arith
  count_spine h (t ∷ ts) = omega (arith, count_spine (app h t) ts)

  length_map : {A B : Type 0} (h : A → B) (l : List A) → length (map h l) ≡ length l
  length_map h [] = refl
  length_map h (a ∷ l) = ap suc (length_map h l)

  pub symbol_arguments : {M : List Declared} {Γ : List Ty} {b : Ty} (f : ℕ) (ts : List Tm) → Typed F M Γ (spine (fun f) ts) b → (cs : List Ty) × (slice_get F.funs f ≡ Some (arrows cs b)) × AllTyped F M Γ (tms_of ts) cs
  symbol_arguments {M = M} {Γ = Γ} f ts p = let (cs, q, qs) = typed_spine-arguments (fun f) ts p in (cs, known q, qs)
    where
      known : {a : Ty} → Typed F M Γ (fun f) a → slice_get F.funs f ≡ Some a
      known (typed_fun e) = e

  -- the number of arguments of the left side is that of its symbol
  root_count : (t u : Tm) (r : Root F prec t u) → (cs : List Ty) × (slice_get F.funs r.symbol ≡ Some (arrows cs (sort 0))) × (argument_count t ≡ length cs)
  root_count t u r = on (symbol_arguments r.symbol r.given (subst (λ t. Typed F r.metas [] t (sort 0)) r.headed r.typed_left))
    where
      on : (cs : List Ty) × (slice_get F.funs r.symbol ≡ Some (arrows cs (sort 0))) × AllTyped F r.metas [] (tms_of r.given) cs
          → (cs : List Ty) × (slice_get F.funs r.symbol ≡ Some (arrows cs (sort 0))) × (argument_count t ≡ length cs)
      on (cs, e, ps) = (cs, e, ap argument_count (root_spine t u r) ∙ count_spine (fun r.symbol) (map (inst r.bodies r.frees) r.given) ∙ omega (arith, length_map (inst r.bodies r.frees) r.given, typed_length r.given cs ps))

  fun_one : (f g : ℕ) → fun f ≡ fun g → f ≡ g
  fun_one f g e = cc

  pub root_even : (t t' u u' : Tm) → Root F prec t u → Root F prec t' u' → head t ≡ head t' → argument_count t ≡ argument_count t'
  unfolding root_headed
  root_even t t' u u' r r' e =
      let (cs, k, n) = root_count t u r in
      let (ds, l, m) = root_count t' u' r' in
      let same : r.symbol ≡ r'.symbol = fun_one r.symbol r'.symbol (sym (root_headed t u r).1 ∙ e ∙ (root_headed t' u' r').1) in
      let one : arrows cs (sort 0) ≡ arrows ds (sort 0) = some_one (sym k ∙ ap (slice_get F.funs) same ∙ l) in
      n ∙ ap length (sym (append-nil cs) ∙ sym (arguments-arrows cs (sort 0)) ∙ ap arguments one ∙ arguments-arrows ds (sort 0) ∙ append-nil ds) ∙ sym m

abstracted-act : (σ : ℕ → Tm) (cs : List Ty) (t : Tm) → act σ free (abstracted cs t) ≡ abstracted cs (act (up_many (length cs) σ) free t)
unfolding act up_many up_free rename
abstracted-act σ [] t = refl
abstracted-act σ (c ∷ cs) t = ap (lam c) (abstracted-act (up σ) cs t)

-- an abstraction over several variables with as many arguments, in values
pub spine_abstracted : {R : Tm → Tm → Type 0} (g : ℕ → Body) (cs : List Ty) (ws : List Tm) (m : Tm) → length cs ≡ length ws → ((n : ℕ) (w : Tm) → slice_get ws n ≡ Some w → IsTerm w) → FitsBodies g (abstracted cs m)
    → Many (StepOver R) (spine (value g (abstracted cs m)) ws) (value g (act (parameters (tms_of ws) bound) free m))
unfolding value parameters opened cons act
spine_abstracted g [] [] m n h f = many_equal (ap (value g) (sym (act-id m)))
spine_abstracted g [] (w ∷ ws) m n h f = absurd (omega arith)
spine_abstracted g (c ∷ cs) [] m n h f = absurd (omega arith)
spine_abstracted {R = R} g (c ∷ cs) (w ∷ ws) m n h f =
    let one : opened w (value (shifted g) (abstracted cs m)) ≡ value g (abstracted cs (act (up_many (length cs) (cons w bound)) free m))
    = opened-value w g (abstracted cs m) (h 0 w refl) f ∙ ap (value g) (abstracted-act (cons w bound) cs m) in
    let fit : FitsBodies g (abstracted cs (act (up_many (length cs) (cons w bound)) free m))
    = subst (FitsBodies g) (abstracted-act (cons w bound) cs m) (fits-act (λ z. (g z).arity) (cons w bound) free (abstracted cs m) (cons_terms w (h 0 w refl)) (λ x a. tt) f) in
    many_both (many_spine ws (go (over_beta refl) (many_equal one)))
    (many_both (spine_abstracted g cs ws (act (up_many (length cs) (cons w bound)) free m) (omega arith) (λ k v e. h (suc k) v e) fit)
    (many_equal (ap (value g) (act-act (up_many (length cs) (cons w bound)) free (parameters (tms_of ws) bound) free m ∙ act_same params (λ x a. refl) m))))
  where
    cons_terms : (w : Tm) → IsTerm w → (i : ℕ) → IsTerm (cons w bound i)
    cons_terms w t zero = t
    cons_terms w t (suc i) = tt

    length_tms : (ts : List Tm) → count (tms_of ts) ≡ length ts
    length_tms [] = refl
    length_tms (t ∷ ts) = omega (arith, length_tms ts)

    params : (i : ℕ) → act (parameters (tms_of ws) bound) free (up_many (length cs) (cons w bound) i) ≡ parameters (tms_of ws) (cons w bound) i
    params i =
        ap (λ k. act (parameters (tms_of ws) bound) free (up_many k (cons w bound) i)) (omega (arith, length_tms ws))
        ∙ parameters-up_many (tms_of ws) bound (cons w bound) i ∙ ap (λ σ. parameters (tms_of ws) σ i) (fun_ext (λ j. act-id (cons w bound j)))

-- the nearest variables as parameters
parameters_past : (ts : Tms) (σ : ℕ → Tm) (j : ℕ) → parameters ts σ (j + count ts) ≡ σ j
unfolding parameters cons
parameters_past none σ j = ap σ (omega arith)
parameters_past (more t ts) σ j = ap (parameters ts (cons t σ)) (omega arith) ∙ parameters_past ts (cons t σ) (suc j)

pub parameters_nearest : (ts : Tms) (σ : ℕ → Tm) → acts (parameters ts σ) free (nearest (count ts)) ≡ ts
unfolding parameters acts act cons
parameters_nearest none σ = refl
parameters_nearest (more t ts) σ =
    ap (λ n. acts (parameters ts (cons t σ)) free (nearest n)) (one-add (count ts))
    ∙ ap₂ more (ap (parameters ts (cons t σ)) (omega arith) ∙ parameters_past ts (cons t σ) 0) (parameters_nearest ts (cons t σ))

types_past : (cs Γ : List Ty) (j : ℕ) → slice_get (parameter_types cs Γ) (j + length cs) ≡ slice_get Γ j
types_past [] Γ j = ap (slice_get Γ) (omega arith)
types_past (c ∷ cs) Γ j = ap (slice_get (parameter_types cs (c ∷ Γ))) (omega arith) ∙ types_past cs (c ∷ Γ) (suc j)

module _ {F : Symbols} {M : List Declared} where
  nearest_types : (cs Γ ds : List Ty) → AllTyped F M (parameter_types cs Γ) (nearest (length cs)) ds → ds ≡ cs
  nearest_types [] Γ [] typed_none = refl
  nearest_types [] Γ (d ∷ ds) p = elim p [ ]
  nearest_types (c ∷ cs) Γ [] p = elim p [ ]
  nearest_types (c ∷ cs) Γ (d ∷ ds) (typed_more p ps) = ap₂ (λ c cs. c ∷ cs) (some_one (sym (at p) ∙ ap (slice_get (parameter_types cs (c ∷ Γ))) (omega arith) ∙ types_past cs (c ∷ Γ) 0)) (nearest_types cs (c ∷ Γ) ds ps)
    where
      at : {i : ℕ} {Δ : List Ty} {a : Ty} → Typed F M Δ (bound i) a → slice_get Δ i ≡ Some a
      at (typed_bound e) = e

  abstracted_typed : {Γ : List Ty} (cs : List Ty) (m : Tm) (k : Ty) → Typed F M Γ (abstracted cs m) k → (out : Ty) × Typed F M (parameter_types cs Γ) m out × (k ≡ arrows cs out)
  abstracted_typed [] m k p = (k, p, refl)
  abstracted_typed {Γ = Γ} (c ∷ cs) m k p = under (λ b. abstracted_typed cs m b) p
    where
      under : {k : Ty} → ((b : Ty) → Typed F M (c ∷ Γ) (abstracted cs m) b → (out : Ty) × Typed F M (parameter_types cs (c ∷ Γ)) m out × (b ≡ arrows cs out))
          → Typed F M Γ (lam c (abstracted cs m)) k → (out : Ty) × Typed F M (parameter_types cs (c ∷ Γ)) m out × (k ≡ arrows (c ∷ cs) out)
      under h (typed_lam {b = b} s q) = let (out, r, e) = h b q in (out, r, ap (λ b. c ⇒ b) e)

  meta_typed : {Γ : List Ty} {z : ℕ} {ts : Tms} {b : Ty} → Typed F M Γ (meta z ts) b → (d : Declared) × (slice_get M z ≡ Some d) × AllTyped F M Γ ts d.args × (b ≡ d.out)
  meta_typed (typed_meta {d = d} e ps o) = (d, e, ps, o)

  -- an abstraction over all arguments of a meta-variable has the type of that
  pub abstraction_type : {Γ : List Ty} (cs : List Ty) (z : ℕ) (k : Ty) → Typed F M Γ (abstracted cs (meta z (nearest (length cs)))) k
      → (d : Declared) × (slice_get M z ≡ Some d) × (d.args ≡ cs) × (k ≡ arrows cs d.out)
  abstraction_type {Γ = Γ} cs z k p =
      let (out, q, e) = abstracted_typed cs (meta z (nearest (length cs))) k p in
      let (d, f, ps, o) = meta_typed q in
      (d, f, nearest_types cs Γ d.args ps, e ∙ ap (arrows cs) o)

mutual
  no_free_nearest : (n : ℕ) → AllNoFree (nearest n)
  no_free_nearest zero = tt
  no_free_nearest (suc n) = (tt, no_free_nearest n)

no_free_abstracted : (cs : List Ty) (t : Tm) → NoFree t → NoFree (abstracted cs t)
no_free_abstracted [] t n = n
no_free_abstracted (c ∷ cs) t n = no_free_abstracted cs t n

values_terms : (g : ℕ → Body) (ts : List Tm) → ((n : ℕ) (w : Tm) → slice_get ts n ≡ Some w → IsTerm w) → values g (tms_of ts) ≡ tms_of ts
unfolding values
values_terms g [] h = refl
values_terms g (t ∷ ts) h = ap₂ more (value_term g t (h 0 t refl)) (values_terms g ts (λ n w e. h (suc n) w e))

values_map : (g : ℕ → Body) (φ : ℕ → Ty → Tm) (ts : List Tm) → values g (acts bound φ (tms_of ts)) ≡ tms_of (map (inst g φ) ts)
unfolding values acts
values_map g φ [] = refl
values_map g φ (t ∷ ts) = ap (more (inst g φ t)) (values_map g φ ts)

length_of_tms : (ts : List Tm) → count (tms_of ts) ≡ length ts
length_of_tms [] = refl
length_of_tms (t ∷ ts) = omega (arith, length_of_tms ts)

-- the instance of such an abstraction, with the instances of arguments, comes to that of the meta-variable with the
-- arguments
pub meta_steps : {F : Symbols} {M : List Declared} {R : Tm → Tm → Type 0} (g : ℕ → Body) (φ : ℕ → Ty → Tm) (cs : List Ty) (z : ℕ) (k : Ty) (us : List Tm) → AreCounted M g → length cs ≡ length us
    → ((n : ℕ) (w : Tm) → slice_get (map (inst g φ) us) n ≡ Some w → IsTerm w) → Typed F M [] (abstracted cs (meta z (nearest (length cs)))) k
    → Many (StepOver R) (spine (inst g φ (abstracted cs (meta z (nearest (length cs))))) (map (inst g φ) us)) (inst g φ (meta z (tms_of us)))
unfolding value act
meta_steps g φ cs z k us c n h p =
    let m : Tm = meta z (nearest (length cs)) in
    let ws : List Tm = map (inst g φ) us in
    let count : length cs ≡ length ws = n ∙ sym (length_mapped (inst g φ) us) in
    many_both (many_equal (ap (λ t. spine (value g t) ws) (act_closed bound φ (abstracted cs m) (no_free_abstracted cs m (no_free_nearest (length cs))) (typed_loose p))))
    (many_both (spine_abstracted g cs ws m count h (typed_fits g c p))
    (many_equal (ap (λ vs. act (parameters vs bound) free (g z).tree) (
    ap (values g) (ap (λ n. acts (parameters (tms_of ws) bound) free (nearest n)) (count ∙ sym (length_of_tms ws)) ∙ parameters_nearest (tms_of ws) bound)
    ∙ values_terms g ws h ∙ sym (values_map g φ us)))))
  where
    length_mapped : {A B : Type 0} (h : A → B) (l : List A) → length (map h l) ≡ length l
    length_mapped h [] = refl
    length_mapped h (a ∷ l) = ap suc (length_mapped h l)
