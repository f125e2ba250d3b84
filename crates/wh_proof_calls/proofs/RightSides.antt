-- An instance of a right side is computable where its calls are, and the bodies of its meta-variables.
use Rattle.std.proofs.Common.{◌≡◌, ℕ, ◌+◌, List, [], ◌∷◌, map, Option, Some, None, slice_get, Contains, inl, inr, refl, ap, sym, ◌∙◌, subst}
use Rattle.std.proofs.lemmas.List.Elements.{Contains-append_left, Contains-append_right}
use Rattle.wh_types.specs.Ty.{Ty, ◌⇒◌, SortsBelow}
use Rattle.wh_terms.specs.Tree.{Tm, bound, free, fun, meta, lam, Tms, more, spine, tms_of}
use Rattle.wh_terms.specs.Substitution.{up, up_free, act, acts, cons}
use Rattle.wh_terms.specs.Sight.{Occurs, OccursIn}
use Rattle.wh_terms.specs.Typing.{Symbols, Declared, Typed, typed_bound, typed_free, typed_fun, typed_meta, typed_lam, typed_app, AllTyped, typed_none, typed_more}
use Rattle.wh_terms.specs.Value.{Body, parameters, Value, Values, of_none, of_more}
use Rattle.wh_terms.specs.TypedBodies.{TypedBodies}
use Rattle.wh_terms.specs.Rules.{RewriteRule, AreWellMade}
use Rattle.wh_terms.specs.StepOver.{StepOver}
use Rattle.wh_terms.proofs.ActLaws.{act-id}
use Rattle.wh_terms.proofs.TypingLaws.{typed-act, fits-free}
use Rattle.wh_terms.proofs.ValueForm.{value, values, AllFitBodies}
use Rattle.wh_terms.proofs.ValueLaws.{value_is, has_value}
use Rattle.wh_terms.proofs.ValueTyping.{typed-value, typed_count}
use Rattle.wh_step.specs.Step.{Step}
use Rattle.wh_step.proofs.Instances.{Instance}
use Rattle.wh_step_laws.specs.RootRelations.{IsRoot, KnowsSorts}
use Rattle.wh_step_laws.specs.Computable.{Computable, ComputableList}
use Rattle.wh_step_laws.proofs.Fundamental.{candidate, abstraction_computable, KnownTypes, known_more, PutsComputable, puts_more}
use Rattle.wh_step_laws.proofs.Candidates.{candidate_free}
use Rattle.wh_step_laws.proofs.SystemComputable.{computable-typed, known_type, computable-symbol}
use Rattle.wh_step_laws.proofs.SameSteps.{computable-raw, raw-computable}
use Rattle.wh_step_laws.proofs.SystemSteps.{instances_root}
use Rattle.wh_system.specs.Needs.{need_of}
use Rattle.wh_pairs.specs.PairData.{Within}
use Rattle.wh_system.specs.Systems.{SystemData}
use Rattle.wh_system.specs.WellMade.{IsWellMadeSystem}
use Rattle.wh_access.proofs.FindLemmas.{sorts_known}
use Rattle.wh_pairs.specs.Calls.{Call, calls, calls_within, call_where_defined, calls_of}
use Rattle.wh_pairs.proofs.MemberLemmas.{at_head}
use Rattle.wh_proof_calls.specs.Bodies.{IsComputableBody}
use Rattle.wh_proof_calls.specs.Sides.{HasComputableBodies, IsComputableUnder}
use Rattle.wh_proof_calls.proofs.Puts.{inst, IsComputableCall}
use Rattle.wh_order_extended.specs.Kinds.{arrows}
use Rattle.wh_order_extended.proofs.TypeLists.{computable-spine, typed_spine, list-typed}
use Rattle.wh_proof_calls.proofs.NeedLaws.{no_need-heads_no_rule}
use Rattle.wh_proof_calls.proofs.WholeBodies.{declared_anywhere, declared_shut, all_typed_fit, typed_shut, inst-lam, inst-opened, inst-meta}
use Rattle.wh_proof_calls.proofs.CandidateValues.{IsTypedIn, rule_call}

-- the bodies of the declared meta-variables that occur are computable
abbrev pub ComputableBodies : Symbols → (ℕ → ℕ) → (Tm → Tm → Type 0) → List Declared → (ℕ → Body) → Tm → Type 0
ComputableBodies S rank R M g t = (z : ℕ) (d : Declared) → Occurs z t → slice_get M z ≡ Some d → IsComputableBody S rank R d (g z)

abbrev pub ComputableBodiesIn : Symbols → (ℕ → ℕ) → (Tm → Tm → Type 0) → List Declared → (ℕ → Body) → Tms → Type 0
ComputableBodiesIn S rank R M g ts = (z : ℕ) (d : Declared) → OccursIn z ts → slice_get M z ≡ Some d → IsComputableBody S rank R d (g z)

-- symbols without rules are computable
abbrev pub StillSymbols : Symbols → List RewriteRule → (ℕ → ℕ) → (Tm → Tm → Type 0) → Type 0
StillSymbols S rules rank R = (f : ℕ) (a : Ty) → need_of rules f ≡ None → slice_get S.funs f ≡ Some a → Computable S rank R a (fun f)

-- all calls of the list are computable
abbrev pub ComputableCalls : Symbols → (ℕ → ℕ) → (Tm → Tm → Type 0) → (ℕ → Body) → List Call → Type 0
ComputableCalls S rank R g cs = (c : Call) → Contains cs c → IsComputableCall S rank R g c

-- where each call is computable, so is the symbol with these arguments
call_computable : (S : Symbols) (rules : List RewriteRule) (rank : ℕ → ℕ) (R : Tm → Tm → Type 0) (g : ℕ → Body) (σ : ℕ → Tm)
    (es : List Within) (Γ : List Ty) (f : ℕ) (qs : List Tm) (cs : List Ty) (b : Ty)
    → StillSymbols S rules rank R → ComputableCalls S rank R g (calls rules es Γ (fun f) qs) → PutsComputable S rank R Γ σ
    → slice_get S.funs f ≡ Some (arrows cs b) → ComputableList S rank R cs (map (inst g σ) qs)
    → Computable S rank R b (spine (fun f) (map (inst g σ) qs))
call_computable S rules rank R g σ es Γ f qs cs b still h puts e list = go (need_of rules f) refl h
  where
    go : (o : Option ℕ) → need_of rules f ≡ o → ComputableCalls S rank R g (call_where_defined o es Γ f qs)
        → Computable S rank R b (spine (fun f) (map (inst g σ) qs))
    go None n k = computable-spine S rank R cs b (fun f) (map (inst g σ) qs) (still f (arrows cs b) n e) list
    go (Some m) n k = k (record { conditions = es; binders = Γ; symbol = f; need = m; arguments = qs }) (at_head [] _) σ puts cs b e list

-- the instance of a typed meta-term is typed
inst-typed : {S : Symbols} {M : List Declared} {Γ : List Ty} {t : Tm} {a : Ty} (rank : ℕ → ℕ) (R : Tm → Tm → Type 0) (g : ℕ → Body)
    (σ : ℕ → Tm) → Typed S M Γ t a → TypedBodies S M [] [] g t
    → PutsComputable S rank R Γ σ → Typed S [] [] (inst g σ t) a
inst-typed {S = S} {Γ = Γ} rank R g σ p h puts =
    typed-act [] σ free (λ i b e. computable-typed S rank R b (σ i) (puts i b e)) (fits-free [])
    (typed-value g p (λ z d o e. declared_anywhere Γ (g z) (h z d o e)))

module _ {S : Symbols} {R : Tm → Tm → Type 0} (root : IsRoot S R) (rules : List RewriteRule) (rank : ℕ → ℕ) (known : KnowsSorts S)
    (still : StillSymbols S rules rank (StepOver R))
    (M : List Declared) (g : ℕ → Body) where
  -- an abstraction whose opened instances are computable
  lam_computable : {Γ : List Ty} {t : Tm} {a b : Ty} (σ : ℕ → Tm) → SortsBelow S.sorts a → Typed S M (a ∷ Γ) t b
      → ComputableBodies S rank (StepOver R) M g t → PutsComputable S rank (StepOver R) Γ σ
      → ((u : Tm) → Computable S rank (StepOver R) a u → Computable S rank (StepOver R) b (inst g (cons u σ) t))
      → Computable S rank (StepOver R) (a ⇒ b) (inst g σ (lam a t))
  lam_computable {Γ = Γ} {t = t} {a = a} {b = b} σ s p bodies puts h =
      let typed : Typed S [] [] (inst g σ (lam a t)) (a ⇒ b) =
      inst-typed rank (StepOver R) g σ (typed_lam s p) (λ z d o e. (bodies z d o e).fits) puts in
      let is : inst g σ (lam a t) ≡ lam a (act (up σ) (up_free free) (value g t)) =
      inst-lam g σ a t (typed_shut g p (λ z d o e. (bodies z d o e).fits)) in
      let first : Computable S rank (StepOver R) b (inst g (cons (free 0 a) σ) t) =
      h (free 0 a) (candidate_free root (candidate root rank a s) s 0) in
      let k : SortsBelow S.sorts b = known_type known (computable-typed S rank (StepOver R) b _ first) in
      subst (Computable S rank (StepOver R) (a ⇒ b)) (sym is)
      (abstraction_computable root rank a b s k (act (up σ) (up_free free) (value g t)) (subst (λ v. Typed S [] [] v (a ⇒ b)) is typed)
      (λ u c. subst (Computable S rank (StepOver R) b) (sym (inst-opened u g σ t)) (h u c)))

  -- what a computable body makes of computable arguments
  meta_computable : {Γ : List Ty} {ts : Tms} (σ : ℕ → Tm) (z : ℕ) (d : Declared) → AllTyped S M Γ ts d.args
      → IsComputableBody S rank (StepOver R) d (g z)
      → (us : List Tm) → tms_of us ≡ acts σ free (values g ts) → ComputableList S rank (StepOver R) d.args us
      → Computable S rank (StepOver R) d.out (inst g σ (meta z ts))
  meta_computable {ts = ts} σ z d ps body us e list =
      subst (Computable S rank (StepOver R) d.out)
      (ap (λ vs. act (parameters vs bound) free (g z).tree) e
      ∙ sym (inst-meta g σ z ts (declared_shut (g z) body.fits) (body.fits.counted ∙ sym (typed_count ps))))
      (body.takes us list)

  mutual
    unfolding act acts value values

    -- the instance of a part of a right side, with computable arguments
    pub side_computable : {Γ : List Ty} {m : Tm} {a : Ty} (es : List Within) (qs : List Tm) (σ : ℕ → Tm) (cs : List Ty) (b : Ty)
        → Typed S M Γ m a → a ≡ arrows cs b → KnownTypes S Γ
        → ComputableBodies S rank (StepOver R) M g m → PutsComputable S rank (StepOver R) Γ σ
        → ComputableList S rank (StepOver R) cs (map (inst g σ) qs)
        → ComputableCalls S rank (StepOver R) g (calls rules es Γ m qs)
        → Computable S rank (StepOver R) b (spine (inst g σ m) (map (inst g σ) qs))
    side_computable es qs σ cs b (typed_bound {i = i} {a = a} e) is types bodies puts list h =
        computable-spine S rank (StepOver R) cs b (σ i) (map (inst g σ) qs)
        (subst (λ a. Computable S rank (StepOver R) a (σ i)) is (puts i a e)) list
    side_computable es qs σ cs b (typed_free {x = x} {a = a} s) is types bodies puts list h =
        computable-spine S rank (StepOver R) cs b (free x a) (map (inst g σ) qs)
        (subst (λ c. Computable S rank (StepOver R) c (free x a)) is (candidate_free root (candidate root rank a s) s x)) list
    side_computable es qs σ cs b (typed_fun {Γ = Γ} {f = f} e) is types bodies puts list h =
        call_computable S rules rank (StepOver R) g σ es Γ f qs cs b still h puts (e ∙ ap Some is) list
    side_computable es qs σ cs b (typed_meta {Γ = Γ} {z = z} {ts = ts} {d = d} e ps o) is types bodies puts list h =
        let (us, same, all) = sides_computable es z 1 σ ps types (λ y c p q. bodies y c (inr p) q) puts h in
        computable-spine S rank (StepOver R) cs b (inst g σ (meta z ts)) (map (inst g σ) qs)
        (subst (λ a. Computable S rank (StepOver R) a (inst g σ (meta z ts))) (sym o ∙ is)
        (meta_computable σ z d ps (bodies z d (inl refl) e) us same all)) list
    side_computable es qs σ cs b (typed_lam {Γ = Γ} {a = a} {b = c} {t = t} s p) is types bodies puts list h =
        computable-spine S rank (StepOver R) cs b (inst g σ (lam a t)) (map (inst g σ) qs)
        (subst (λ a'. Computable S rank (StepOver R) a' (inst g σ (lam a t))) is (lam_computable σ s p bodies puts
        (λ u q. side_computable es [] (cons u σ) [] c p refl (known_more S Γ a s types) bodies
        (puts_more S rank (StepOver R) Γ a u σ q puts) tt h))) list
    side_computable es qs σ cs b (typed_app {Γ = Γ} {a = a} {b = c} {t = t} {u = u} p q) is types bodies puts list h =
        let arg : Computable S rank (StepOver R) a (inst g σ u) =
        side_computable es [] σ [] a q refl types (λ z d o e. bodies z d (inr o) e) puts tt
        (λ k at. h k (Contains-append_right (calls rules es Γ t (u ∷ qs)) (calls rules es Γ u []) k at)) in
        let sorts : SortsBelow S.sorts a = known_type known (computable-typed S rank (StepOver R) a (inst g σ u) arg) in
        side_computable es (u ∷ qs) σ (a ∷ cs) b p (ap (λ c. a ⇒ c) is) types (λ z d o e. bodies z d (inl o) e) puts (sorts, arg, list)
        (λ k at. h k (Contains-append_left (calls rules es Γ t (u ∷ qs)) (calls rules es Γ u []) k at))

    pub sides_computable : {Γ : List Ty} {ts : Tms} {ks : List Ty} (es : List Within) (z i : ℕ) (σ : ℕ → Tm) → AllTyped S M Γ ts ks
        → KnownTypes S Γ
        → ComputableBodiesIn S rank (StepOver R) M g ts → PutsComputable S rank (StepOver R) Γ σ
        → ComputableCalls S rank (StepOver R) g (calls_within rules es Γ z i ts)
        → (us : List Tm) × (tms_of us ≡ acts σ free (values g ts)) × ComputableList S rank (StepOver R) ks us
    sides_computable es z i σ typed_none types bodies puts h = ([], refl, tt)
    sides_computable es z i σ (typed_more {Γ = Γ} {t = t} {ts = ts} {a = a} p ps) types bodies puts h =
        let (us, same, list) =
        sides_computable es z (i + 1) σ ps types (λ y d o e. bodies y d (inr o) e) puts
        (λ k at. h k (Contains-append_right _ (calls_within rules es Γ z (i + 1) ts) k at)) in
        let first : Computable S rank (StepOver R) a (inst g σ t) =
        side_computable _ [] σ [] a p refl types (λ y d o e. bodies y d (inl o) e) puts tt
        (λ k at. h k (Contains-append_left _ (calls_within rules es Γ z (i + 1) ts) k at)) in
        let sorts : SortsBelow S.sorts a = known_type known (computable-typed S rank (StepOver R) a (inst g σ t) first) in
        (inst g σ t ∷ us, ap (more (inst g σ t)) same, (sorts, first, list))

-- the instance of a part of a right side is computable, by the steps of a system
pub right_computable : {S : Symbols} {rules : List RewriteRule} → AreWellMade S rules → (rank : ℕ → ℕ) → KnowsSorts S
    → StillSymbols S rules rank (StepOver (Instance rules))
    → (M : List Declared) (g : ℕ → Body) {Γ : List Ty} {m : Tm} (es : List Within) (qs : List Tm) (σ : ℕ → Tm) (cs : List Ty) (b : Ty)
    → ComputableBodies S rank (StepOver (Instance rules)) M g m → Typed S M Γ m (arrows cs b) → KnownTypes S Γ
    → PutsComputable S rank (StepOver (Instance rules)) Γ σ
    → ComputableList S rank (StepOver (Instance rules)) cs (map (inst g σ) qs)
    → ComputableCalls S rank (StepOver (Instance rules)) g (calls rules es Γ m qs)
    → Computable S rank (StepOver (Instance rules)) b (spine (inst g σ m) (map (inst g σ) qs))
right_computable {S = S} {rules = rules} w rank known still M g es qs σ cs b bodies p types puts list h =
    side_computable (instances_root S rules w) rules rank known still M g es qs σ cs b p refl types bodies puts list h

-- so is the value of the right side of a rule
pub rule_right_computable : {S : Symbols} {rules : List RewriteRule} → AreWellMade S rules → (rank : ℕ → ℕ) → KnowsSorts S
    → StillSymbols S rules rank (StepOver (Instance rules))
    → (r : RewriteRule) (a : Ty) (g : ℕ → Body) → ComputableBodies S rank (StepOver (Instance rules)) r.metas g r.right
    → Typed S r.metas [] r.right a
    → ((c : Call) → Contains (calls_of rules r) c → IsComputableCall S rank (StepOver (Instance rules)) g c)
    → Computable S rank (StepOver (Instance rules)) a (value g r.right)
rule_right_computable {S = S} {rules = rules} w rank known still r a g bodies p h =
    subst (Computable S rank (StepOver (Instance rules)) a) (act-id (value g r.right))
    (right_computable w rank known still r.metas g [] [] bound [] a bodies p (λ i b e. absurd (cc)) (λ i b e. absurd (cc)) tt h)

-- the same by the steps of a system, and by values as a relation

pub values-list : (g : ℕ → Body) (ts : List Tm) → values g (tms_of ts) ≡ tms_of (map (value g) ts)
unfolding values
values-list g [] = refl
values-list g (t ∷ ts) = ap (more (value g t)) (values-list g ts)

-- instances are values with terms put in
pub instances : (g : ℕ → Body) (τ : ℕ → Tm) (ts : List Tm) → map (act τ free) (map (value g) ts) ≡ map (inst g τ) ts
instances g τ [] = refl
instances g τ (t ∷ ts) = ap (λ l. inst g τ t ∷ l) (instances g τ ts)

have_values : (g : ℕ → Body) (ts : List Tm) → AllFitBodies g (tms_of ts) → Values g (tms_of ts) (tms_of (map (value g) ts))
have_values g [] f = of_none
have_values g (t ∷ ts) f = of_more (has_value g t f.0) (have_values g ts f.1)

raw-list : {S : Symbols} {rules : List RewriteRule} → AreWellMade S rules → (rank : ℕ → ℕ) (cs : List Ty) (ts : List Tm)
    → ComputableList S rank (StepOver (Instance rules)) cs ts → ComputableList S rank (Step rules) cs ts
raw-list w rank [] [] h = tt
raw-list w rank [] (t ∷ ts) h = absurd h
raw-list w rank (c ∷ cs) [] h = absurd h
raw-list w rank (c ∷ cs) (t ∷ ts) h = (h.0, raw-computable w rank c t h.1, raw-list w rank cs ts h.2)

body-raw : {S : Symbols} {rules : List RewriteRule} → AreWellMade S rules → (rank : ℕ → ℕ) (d : Declared) (b : Body)
    → IsComputableBody S rank (Step rules) d b → IsComputableBody S rank (StepOver (Instance rules)) d b
body-raw w rank d b h = record {
  fits = h.fits;
  takes = λ us k. computable-raw w rank d.out (act (parameters (tms_of us) bound) free b.tree) (h.takes us (raw-list w rank d.args us k));
}

call-raw : {S : Symbols} {rules : List RewriteRule} → AreWellMade S rules → (rank : ℕ → ℕ) (g : ℕ → Body) (c : Call)
    → AllFitBodies g (tms_of c.arguments) → IsComputableUnder S rank (Step rules) g c
    → IsComputableCall S rank (StepOver (Instance rules)) g c
call-raw {S = S} {rules = rules} w rank g c fits h τ puts cs b e list =
    let us : List Tm = map (inst g τ) c.arguments in
    let same : map (act τ free) (map (value g) c.arguments) ≡ us = instances g τ c.arguments in
    let typed : Typed S [] [] (spine (fun c.symbol) us) b =
    typed_spine (fun c.symbol) us cs (typed_fun e) (list-typed S rank (StepOver (Instance rules)) cs us list) in
    let by_steps =
    h τ (map (value g) c.arguments) cs b (λ i a s. raw-computable w rank a (τ i) (puts i a s)) (have_values g c.arguments fits)
    (subst (ComputableList S rank (Step rules) cs) (sym same) (raw-list w rank cs us list))
    (subst (λ l. Typed S [] [] (spine (fun c.symbol) l) b) (sym same) typed) in
    computable-raw w rank b (spine (fun c.symbol) us) (subst (λ l. Computable S rank (Step rules) b (spine (fun c.symbol) l)) same by_steps)

pub right_side_computable : (d : SystemData) (rank : ℕ → ℕ) (r : RewriteRule) (g : ℕ → Body) (a : Ty) (v : Tm) → IsWellMadeSystem d
    → Contains d.rules r → Typed d.symbols r.metas [] r.right a
    → HasComputableBodies d.symbols rank (Step d.rules) r g
    → ((c : Call) → Contains (calls_of d.rules r) c → IsComputableUnder d.symbols rank (Step d.rules) g c) → Value g r.right v
    → Computable d.symbols rank (Step d.rules) a v
right_side_computable d rank r g a v made listed p bodies h is =
    let S : Symbols = d.symbols in
    let w : AreWellMade S d.rules = made.rules in
    let still : StillSymbols S d.rules rank (StepOver (Instance d.rules)) =
    λ f b n e. computable-raw w rank b (fun f) (computable-symbol w (sorts_known d made) rank f b e (no_need-heads_no_rule d.rules f n)) in
    let called : (c : Call) → Contains (calls_of d.rules r) c → IsTypedIn S r.metas (λ z. Occurs z r.right) c =
    rule_call S d.rules r (w.each r listed) in
    let fits : (c : Call) → Contains (calls_of d.rules r) c → AllFitBodies g (tms_of c.arguments) =
    λ c at. all_typed_fit g (called c at).typed (λ z q o e. (bodies z q ((called c at).occurs z o) e).fits) in
    raw-computable w rank a v (subst (Computable S rank (StepOver (Instance d.rules)) a) (sym (value_is is).1)
    (rule_right_computable w rank (sorts_known d made) still r a g (λ z q o e. body-raw w rank q (g z) (bodies z q o e)) p
    (λ c at. call-raw w rank g c (fits c at) (h c at))))
