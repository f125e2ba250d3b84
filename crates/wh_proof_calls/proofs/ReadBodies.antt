-- What is read on accessible places of computable terms is computable.
use Rattle.std.proofs.Common.{◌≡◌, ◌≢◌, ℕ, zero, suc, ◌+◌, Bool, true, false, eqb, List, [], ◌∷◌, ◌++◌, map, get_or, Some, option_map, slice_get, inl, inr, refl, ap, ap₂, sym, ◌∙◌, subst, eq-eqb, eqb-true, ne_eqb}
use Rattle.std.specs.Prelude.{Contains, if◌then◌else◌, ◌==◌}
use Rattle.std.proofs.Math.Path.{fun_ext}
use Rattle.std.proofs.lemmas.Option.{slice_get-map, get_or_from_slice_get}
use Rattle.wh_types.specs.Ty.{Ty, sort, ◌⇒◌, arguments, result_sort, SortsBelow}
use Rattle.wh_terms.specs.Tree.{Tm, bound, free, fun, meta, lam, app, Tms, none, more, tms_of, spine}
use Rattle.wh_terms.specs.Substitution.{up, up_free, act, acts, cons, opened}
use Rattle.wh_terms.specs.Sight.{Occurs}
use Rattle.wh_terms.specs.Pattern.{AllBoundBelow, Misses, Distinct, IsPatternUnder, IsPatternSpine}
use Rattle.wh_terms.specs.Typing.{Symbols, Declared, Typed, typed_bound, typed_fun, typed_meta, typed_lam, AllTyped, typed_more}
use Rattle.wh_terms.specs.TypedBodies.{FitsDeclared, TypedBodies}
use Rattle.wh_terms.specs.StepOver.{StepOver, over_beta}
use Rattle.wh_terms.specs.Rules.{RewriteRule, IsWellMade, AreWellMade}
use Rattle.wh_terms.specs.Value.{Body, Value, parameters}
use Rattle.wh_terms.proofs.SightLaws.{act_shut-id}
use Rattle.wh_terms.proofs.TypingLaws.{some_one, typed_one, typed_loose}
use Rattle.wh_terms.proofs.ValueForm.{value, FitsBodies}
use Rattle.wh_terms.proofs.ValueLaws.{value_is}
use Rattle.wh_terms.proofs.ValueSight.{bound_values}
use Rattle.wh_terms.proofs.ValueTyping.{spine_bodies, typed_count, typed-value, headed_spine}
use Rattle.wh_step.specs.Step.{Step}
use Rattle.wh_step.proofs.Instances.{Instance, spine_left}
use Rattle.wh_step_laws.specs.Ranks.{rank_of, PlaceHas, IsAccessible}
use Rattle.wh_step_laws.specs.RootRelations.{IsRoot, KnowsSorts}
use Rattle.wh_step_laws.specs.Computable.{Computable, ComputableList}
use Rattle.wh_step_laws.proofs.Candidates.{head-spine, candidate_free}
use Rattle.wh_step_laws.proofs.Fundamental.{candidate, computable-takes, KnownTypes, known_more, PutsComputable}
use Rattle.wh_step_laws.proofs.Spines.{spine-append, spine_one}
use Rattle.wh_step_laws.proofs.SameSteps.{computable-raw, raw-computable}
use Rattle.wh_step_laws.proofs.SystemComputable.{computable-typed, computable-accessible}
use Rattle.wh_step_laws.proofs.SystemSteps.{instances_root}
use Rattle.wh_system.specs.Systems.{SystemData}
use Rattle.wh_system.specs.WellMade.{IsWellMadeSystem}
use Rattle.wh_access.specs.Passing.{IsPassing}
use Rattle.wh_access.proofs.FindLemmas.{sorts_known}
use Rattle.wh_pairs.specs.Spines.{spine_arguments}
use Rattle.wh_proof_calls.specs.Bodies.{IsComputableBody}
use Rattle.wh_proof_calls.proofs.Puts.{inst}
use Rattle.wh_order_extended.specs.Kinds.{arrows}
use Rattle.wh_proof_calls.proofs.SpineLaws.{symbol-spine, value-symbol_spine, inst-symbol_spine}
use Rattle.wh_order_extended.proofs.TypeLists.{arguments-arrows, known_after, typed_spine-arguments}
use Rattle.wh_proof_calls.proofs.WholeBodies.{ShutBodies, inst-lam, inst-opened, inst-meta, declared_shut, typed_shut}
use Rattle.wh_proof_calls.proofs.Ways.{slice_get-front, Way, way_here, way_under, way_through, left_way}

-- the tree u for the loose variable x, and σ for the others
put : (ℕ → Tm) → ℕ → Tm → ℕ → Tm
put σ x u y = if y == x then u else σ y

put_here : (σ : ℕ → Tm) (x : ℕ) (u : Tm) → put σ x u x ≡ u
unfolding put
put_here σ x u = ap (λ b. if b then u else σ x) (eq-eqb x x refl)

put_away : (σ : ℕ → Tm) (x : ℕ) (u : Tm) (y : ℕ) → x ≢ y → put σ x u y ≡ σ y
unfolding put
put_away σ x u y n = ap (λ b. if b then u else σ y) (ne_eqb y x (λ e. n (sym e)))

acts_away : (k : ℕ) (σ : ℕ → Tm) (x : ℕ) (u : Tm) (ts : Tms) → AllBoundBelow k ts → Misses x ts → acts (put σ x u) free ts ≡ acts σ free ts
unfolding acts act
acts_away k σ x u none b m = refl
acts_away k σ x u (more (bound y) ts) b m = ap₂ more (put_away σ x u y m.0) (acts_away k σ x u ts b.1 m.1)
acts_away k σ x u (more (free y a) ts) b m = absurd b
acts_away k σ x u (more (fun f) ts) b m = absurd b
acts_away k σ x u (more (meta z us) ts) b m = absurd b
acts_away k σ x u (more (lam a t) ts) b m = absurd b
acts_away k σ x u (more (app t v) ts) b m = absurd b

put_computable : (S : Symbols) (rank : ℕ → ℕ) (R : Tm → Tm → Type 0) (Γ : List Ty) (σ : ℕ → Tm) (x : ℕ) (u : Tm) (a : Ty) → slice_get Γ x ≡ Some a
    → Computable S rank R a u → PutsComputable S rank R Γ σ → PutsComputable S rank R Γ (put σ x u)
unfolding put
put_computable S rank R Γ σ x u a e c h i b q = go (eqb i x) refl
  where
    go : (t : Bool) → eqb i x ≡ t → Computable S rank R b (if t then u else σ i)
    go true d = subst (λ b. Computable S rank R b u) (some_one (sym e ∙ ap (slice_get Γ) (sym (eqb-true i x d)) ∙ q)) c
    go false d = h i b q

-- some substitution gives distinct bound variables the terms of a computable list
matched : (S : Symbols) (M : List Declared) (R : Tm → Tm → Type 0) (rank : ℕ → ℕ) (Γ : List Ty) (k : ℕ) (ts : Tms) (cs : List Ty) (us : List Tm) (σ : ℕ → Tm)
    → AllBoundBelow k ts → Distinct ts → AllTyped S M Γ ts cs → ComputableList S rank R cs us → PutsComputable S rank R Γ σ
    → (τ : ℕ → Tm) × PutsComputable S rank R Γ τ × (acts τ free ts ≡ tms_of us)
unfolding acts act
matched S M R rank Γ k none [] [] σ b d p c h = (σ, h, refl)
matched S M R rank Γ k none [] (u ∷ us) σ b d p c h = absurd c
matched S M R rank Γ k none (a ∷ cs) us σ b d p c h = elim p [ ]
matched S M R rank Γ k (more t ts) [] us σ b d p c h = elim p [ ]
matched S M R rank Γ k (more t ts) (a ∷ cs) [] σ b d p c h = absurd c
matched S M R rank Γ k (more (bound x) ts) (a ∷ cs) (u ∷ us) σ b d (typed_more (typed_bound e) ps) c h =
    let (τ, g, q) = matched S M R rank Γ k ts cs us σ b.1 d.1 ps c.2 h in
    (put τ x u, put_computable S rank R Γ τ x u a e c.1 g, ap₂ more (put_here τ x u) (acts_away k τ x u ts b.1 d.0 ∙ q))
matched S M R rank Γ k (more (free y f) ts) (a ∷ cs) (u ∷ us) σ b d p c h = absurd b
matched S M R rank Γ k (more (fun f) ts) (a ∷ cs) (u ∷ us) σ b d p c h = absurd b
matched S M R rank Γ k (more (meta z vs) ts) (a ∷ cs) (u ∷ us) σ b d p c h = absurd b
matched S M R rank Γ k (more (lam f t) ts) (a ∷ cs) (u ∷ us) σ b d p c h = absurd b
matched S M R rank Γ k (more (app t v) ts) (a ∷ cs) (u ∷ us) σ b d p c h = absurd b

-- variables of the types Γ, for the loose ones
variables : List Ty → ℕ → Tm
variables Γ i = free 0 (get_or Γ i (sort 0))

variables_computable : {S : Symbols} {R : Tm → Tm → Type 0} → IsRoot S R → (rank : ℕ → ℕ) (Γ : List Ty) → KnownTypes S Γ
    → PutsComputable S rank (StepOver R) Γ (variables Γ)
unfolding variables
variables_computable {S = S} {R = R} root rank Γ known i a e =
    subst (λ b. Computable S rank (StepOver R) a (free 0 b)) (sym (get_or_from_slice_get Γ i a (sort 0) e))
    (candidate_free root (candidate root rank a (known i a e)) (known i a e) 0)

-- what the value of a meta-variable with distinct bound variables takes
here_computable : {S : Symbols} {R : Tm → Tm → Type 0} {M : List Declared} → IsRoot S R
    → (rank : ℕ → ℕ) (Γ : List Ty) (g : ℕ → Body) (k z : ℕ) (ts : Tms) (d : Declared) → FitsDeclared S [] [] d (g z) → AllBoundBelow k ts
    → Distinct ts → AllTyped S M Γ ts d.args → KnownTypes S Γ
    → ((σ : ℕ → Tm) → PutsComputable S rank (StepOver R) Γ σ → Computable S rank (StepOver R) d.out (inst g σ (meta z ts)))
    → IsComputableBody S rank (StepOver R) d (g z)
here_computable {S = S} {R = R} {M = M} root rank Γ g k z ts d fits b distinct ps known h = record {
  fits = fits;
  takes = λ us c.
      let (τ, puts, e) = matched S M (StepOver R) rank Γ k ts d.args us (variables Γ) b distinct ps c (variables_computable root rank Γ known) in
      let same : inst g τ (meta z ts) ≡ act (parameters (tms_of us) bound) free (g z).tree =
      inst-meta g τ z ts (declared_shut (g z) fits) (fits.counted ∙ sym (typed_count ps))
      ∙ ap (λ vs. act (parameters vs bound) free (g z).tree) (ap (acts τ free) (bound_values k g ts b) ∙ e) in
      subst (Computable S rank (StepOver R) d.out) same (h τ puts);
}

cons_whole : (σ : ℕ → Tm) (i : ℕ) → cons (σ 0) (λ j. σ (suc j)) i ≡ σ i
unfolding cons
cons_whole σ zero = refl
cons_whole σ (suc i) = refl

-- the body of an abstraction, where the abstraction is computable
under_computable : {S : Symbols} {R : Tm → Tm → Type 0} → IsRoot S R → (rank : ℕ → ℕ) (Γ : List Ty) (g : ℕ → Body) (a b : Ty) (t : Tm)
    → SortsBelow S.sorts b → ShutBodies g t
    → ((σ : ℕ → Tm) → PutsComputable S rank (StepOver R) Γ σ → Computable S rank (StepOver R) (a ⇒ b) (inst g σ (lam a t))) → (σ : ℕ → Tm)
    → PutsComputable S rank (StepOver R) (a ∷ Γ) σ → Computable S rank (StepOver R) b (inst g σ t)
under_computable {S = S} {R = R} root rank Γ g a b t known shut h σ puts =
    let τ : ℕ → Tm = λ i. σ (suc i) in
    let body : Tm = act (up τ) (up_free free) (value g t) in
    let whole : Computable S rank (StepOver R) (a ⇒ b) (lam a body) =
    subst (Computable S rank (StepOver R) (a ⇒ b)) (inst-lam g τ a t shut) (h τ (λ i c e. puts (suc i) c e)) in
    let applied : Computable S rank (StepOver R) b (app (lam a body) (σ 0)) =
    (computable-takes S rank (StepOver R) a b (lam a body) whole).1 (σ 0) (puts 0 a refl) in
    let stepped : Computable S rank (StepOver R) b (opened (σ 0) body) =
    (candidate root rank b known).step (app (lam a body) (σ 0)) (opened (σ 0) body) applied (over_beta refl) in
    subst (Computable S rank (StepOver R) b) (inst-opened (σ 0) g τ t ∙ ap (λ τ. inst g τ t) (fun_ext (cons_whole σ))) stepped

-- with variables for the arguments that are missing, a computable term is one of a sort
filled : {S : Symbols} {R : Tm → Tm → Type 0} → IsRoot S R → (rank : ℕ → ℕ) (a : Ty) (t : Tm) → SortsBelow S.sorts a
    → Computable S rank (StepOver R) a t → (vs : List Tm) × Computable S rank (StepOver R) (sort (result_sort a)) (spine t vs)
filled root rank (sort s) t known c = ([], c)
filled {S = S} {R = R} root rank (a ⇒ b) t known c =
    let variable : Computable S rank (StepOver R) a (free 0 a) = candidate_free root (candidate root rank a known.0) known.0 0 in
    let (vs, d) = filled root rank b (app t (free 0 a)) known.1 ((computable-takes S rank (StepOver R) a b t c).1 (free 0 a) variable) in
    (free 0 a ∷ vs, d)

fun_type : {S : Symbols} {M : List Declared} {Γ : List Ty} {a : Ty} (f : ℕ) → Typed S M Γ (fun f) a → slice_get S.funs f ≡ Some a
fun_type f (typed_fun e) = e

-- the argument at an accessible place, where the symbol with some arguments is computable
argument_computable : {S : Symbols} {R : Tm → Tm → Type 0} → IsRoot S R → (rank : ℕ → ℕ) → KnowsSorts S
    → (f i : ℕ) (cs : List Ty) (a c : Ty) (us : List Tm) (u : Tm) → slice_get S.funs f ≡ Some (arrows cs a) → slice_get cs i ≡ Some c
    → slice_get us i ≡ Some u → IsAccessible S rank f i → Computable S rank (StepOver R) a (spine (fun f) us) → Computable S rank (StepOver R) c u
argument_computable {S = S} {R = R} root rank known f i cs a c us u e there at accessible computable =
    let (vs, full) = filled root rank a (spine (fun f) us) (known_after S.sorts cs a (known f (arrows cs a) e)) computable in
    let place : PlaceHas S f i c = (arrows cs a, e, ap (λ l. slice_get l i) (arguments-arrows cs a) ∙ slice_get-front cs (arguments a) i c there) in
    computable-accessible S rank (StepOver R) (result_sort a) f i c (us ++ vs) u
    (subst (Computable S rank (StepOver R) (sort (result_sort a))) (sym (spine-append (fun f) us vs)) full) accessible place
    (slice_get-front us vs i u at)

-- the arguments of a pattern are patterns
front_pattern : (k : ℕ) (h : Tm) (ts : List Tm) → IsPatternSpine k (spine h ts) → IsPatternSpine k h
front_pattern k h [] s = s
front_pattern k h (t ∷ ts) s = (front_pattern k (app h t) ts s).0

argument_pattern : (k : ℕ) (h : Tm) (ts : List Tm) (i : ℕ) (p : Tm) → IsPatternSpine k (spine h ts) → slice_get ts i ≡ Some p → IsPatternUnder k p
argument_pattern k h [] i p s e = absurd (cc)
argument_pattern k h (t ∷ ts) zero p s e = subst (IsPatternUnder k) (some_one e) (front_pattern k (app h t) ts s).1
argument_pattern k h (t ∷ ts) (suc i) p s e = argument_pattern k (app h t) ts i p s e

-- what occurs in an argument occurs in the spine
front_occurs : (z : ℕ) (h : Tm) (ts : List Tm) → Occurs z h → Occurs z (spine h ts)
front_occurs z h [] o = o
front_occurs z h (t ∷ ts) o = front_occurs z (app h t) ts (inl o)

pub argument_occurs : (z : ℕ) (h : Tm) (ts : List Tm) (i : ℕ) (p : Tm) → slice_get ts i ≡ Some p → Occurs z p → Occurs z (spine h ts)
argument_occurs z h [] i p e o = absurd (cc)
argument_occurs z h (t ∷ ts) zero p e o = front_occurs z (app h t) ts (inr (subst (Occurs z) (sym (some_one e)) o))
argument_occurs z h (t ∷ ts) (suc i) p e o = argument_occurs z (app h t) ts i p e o

pub argument_typed : {S : Symbols} {M : List Declared} {Γ : List Ty} (ts : List Tm) (cs : List Ty) (i : ℕ) (p : Tm) → AllTyped S M Γ (tms_of ts) cs
    → slice_get ts i ≡ Some p → (c : Ty) × (slice_get cs i ≡ Some c) × Typed S M Γ p c
argument_typed [] cs i p ps e = absurd (cc)
argument_typed (t ∷ ts) [] i p ps e = elim ps [ ]
argument_typed {S = S} {M = M} {Γ = Γ} (t ∷ ts) (c ∷ cs) zero p (typed_more q qs) e = (c, refl, subst (λ t. Typed S M Γ t c) (some_one e) q)
argument_typed (t ∷ ts) (c ∷ cs) (suc i) p (typed_more q qs) e = argument_typed ts cs i p qs e

-- what stands at the end of a way through a computable instance of a pattern is computable
pub read_computable : {S : Symbols} {R : Tm → Tm → Type 0} {M : List Declared} {rank : ℕ → ℕ} {z : ℕ} {p : Tm} {Γ : List Ty} {a : Ty} → IsRoot S R
    → KnowsSorts S → (g : ℕ → Body) (k : ℕ) (d : Declared) → slice_get M z ≡ Some d → FitsDeclared S [] [] d (g z) → Way S rank z p → Typed S M Γ p a
    → IsPatternUnder k p → KnownTypes S Γ → SortsBelow S.sorts a → ShutBodies g p
    → ((σ : ℕ → Tm) → PutsComputable S rank (StepOver R) Γ σ → Computable S rank (StepOver R) a (inst g σ p))
    → IsComputableBody S rank (StepOver R) d (g z)
read_computable {S = S} {R = R} {M = M} {rank = rank} {z = z} {Γ = Γ} root known g k d e fits (way_here {ts = ts}) (typed_meta {d = c} q ps o) s types below shut h =
    let same : c ≡ d = some_one (sym q ∙ e) in
    here_computable root rank Γ g k z ts d fits s.0 s.1 (subst (λ d. AllTyped S M Γ ts d.args) same ps) types
    (λ σ puts. subst (λ b. Computable S rank (StepOver R) b (inst g σ (meta z ts))) (o ∙ ap (λ d. d.out) same) (h σ puts))
read_computable {S = S} {R = R} {rank = rank} {z = z} {Γ = Γ} root known g k d e fits (way_under {t = t} w) (typed_lam {a = a} {b = b} r p) s types below shut h =
    read_computable root known g (k + 1) d e fits w p s (known_more S Γ a r types) below.1 shut (under_computable root rank Γ g a b t below.1 shut h)
read_computable {S = S} {R = R} {M = M} {rank = rank} {z = z} {Γ = Γ} {a = a} root known g k d e fits (way_through {t = t} {u = u} f i ts same at accessible w) p s types below shut h =
    let (cs, q, qs) = typed_spine-arguments (fun f) ts (subst (λ t. Typed S M Γ t a) same p) in
    let (c, there, typed) = argument_typed ts cs i u qs at in
    let pattern : IsPatternSpine k (spine (fun f) ts) = headed_spine k f (spine (fun f) ts) (subst (IsPatternUnder k) same s) (head-spine (fun f) ts) in
    read_computable root known g k d e fits w typed (argument_pattern k (fun f) ts i u pattern at) types
    (known_argument cs i c (known f (arrows cs a) (fun_type f q)) there)
    (λ y o. shut y (subst (Occurs y) (sym same) (argument_occurs y (fun f) ts i u at o)))
    (λ σ puts. argument_computable root rank known f i cs a c (map (inst g σ) ts) (inst g σ u) (fun_type f q) there
    (slice_get-map (inst g σ) ts i ∙ ap (option_map (inst g σ)) at) accessible
    (subst (Computable S rank (StepOver R) a) (ap (inst g σ) same ∙ inst-symbol_spine g σ f ts) (h σ puts)))
  where
    known_argument : (cs : List Ty) (i : ℕ) (c : Ty) → SortsBelow S.sorts (arrows cs a) → slice_get cs i ≡ Some c → SortsBelow S.sorts c
    known_argument [] i c b q = absurd (cc)
    known_argument (b ∷ cs) zero c l q = subst (SortsBelow S.sorts) (some_one q) l.0
    known_argument (b ∷ cs) (suc i) c l q = known_argument cs i c l.1 q

list_member : (S : Symbols) (rank : ℕ → ℕ) (R : Tm → Tm → Type 0) (cs : List Ty) (ts : List Tm) (i : ℕ) (u : Tm) → ComputableList S rank R cs ts
    → slice_get ts i ≡ Some u → (c : Ty) × SortsBelow S.sorts c × Computable S rank R c u
list_member S rank R cs [] i u h e = absurd (cc)
list_member S rank R [] (t ∷ ts) i u h e = absurd h
list_member S rank R (c ∷ cs) (t ∷ ts) zero u h e = (c, h.0, subst (Computable S rank R c) (some_one e) h.1)
list_member S rank R (c ∷ cs) (t ∷ ts) (suc i) u h e = list_member S rank R cs ts i u h.2 e

-- where the rules pass under the ranks, and the arguments of a left side have computable values, the bodies of the
-- meta-variables of the right side are computable
pub bodies_computable : (d : SystemData) → IsWellMadeSystem d → (ranks : List ℕ) → IsPassing d ranks → (r : RewriteRule) → Contains d.rules r
    → (g : ℕ → Body) → FitsBodies g r.left → TypedBodies d.symbols r.metas [] [] g r.left → (cs : List Ty)
    → ComputableList d.symbols (rank_of ranks) (StepOver (Instance d.rules)) cs (map (value g) (spine_arguments r.left)) → (z : ℕ) (q : Declared)
    → Occurs z r.right → slice_get r.metas z ≡ Some q → IsComputableBody d.symbols (rank_of ranks) (StepOver (Instance d.rules)) q (g z)
bodies_computable d made ranks passing r listed g fits bodies cs computable z q occurs declared =
    let S : Symbols = d.symbols in
    let m : IsWellMade S r = made.rules.each r listed in
    let (way, read, all) = passing r listed z occurs in
    let w = left_way S (rank_of ranks) z 0 r.left way (spine_left S r m) read all in
    let whole : spine (fun m.headed.0) (spine_arguments r.left) ≡ r.left = symbol-spine m.headed.0 r.left m.headed.1 in
    let (kinds, p, ps) = typed_spine-arguments (fun m.headed.0) (spine_arguments r.left) (subst (λ t. Typed S r.metas [] t m.typed.0) (sym whole) m.typed.1) in
    let (a, at, typed) = argument_typed (spine_arguments r.left) kinds w.place w.argument ps w.there in
    let typed_bodies : TypedBodies S r.metas [] [] g w.argument =
    λ y b o e. bodies y b (subst (Occurs y) whole (argument_occurs y (fun m.headed.0) (spine_arguments r.left) w.place w.argument w.there o)) e in
    let (c, known, here) =
    list_member S (rank_of ranks) (StepOver (Instance d.rules)) cs (map (value g) (spine_arguments r.left)) w.place (value g w.argument) computable
    (slice_get-map (value g) (spine_arguments r.left) w.place ∙ ap (option_map (value g)) w.there) in
    let value_typed : Typed S [] [] (value g w.argument) c = computable-typed S (rank_of ranks) (StepOver (Instance d.rules)) c (value g w.argument) here in
    let same : a ≡ c = typed_one (typed-value g typed typed_bodies) value_typed in
    read_computable (instances_root S d.rules made.rules) (sorts_known d made) g 0 q declared (bodies z q (m.known z occurs) declared) w.way
    (subst (Typed S r.metas [] w.argument) same typed) w.pattern
    (λ i b e. absurd (cc)) known (typed_shut g typed typed_bodies)
    (λ σ puts. subst (Computable S (rank_of ranks) (StepOver (Instance d.rules)) c) (sym (act_shut-id σ (value g w.argument) (typed_loose value_typed))) here)

-- the same by the steps of a system

list-raw : {S : Symbols} {rules : List RewriteRule} → AreWellMade S rules → (rank : ℕ → ℕ) (cs : List Ty) (ts : List Tm)
    → ComputableList S rank (Step rules) cs ts → ComputableList S rank (StepOver (Instance rules)) cs ts
list-raw w rank [] [] h = tt
list-raw w rank [] (t ∷ ts) h = absurd h
list-raw w rank (c ∷ cs) [] h = absurd h
list-raw w rank (c ∷ cs) (t ∷ ts) h = (h.0, computable-raw w rank c t h.1, list-raw w rank cs ts h.2)

raw-body : {S : Symbols} {rules : List RewriteRule} → AreWellMade S rules → (rank : ℕ → ℕ) (d : Declared) (b : Body)
    → IsComputableBody S rank (StepOver (Instance rules)) d b → IsComputableBody S rank (Step rules) d b
raw-body w rank d b h = record {
  fits = h.fits;
  takes = λ us c. raw-computable w rank d.out (act (parameters (tms_of us) bound) free b.tree) (h.takes us (list-raw w rank d.args us c));
}

pub arguments_give_bodies : (d : SystemData) (ranks : List ℕ) (r : RewriteRule) (g : ℕ → Body) (f : ℕ) (ts : List Tm) (b : Ty) (cs : List Ty) (z : ℕ) (q : Declared)
    → IsWellMadeSystem d → IsPassing d ranks → Contains d.rules r → Value g r.left (spine (fun f) ts) → Typed d.symbols [] [] (spine (fun f) ts) b
    → ComputableList d.symbols (rank_of ranks) (Step d.rules) cs ts → Occurs z r.right → slice_get r.metas z ≡ Some q
    → IsComputableBody d.symbols (rank_of ranks) (Step d.rules) q (g z)
arguments_give_bodies d ranks r g f ts b cs z q made passing listed v typed computable occurs declared =
    let S : Symbols = d.symbols in
    let m : IsWellMade S r = made.rules.each r listed in
    let (fits, is) = value_is v in
    let (same, bodies) = spine_bodies 0 g r.left (spine_left S r m) fits m.typed.1 (subst (λ t. Typed S [] [] t b) is typed) in
    let (symbols, arguments) = spine_one f m.headed.0 ts (map (value g) (spine_arguments r.left))
    (is ∙ ap (value g) (sym (symbol-spine m.headed.0 r.left m.headed.1)) ∙ value-symbol_spine g m.headed.0 (spine_arguments r.left)) in
    raw-body made.rules (rank_of ranks) q (g z)
    (bodies_computable d made ranks passing r listed g fits bodies cs
    (subst (ComputableList S (rank_of ranks) (StepOver (Instance d.rules)) cs) arguments (list-raw made.rules (rank_of ranks) cs ts computable))
    z q occurs declared)
