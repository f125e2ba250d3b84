-- Computability by the steps of a system: its unfoldings and laws, from those over any relation at the root.
use Rattle.std.proofs.Common.{◌≡◌, ℕ, List, [], Some, slice_get, ap, sym, ◌∙◌, subst}
use Rattle.wh_types.specs.Ty.{Ty, sort, ◌⇒◌, arguments, result_sort, SortsBelow}
use Rattle.wh_terms.specs.Tree.{Tm, free, fun, lam, spine}
use Rattle.wh_terms.specs.Substitution.{opened}
use Rattle.wh_terms.specs.Typing.{Symbols, Typed, typed_fun}
use Rattle.wh_terms.specs.Rules.{RewriteRule, AreWellMade}
use Rattle.wh_terms.proofs.TypingLaws.{some_one, typed_loose, typed_term}
use Rattle.wh_step.specs.Step.{Step}
use Rattle.wh_step.specs.Reduction.{Bounded}
use Rattle.wh_step.proofs.Instances.{Instance}
use Rattle.wh_step.proofs.RawStep.{RawStep, step_raw, raw_step}
use Rattle.wh_step_laws.specs.Ranks.{PlaceHas, IsAccessible, IsAccessibleIn}
use Rattle.wh_step_laws.specs.RootRelations.{KnowsSorts, HeadsNoRule}
use Rattle.wh_step_laws.specs.Neutral.{IsNeutral}
use Rattle.wh_step_laws.specs.Computable.{Computable, IsComputableAtSort, IsComputableAtArrow, ComputableAt, computable_at, ComputableBelow}
use Rattle.wh_step_laws.proofs.RankLaws.{computable-sort}
use Rattle.wh_step_laws.proofs.Candidates.{Candidate, candidate_free}
use Rattle.wh_step_laws.proofs.Fundamental.{candidate, computable-takes, takes-computable, abstraction_computable, typed-known, typed-computable}
use Rattle.wh_step_laws.proofs.Symbols.{accessible_computable, sort_computable, HasNoRoot, still_computable}
use Rattle.wh_step_laws.proofs.Spines.{spine_head_typed}
use Rattle.wh_step_laws.proofs.SystemSteps.{instances_root, instance_headed, raw_ends-bounded}
use Rattle.wh_step_laws.proofs.SameSteps.{computable-raw, raw-computable}

-- at a sort, by any relation
pub sort-unfolded : (S : Symbols) (rank : ℕ → ℕ) (R : Tm → Tm → Type 0) (s : ℕ) (t : Tm) → Computable S rank R (sort s) t → IsComputableAtSort S rank R s t
sort-unfolded S rank R s t c = record {
  typed = typed at;
  reducts = λ u r. subst (λ P. P u) (sym (computable-sort S rank R s)) (next at u r);
  accessible = λ f i a ts u e place acc at. accessible_computable S rank R s f i a ts u (subst (Computable S rank R (sort s)) e c) place acc at;
}
  where
    at : ComputableAt S rank R (ComputableBelow S rank R (rank s)) s t
    at = subst (λ P. P t) (computable-sort S rank R s) c

    typed : ComputableAt S rank R (ComputableBelow S rank R (rank s)) s t → Typed S [] [] t (sort s)
    typed (computable_at p h k l) = p

    next : ComputableAt S rank R (ComputableBelow S rank R (rank s)) s t → (u : Tm) → R t u → ComputableAt S rank R (ComputableBelow S rank R (rank s)) s u
    next (computable_at p h k l) u r = h u r

pub sort-folded : (S : Symbols) (rank : ℕ → ℕ) (R : Tm → Tm → Type 0) (s : ℕ) (t : Tm) → IsComputableAtSort S rank R s t → Computable S rank R (sort s) t
sort-folded S rank R s t c = sort_computable S rank R s t c.typed c.reducts c.accessible

pub arrow-unfolded : (S : Symbols) (rank : ℕ → ℕ) (R : Tm → Tm → Type 0) (a b : Ty) (t : Tm) → Computable S rank R (a ⇒ b) t → IsComputableAtArrow S rank R a b t
arrow-unfolded S rank R a b t c = let d = computable-takes S rank R a b t c in record { typed = d.0; takes = d.1 }

pub arrow-folded : (S : Symbols) (rank : ℕ → ℕ) (R : Tm → Tm → Type 0) (a b : Ty) (t : Tm) → IsComputableAtArrow S rank R a b t → Computable S rank R (a ⇒ b) t
arrow-folded S rank R a b t c = takes-computable S rank R a b t (c.typed, c.takes)

pub computable-typed : (S : Symbols) (rank : ℕ → ℕ) (R : Tm → Tm → Type 0) (a : Ty) (t : Tm) → Computable S rank R a t → Typed S [] [] t a
computable-typed S rank R (sort s) t c = (sort-unfolded S rank R s t c).typed
computable-typed S rank R (a ⇒ b) t c = (arrow-unfolded S rank R a b t c).typed

-- the sorts of the type of a well-typed term are known
pub known_type : {S : Symbols} {t : Tm} {a : Ty} → KnowsSorts S → Typed S [] [] t a → SortsBelow S.sorts a
known_type k p = typed-known k (λ i b e. absurd (cc)) p

raw_candidate : {S : Symbols} {rules : List RewriteRule} → AreWellMade S rules → (rank : ℕ → ℕ) (a : Ty) → SortsBelow S.sorts a → Candidate S (RawStep rules) a (Computable S rank (RawStep rules) a)
raw_candidate {S = S} {rules = rules} w rank a known = candidate (instances_root S rules w) rank a known

pub computable-bounded : {S : Symbols} {rules : List RewriteRule} → AreWellMade S rules → KnowsSorts S → (rank : ℕ → ℕ) (a : Ty) (t : Tm) → Computable S rank (Step rules) a t → Bounded rules t
computable-bounded {S = S} {rules = rules} w k rank a t c =
    let p : Typed S [] [] t a = computable-typed S rank (Step rules) a t c in
    raw_ends-bounded w t (typed_loose p, typed_term t p) ((raw_candidate w rank a (known_type k p)).ends t (computable-raw w rank a t c))

pub computable-step : {S : Symbols} {rules : List RewriteRule} → AreWellMade S rules → KnowsSorts S → (rank : ℕ → ℕ) (a : Ty) (t u : Tm) → Computable S rank (Step rules) a t → Step rules t u → Computable S rank (Step rules) a u
computable-step {S = S} {rules = rules} w k rank a t u c s =
    let p : Typed S [] [] t a = computable-typed S rank (Step rules) a t c in
    raw-computable w rank a u ((raw_candidate w rank a (known_type k p)).step t u (computable-raw w rank a t c) (step_raw S w s))

pub computable-free : {S : Symbols} {rules : List RewriteRule} → AreWellMade S rules → (rank : ℕ → ℕ) (x : ℕ) (a : Ty) → SortsBelow S.sorts a → Computable S rank (Step rules) a (free x a)
computable-free {S = S} {rules = rules} w rank x a known = raw-computable w rank a (free x a) (candidate_free (instances_root S rules w) (raw_candidate w rank a known) known x)

pub computable-neutral : {S : Symbols} {rules : List RewriteRule} → AreWellMade S rules → KnowsSorts S → (rank : ℕ → ℕ) (a : Ty) (t : Tm) → Typed S [] [] t a → IsNeutral t
    → ((u : Tm) → Step rules t u → Computable S rank (Step rules) a u) → Computable S rank (Step rules) a t
computable-neutral {S = S} {rules = rules} w k rank a t p n h =
    raw-computable w rank a t ((raw_candidate w rank a (known_type k p)).neutral t p n (λ u s. computable-raw w rank a u (h u (raw_step S w s (typed_loose p) (typed_term t p)))))

pub computable-abstraction : {S : Symbols} {rules : List RewriteRule} → AreWellMade S rules → KnowsSorts S → (rank : ℕ → ℕ) (a b : Ty) (t : Tm) → Typed S [] [] (lam a t) (a ⇒ b)
    → ((u : Tm) → Computable S rank (Step rules) a u → Computable S rank (Step rules) b (opened u t)) → Computable S rank (Step rules) (a ⇒ b) (lam a t)
computable-abstraction {S = S} {rules = rules} w k rank a b t p h =
    let known : SortsBelow S.sorts (a ⇒ b) = known_type k p in
    raw-computable w rank (a ⇒ b) (lam a t) (abstraction_computable (instances_root S rules w) rank a b known.0 known.1 t p
    (λ u c. computable-raw w rank b (opened u t) (h u (raw-computable w rank a u c))))

pub computable-symbol : {S : Symbols} {rules : List RewriteRule} → AreWellMade S rules → KnowsSorts S → (rank : ℕ → ℕ) (f : ℕ) (a : Ty) → slice_get S.funs f ≡ Some a
    → HeadsNoRule rules f → Computable S rank (Step rules) a (fun f)
computable-symbol {S = S} {rules = rules} w k rank f a e none =
    raw-computable w rank a (fun f) (still_computable (instances_root S rules w) rank k f a e no_root)
  where
    no_root : HasNoRoot (Instance rules) f
    no_root t u i d = let h = instance_headed S rules w t u i in none h.rule h.listed (h.left ∙ sym h.here ∙ d)

-- the places of a symbol in a computable term of a sort are accessible in that sort
pub computable-accessible : (S : Symbols) (rank : ℕ → ℕ) (R : Tm → Tm → Type 0) (s f i : ℕ) (a : Ty) (ts : List Tm) (u : Tm) → Computable S rank R (sort s) (spine (fun f) ts) → IsAccessible S rank f i
    → PlaceHas S f i a → slice_get ts i ≡ Some u → Computable S rank R a u
computable-accessible S rank R s f i a ts u c (d, b, e, o, acc) (b', e', o') at =
    let (g, q, r) = spine_head_typed (fun f) ts (computable-typed S rank R (sort s) (spine (fun f) ts) c) in
    let one : b ≡ b' = some_one (sym e ∙ e') in
    let same : d ≡ a = some_one (sym o ∙ ap (λ b. slice_get (arguments b) i) one ∙ o') in
    let sorted : result_sort b ≡ s = result q r in
    accessible_computable S rank R s f i a ts u c (b', e', o') (subst (λ s. IsAccessibleIn rank s a) sorted (subst (IsAccessibleIn rank (result_sort b)) same acc)) at
  where
    result : {g : Ty} → Typed S [] [] (fun f) g → result_sort g ≡ s → result_sort b ≡ s
    result (typed_fun q) r = ap result_sort (some_one (sym e ∙ q)) ∙ r

pub typed-system_computable : {S : Symbols} {rules : List RewriteRule} → AreWellMade S rules → KnowsSorts S → (rank : ℕ → ℕ) (a : Ty) (t : Tm)
    → ((f : ℕ) (b : Ty) → slice_get S.funs f ≡ Some b → Computable S rank (Step rules) b (fun f)) → Typed S [] [] t a → Computable S rank (Step rules) a t
typed-system_computable {S = S} {rules = rules} w k rank a t h p =
    raw-computable w rank a t (typed-computable (instances_root S rules w) rank k (λ f b e. computable-raw w rank b (fun f) (h f b e)) p)
