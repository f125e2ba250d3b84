-- Each call of a rule's right side is served by a pair: by the one that subsumes its candidate.
use Rattle.std.proofs.Common.{◌≡◌, ℕ, zero, suc, ◌+◌, ◌-◌, ◌<◌, ◌≤◌, List, [], ◌∷◌, ◌++◌, length, map, take, reverse, Some, slice_get, Contains, ◌⊎◌, inl, inr, refl, ap, ap₂, sym, ◌∙◌, subst, subst₂, arith, append_assoc, append-nil}
use Rattle.std.proofs.lemmas.Bool.{cases_lt}
use Rattle.std.proofs.lemmas.List.{take-map}
use Rattle.std.proofs.lemmas.List.Elements.{Contains-append_cases, Contains-append_left, Contains-append_right}
use Rattle.std.proofs.lemmas.Option.{slice_get_read, slice_get_within}
use Rattle.wh_terms.specs.Tree.{Tm, bound, free, fun, meta, lam, app, head, tms_of}
use Rattle.wh_terms.specs.Substitution.{act}
use Rattle.wh_terms.specs.Sight.{Occurs, OccursIn}
use Rattle.wh_terms.specs.Typing.{Symbols, Declared, AllTyped}
use Rattle.wh_terms.specs.Value.{Body, Values, of_none, of_more}
use Rattle.wh_terms.specs.TypedBodies.{FitsDeclared, TypedBodies}
use Rattle.wh_terms.specs.Rules.{RewriteRule, IsWellMade}
use Rattle.wh_terms.proofs.TypingLaws.{some_one}
use Rattle.wh_terms.proofs.ValueForm.{value, FitsArities, AllFitArities, FitsBodies}
use Rattle.wh_terms.proofs.ValueLaws.{values_are}
use Rattle.wh_pairs.specs.PairData.{PairData}
use Rattle.wh_system.specs.Systems.{SystemData}
use Rattle.wh_system.specs.WellMade.{IsWellMadeSystem}
use Rattle.wh_pairs.specs.Spines.{spine_arguments, symbol_of}
use Rattle.wh_pairs.specs.Calls.{Call, calls_of}
use Rattle.wh_pairs.specs.Candidates.{nullary, freed, numbered_from, missing_types, candidate, candidates_from, candidates}
use Rattle.wh_pairs.specs.Subsumption.{IsSubsumed, ArePairs}
use Rattle.wh_pairs.specs.Survivors.{IsSubsumedByOne, Survive}
use Rattle.wh_pairs.proofs.MemberLemmas.{none_there, at_head, behind, head_or_behind, image_there}
use Rattle.wh_pairs.proofs.SubsumptionLaws.{one_list, left-member, Thinned, thin_none, thin_out, thin_keep, survive_none, survive_dropped, survive_kept}
use Rattle.wh_pairs.proofs.Decisions.{decided-subsumed}
use Rattle.wh_proof_calls.specs.MarkedCalls.{MarkedCall, AreTypedBodies}
use Rattle.wh_proof_calls.specs.Sides.{IsLedByCall, IsLedByPair}
use Rattle.wh_proof_calls.proofs.Puts.{inst}
use Rattle.wh_proof_calls.proofs.WholeBodies.{typed_fits, occurs_known}
use Rattle.wh_proof_calls.proofs.MetaSubstitution.{occurs-act-back}
use Rattle.wh_proof_calls.proofs.RightSides.{values-list, instances}
use Rattle.wh_proof_calls.proofs.CandidateValues.{IsTypedIn, rule_call, beside, beside-low, outermost, outermost-typed, PutsTyped, beside_fits, slice_get-front, freed_high, argument_values, lacking_values, left_values}

-- candidates and calls

-- the pair is the candidate of a call in the rule that it names
pub record IsOfCall (S : Symbols) (rules : List RewriteRule) (p : PairData) : Type 0 where
  pub rule : RewriteRule
  pub call : Call
  pub listed : slice_get rules p.rule ≡ Some rule
  pub called : Contains (calls_of rules rule) call
  pub is : p ≡ candidate S p.rule rule call

map_member : {A B : Type 0} (f : A → B) (xs : List A) (y : B) → Contains (map f xs) y → (x : A) × Contains xs x × (f x ≡ y)
map_member f [] y at = absurd (none_there y at)
map_member {A = A} f (x ∷ xs) y at = go (map_member f xs y) (head_or_behind (map f xs) (f x) y at)
  where
    go : (Contains (map f xs) y → (z : A) × Contains xs z × (f z ≡ y)) → (f x ≡ y) ⊎ Contains (map f xs) y
        → (z : A) × Contains (x ∷ xs) z × (f z ≡ y)
    go later (inl e) = (x, at_head xs x, e)
    go later (inr at) = let (z, there, e) = later at in (z, behind xs x z there, e)

-- in a list of rules whose first one has the number k
abbrev ComesFrom : Symbols → List RewriteRule → ℕ → List RewriteRule → PairData → Type 0
ComesFrom S rules k rest p =
    (j : ℕ) × (r : RewriteRule) × (c : Call) × (slice_get rest j ≡ Some r) × Contains (calls_of rules r) c × (candidate S (k + j) r c ≡ p)

comes_from : (S : Symbols) (rules : List RewriteRule) (k : ℕ) (rest : List RewriteRule) (p : PairData)
    → Contains (candidates_from S rules k rest) p → ComesFrom S rules k rest p
comes_from S rules k [] p at = absurd (none_there p at)
comes_from S rules k (r ∷ rest) p at =
    go (comes_from S rules (k + 1) rest p)
    (Contains-append_cases (map (candidate S k r) (calls_of rules r)) (candidates_from S rules (k + 1) rest) p at)
  where
    go : (Contains (candidates_from S rules (k + 1) rest) p → ComesFrom S rules (k + 1) rest p)
        → Contains (map (candidate S k r) (calls_of rules r)) p ⊎ Contains (candidates_from S rules (k + 1) rest) p
        → ComesFrom S rules k (r ∷ rest) p
    go later (inl here) =
        let (c, there, e) = map_member (candidate S k r) (calls_of rules r) p here in
        let same : k + 0 ≡ k = omega arith in
        (0, r, c, refl, there, ap (λ n. candidate S n r c) same ∙ e)
    go later (inr there) =
        let (j, s, c, at, called, e) = later there in
        let same : k + suc j ≡ (k + 1) + j = omega arith in
        (suc j, s, c, at, called, ap (λ n. candidate S n s c) same ∙ e)

pub candidate_of_call : (S : Symbols) (rules : List RewriteRule) (p : PairData) → Contains (candidates S rules) p → IsOfCall S rules p
candidate_of_call S rules p at =
    let (j, r, c, there, called, e) = comes_from S rules 0 rules p at in
    let numbered : 0 + j ≡ p.rule = ap (λ q. q.rule) e in
    let zeroth : j ≡ 0 + j = omega arith in
    record {
      rule = r;
      call = c;
      listed = subst (λ n. slice_get rules n ≡ Some r) (zeroth ∙ numbered) there;
      called = called;
      is = sym e ∙ ap (λ n. candidate S n r c) numbered;
    }

candidate_from : (S : Symbols) (rules : List RewriteRule) (k : ℕ) (rest : List RewriteRule) (j : ℕ) (r : RewriteRule) (c : Call)
    → slice_get rest j ≡ Some r → Contains (calls_of rules r) c
    → Contains (candidates_from S rules k rest) (candidate S (k + j) r c)
candidate_from S rules k [] j r c e at = absurd (cc)
candidate_from S rules k (s ∷ rest) zero r c e (i, low, is) =
    let same : k ≡ k + 0 = omega arith in
    let one : s ≡ r = some_one e in
    Contains-append_left (map (candidate S k s) (calls_of rules s)) (candidates_from S rules (k + 1) rest) (candidate S (k + 0) r c)
    (subst₂ (λ t n. Contains (map (candidate S k t) (calls_of rules t)) (candidate S n r c)) (sym one) same
    (image_there (candidate S k r) (calls_of rules r) i c low (sym is)))
candidate_from S rules k (s ∷ rest) (suc j) r c e at =
    let same : (k + 1) + j ≡ k + suc j = omega arith in
    Contains-append_right (map (candidate S k s) (calls_of rules s)) (candidates_from S rules (k + 1) rest) (candidate S (k + suc j) r c)
    (subst (λ n. Contains (candidates_from S rules (k + 1) rest) (candidate S n r c)) same (candidate_from S rules (k + 1) rest j r c e at))

-- each call of a rule has a candidate
pub call_candidate : (S : Symbols) (rules : List RewriteRule) (j : ℕ) (r : RewriteRule) (c : Call) → slice_get rules j ≡ Some r
    → Contains (calls_of rules r) c → Contains (candidates S rules) (candidate S j r c)
call_candidate S rules j r c e at =
    let same : 0 + j ≡ j = omega arith in
    subst (λ n. Contains (candidates S rules) (candidate S n r c)) same (candidate_from S rules 0 rules j r c e at)

-- the pairs cover the candidates

thinned : (c : PairData) (ps : List PairData) → (qs : List PairData) × Thinned c ps qs
thinned c [] = ([], thin_none)
thinned c (p ∷ ps) = go (decided-subsumed p c) (thinned c ps)
  where
    go : IsSubsumed p c ⊎ (IsSubsumed p c → ⊥) → (qs : List PairData) × Thinned c ps qs → (qs : List PairData) × Thinned c (p ∷ ps) qs
    go (inl s) (qs, t) = (qs, thin_out s t)
    go (inr n) (qs, t) = (p ∷ qs, thin_keep n t)

some_subsumes : (c : PairData) (ps : List PairData) → IsSubsumedByOne c ps ⊎ ((p : PairData) → Contains ps p → IsSubsumed c p → ⊥)
some_subsumes c [] = inr (λ p at s. none_there p at)
some_subsumes c (q ∷ ps) = go (decided-subsumed c q) (some_subsumes c ps)
  where
    neither : (IsSubsumed c q → ⊥) → ((p : PairData) → Contains ps p → IsSubsumed c p → ⊥) → (p : PairData) → IsSubsumed c p
        → (q ≡ p) ⊎ Contains ps p → ⊥
    neither here there p s (inl e) = here (subst (IsSubsumed c) (sym e) s)
    neither here there p s (inr at) = there p at s

    go : IsSubsumed c q ⊎ (IsSubsumed c q → ⊥) → IsSubsumedByOne c ps ⊎ ((p : PairData) → Contains ps p → IsSubsumed c p → ⊥)
        → IsSubsumedByOne c (q ∷ ps) ⊎ ((p : PairData) → Contains (q ∷ ps) p → IsSubsumed c p → ⊥)
    go (inl s) later = inl (q, at_head ps q, s)
    go (inr n) (inl (p, at, s)) = inl (p, behind ps q p at, s)
    go (inr n) (inr none) = inr (λ p at s. neither n none p s (head_or_behind ps q p at))

survivors : (earlier rest kept : List PairData) → Survive earlier kept → (ps : List PairData) × Survive (earlier ++ rest) ps
survivors earlier [] kept s = (kept, subst (λ l. Survive l kept) (sym (append-nil earlier)) s)
survivors earlier (c ∷ rest) kept s = go (λ qs t. survivors (earlier ++ c ∷ []) rest qs t) (some_subsumes c kept) (thinned c kept)
  where
    joined : (ps : List PairData) × Survive (earlier ++ c ∷ [] ++ rest) ps → (ps : List PairData) × Survive (earlier ++ c ∷ rest) ps
    joined (ps, t) = (ps, subst (λ l. Survive l ps) (append_assoc earlier (c ∷ []) rest) t)

    go : ((qs : List PairData) → Survive (earlier ++ c ∷ []) qs → (ps : List PairData) × Survive (earlier ++ c ∷ [] ++ rest) ps)
        → IsSubsumedByOne c kept ⊎ ((p : PairData) → Contains kept p → IsSubsumed c p → ⊥) → (thin : List PairData) × Thinned c kept thin
        → (ps : List PairData) × Survive (earlier ++ c ∷ rest) ps
    go again (inl (k, at, t)) (thin, u) = joined (again kept (survive_dropped earlier kept c k s at t))
    go again (inr none) (thin, u) = joined (again (thin ++ c ∷ []) (survive_kept earlier kept thin c s u none))

-- each candidate is subsumed by a pair
pub candidate_covered : (cs ps : List PairData) → ArePairs cs ps → (c : PairData) → Contains cs c → IsSubsumedByOne c ps
candidate_covered cs ps pairs c at =
    let (qs, s) = survivors [] cs [] survive_none in
    subst (IsSubsumedByOne c) (one_list [] cs qs ps s.pairs_left pairs) (s.covered c at)

-- lists of sides

occurs-append : (z : ℕ) (ts us : List Tm) → OccursIn z (tms_of (ts ++ us)) → OccursIn z (tms_of ts) ⊎ OccursIn z (tms_of us)
occurs-append z [] us o = inr o
occurs-append z (t ∷ ts) us (inl o) = inl (inl o)
occurs-append z (t ∷ ts) us (inr o) = go (occurs-append z ts us o)
  where
    go : OccursIn z (tms_of ts) ⊎ OccursIn z (tms_of us) → OccursIn z (tms_of (t ∷ ts)) ⊎ OccursIn z (tms_of us)
    go (inl p) = inl (inr p)
    go (inr p) = inr p

occurs-take : (z n : ℕ) (ts : List Tm) → OccursIn z (tms_of (take n ts)) → OccursIn z (tms_of ts)
occurs-take z zero ts o = absurd o
occurs-take z (suc n) [] o = o
occurs-take z (suc n) (t ∷ ts) (inl o) = inl o
occurs-take z (suc n) (t ∷ ts) (inr o) = inr (occurs-take z n ts o)

occurs-numbered : (z y n : ℕ) → OccursIn z (tms_of (numbered_from y n)) → y ≤ z
occurs-numbered z y zero o = absurd o
occurs-numbered z y (suc n) (inl (inl e)) = omega arith
occurs-numbered z y (suc n) (inl (inr o)) = absurd o
occurs-numbered z y (suc n) (inr o) = omega (arith, occurs-numbered z (y + 1) n o)

occurs-arguments : (z : ℕ) (t : Tm) → OccursIn z (tms_of (spine_arguments t)) → Occurs z t
occurs-arguments z (bound i) o = absurd o
occurs-arguments z (free x a) o = absurd o
occurs-arguments z (fun f) o = absurd o
occurs-arguments z (meta y ts) o = absurd o
occurs-arguments z (lam a t) o = absurd o
occurs-arguments z (app t u) o = go (occurs-arguments z t) (occurs-append z (spine_arguments t) (u ∷ []) o)
  where
    go : (OccursIn z (tms_of (spine_arguments t)) → Occurs z t) → OccursIn z (tms_of (spine_arguments t)) ⊎ (Occurs z u ⊎ ⊥)
        → Occurs z t ⊎ Occurs z u
    go inside (inl p) = inl (inside p)
    go inside (inr (inl p)) = inr p
    go inside (inr (inr p)) = absurd p

fits-append : (n : ℕ → ℕ) (ts us : List Tm) → AllFitArities n (tms_of ts) → AllFitArities n (tms_of us)
    → AllFitArities n (tms_of (ts ++ us))
fits-append n [] us f h = h
fits-append n (t ∷ ts) us f h = (f.0, fits-append n ts us f.1 h)

fits-arguments : (n : ℕ → ℕ) (t : Tm) → FitsArities n t → AllFitArities n (tms_of (spine_arguments t))
fits-arguments n (bound i) f = tt
fits-arguments n (free x a) f = tt
fits-arguments n (fun c) f = tt
fits-arguments n (meta y ts) f = tt
fits-arguments n (lam a t) f = tt
fits-arguments n (app t u) f = fits-append n (spine_arguments t) (u ∷ []) (fits-arguments n t f.0) (f.1, tt)

values-append : {h : ℕ → Body} (ts us vs ws : List Tm) → Values h (tms_of ts) (tms_of vs) → Values h (tms_of us) (tms_of ws)
    → Values h (tms_of (ts ++ us)) (tms_of (vs ++ ws))
values-append [] us [] ws of_none q = q
values-append [] us (v ∷ vs) ws p q = elim p [ ]
values-append (t ∷ ts) us [] ws p q = elim p [ ]
values-append (t ∷ ts) us (v ∷ vs) ws (of_more p ps) q = of_more p (values-append ts us vs ws ps q)

values-take : {h : ℕ → Body} (n : ℕ) (ts vs : List Tm) → Values h (tms_of ts) (tms_of vs)
    → Values h (tms_of (take n ts)) (tms_of (take n vs))
values-take zero ts vs p = of_none
values-take (suc n) [] [] p = of_none
values-take (suc n) [] (v ∷ vs) p = elim p [ ]
values-take (suc n) (t ∷ ts) [] p = elim p [ ]
values-take (suc n) (t ∷ ts) (v ∷ vs) (of_more p ps) = of_more p (values-take n ts vs ps)

-- the law

-- the pair has the call's symbol on the right and that of the rule's left side on the left, and under typed bodies its sides have
-- the values of the left side's arguments and of the call's arguments, with the terms for its binders, and the further terms
abbrev pub ServedBy : Symbols → List PairData → RewriteRule → Call → (ℕ → Body) → (ℕ → Tm) → List Tm → Type 0
ServedBy S ps r c g τ ws =
    (p : PairData) × Contains ps p × (h : ℕ → Body) × AreTypedBodies S p h
    × (p.left_fun ≡ symbol_of (head r.left)) × Values h (tms_of p.left) (tms_of (map (value g) (spine_arguments r.left)))
    × (p.right_fun ≡ c.symbol) × Values h (tms_of p.right) (tms_of (take c.need (map (inst g τ) c.arguments) ++ ws))

module _ (S : Symbols) (r : RewriteRule) (made : IsWellMade S r) (c : Call) (typed_call : IsTypedIn S r.metas (λ z. Occurs z r.right) c)
    (g : ℕ → Body) (bodies : TypedBodies S r.metas [] [] g r.left)
    (τ : ℕ → Tm) (puts : PutsTyped S c.binders τ) (ws : List Tm) (further : AllTyped S [] [] (tms_of ws) (missing_types S c))
    (enough : length ws ≡ c.need - length c.arguments) where
  -- the meta-substitution for the pair
  abbrev H : ℕ → Body
  H = beside (length r.metas) g (outermost c.binders τ ws)

  -- an argument of the call with fresh meta-variables for the binders
  abbrev F : Tm → Tm
  F = act (freed (length r.metas) c.binders) free

  -- fresh meta-variables for the arguments that the call lacks
  abbrev fresh : List Tm
  fresh = numbered_from (length r.metas + length c.binders) (c.need - length c.arguments)

  low : (z : ℕ) → Occurs z r.left → z < length r.metas
  low z o = let (d, e) = occurs_known z made.typed.1 o in slice_get_within r.metas z d e

  left_bodies : TypedBodies S r.metas [] [] H r.left
  left_bodies z d o e =
      subst (FitsDeclared S [] [] d) (sym (beside-low (length r.metas) g (outermost c.binders τ ws) z (low z o))) (bodies z d o e)

  left_have : Values H (tms_of (spine_arguments r.left)) (tms_of (map (value g) (spine_arguments r.left)))
  left_have =
      left_values S r.metas g c.binders τ puts ws (spine_arguments r.left)
      (fits-arguments (λ z. (H z).arity) r.left (typed_fits H made.typed.1 left_bodies))
      (λ z o. low z (occurs-arguments z r.left o))

  right_have : (k : ℕ) → Values H (tms_of (candidate S k r c).right) (tms_of (take c.need (map (inst g τ) c.arguments) ++ ws))
  right_have k =
      let instances_are : Values H (tms_of (map F c.arguments)) (tms_of (map (inst g τ) c.arguments)) =
      argument_values S r.metas g c.binders τ puts ws c.arguments typed_call.types typed_call.typed
      (λ z d o e. bodies z d (made.known z (typed_call.occurs z o)) e) in
      let first : Values H (tms_of (map F (take c.need c.arguments))) (tms_of (take c.need (map (inst g τ) c.arguments))) =
      subst (λ l. Values H (tms_of l) (tms_of (take c.need (map (inst g τ) c.arguments)))) (take-map F c.need c.arguments)
      (values-take c.need (map F c.arguments) (map (inst g τ) c.arguments) instances_are) in
      let last : Values H (tms_of fresh) (tms_of ws) =
      subst (λ n. Values H (tms_of (numbered_from (length r.metas + length c.binders) n)) (tms_of ws)) enough
      (lacking_values S r.metas g c.binders τ puts ws) in
      values-append (map F (take c.need c.arguments)) fresh (take c.need (map (inst g τ) c.arguments)) ws first last

  -- a meta-variable of the rule that stands on the right of the candidate stands in the rule's left side
  right_known : (k z : ℕ) → OccursIn z (tms_of (candidate S k r c).right) → z < length r.metas → Occurs z r.left
  right_known k z o below = go (occurs-append z (map F (take c.need c.arguments)) fresh o)
    where
      mapped : (qs : List Tm) → ((y : ℕ) → OccursIn y (tms_of qs) → OccursIn y (tms_of c.arguments)) → OccursIn z (tms_of (map F qs))
          → Occurs z r.left
      mapped [] h p = absurd p
      mapped (q ∷ qs) h (inl p) =
          occurs-act-back (λ y. y < length r.metas → Occurs y r.left) (freed (length r.metas) c.binders) q
          (λ i y s l. let high : length r.metas ≤ y = freed_high (length r.metas) c.binders i y s in absurd (omega arith))
          (λ y s l. made.known y (typed_call.occurs y (h y (inl s)))) z p below
      mapped (q ∷ qs) h (inr p) = mapped qs (λ y s. h y (inr s)) p

      go : OccursIn z (tms_of (map F (take c.need c.arguments))) ⊎ OccursIn z (tms_of fresh) → Occurs z r.left
      go (inl p) = mapped (take c.need c.arguments) (λ y s. occurs-take y c.need c.arguments s) p
      go (inr p) = let high = occurs-numbered z (length r.metas + length c.binders) (c.need - length c.arguments) p in absurd (omega arith)

  -- the bodies on the right of the candidate are typed
  right_bodies : (k z : ℕ) (d : Declared) → OccursIn z (tms_of (candidate S k r c).right) → slice_get (candidate S k r c).metas z ≡ Some d
      → FitsDeclared S [] [] d (H z)
  right_bodies k z d o e = go (cases_lt z (length r.metas))
    where
      go : (z < length r.metas) ⊎ (length r.metas ≤ z) → FitsDeclared S [] [] d (H z)
      go (inl below) =
          left_bodies z d (right_known k z o below)
          (sym (slice_get-front r.metas (map nullary (reverse c.binders ++ missing_types S c)) z below) ∙ e)
      go (inr high) =
          beside_fits r.metas g (outermost c.binders τ ws) (reverse c.binders ++ missing_types S c)
          (outermost-typed c.binders τ ws (missing_types S c) puts further) z d high e

  -- a pair with the left side of the rule that subsumes the candidate serves the call
  pub served_by : (ps : List PairData) (k : ℕ) (p : PairData) (more : List Declared) → Contains ps p → p.left_fun ≡ symbol_of (head r.left)
      → p.left ≡ spine_arguments r.left → p.metas ≡ r.metas ++ more
      → IsSubsumed (candidate S k r c) p → ServedBy S ps r c g τ ws
  served_by ps k p more at left_fun left metas s = (
    p,
    at,
    H,
    typed_bodies,
    left_fun,
    subst (λ l. Values H (tms_of l) (tms_of (map (value g) (spine_arguments r.left)))) (sym left) left_have,
    sym s.sides.symbol,
    subst (λ l. Values H (tms_of l) (tms_of (take c.need (map (inst g τ) c.arguments) ++ ws))) s.sides.arguments (right_have k),
  )
    where
      on_left : (z : ℕ) (d : Declared) → Occurs z r.left → slice_get p.metas z ≡ Some d → FitsDeclared S [] [] d (H z)
      on_left z d o e = left_bodies z d o (sym (slice_get-front r.metas more z (low z o)) ∙ ap (λ l. slice_get l z) (sym metas) ∙ e)

      on_right : (z : ℕ) (d : Declared) → OccursIn z (tms_of p.right) → slice_get p.metas z ≡ Some d → FitsDeclared S [] [] d (H z)
      on_right z d o e =
          let here : OccursIn z (tms_of (candidate S k r c).right) = subst (λ l. OccursIn z (tms_of l)) (sym s.sides.arguments) o in
          right_bodies k z d here (s.sides.types z here ∙ e)

      either : (z : ℕ) (d : Declared) → slice_get p.metas z ≡ Some d → OccursIn z (tms_of p.left) ⊎ OccursIn z (tms_of p.right)
          → FitsDeclared S [] [] d (H z)
      either z d e (inl o) = on_left z d (occurs-arguments z r.left (subst (λ l. OccursIn z (tms_of l)) left o)) e
      either z d e (inr o) = on_right z d o e

      typed_bodies : AreTypedBodies S p H
      typed_bodies z d o e = either z d e (occurs-append z p.left p.right o)

-- each call of a rule's right side is served by a pair: by the one that subsumes its candidate
pub call_served : (d : SystemData) → IsWellMadeSystem d → (ps : List PairData) → ArePairs (candidates d.symbols d.rules) ps
    → (r : RewriteRule) → Contains d.rules r → (c : Call) → Contains (calls_of d.rules r) c
    → (g : ℕ → Body) → FitsBodies g r.left → FitsBodies g r.right → TypedBodies d.symbols r.metas [] [] g r.left → (τ : ℕ → Tm)
    → PutsTyped d.symbols c.binders τ
    → (ws : List Tm) → AllTyped d.symbols [] [] (tms_of ws) (missing_types d.symbols c) → length ws ≡ c.need - length c.arguments
    → ServedBy d.symbols ps r c g τ ws
call_served d made ps pairs r (k, inside, is) c called g fits_left fits_right bodies τ puts ws further enough =
    let S : Symbols = d.symbols in
    let rule_made : IsWellMade S r = made.rules.each r (k, inside, is) in
    let numbered : slice_get d.rules k ≡ Some r = slice_get_read d.rules (length d.rules) k r refl inside (sym is) in
    let (p, at, s) =
    candidate_covered (candidates S d.rules) ps pairs (candidate S k r c) (call_candidate S d.rules k r c numbered called) in
    let from : IsOfCall S d.rules p = candidate_of_call S d.rules p (left-member [] (candidates S d.rules) ps p pairs at) in
    let same : from.rule ≡ r = some_one (sym from.listed ∙ ap (slice_get d.rules) (sym s.sides.rule) ∙ numbered) in
    let as_made : p ≡ candidate S p.rule r from.call = from.is ∙ ap (λ t. candidate S p.rule t from.call) same in
    served_by S r rule_made c (rule_call S d.rules r rule_made c called) g bodies τ puts ws further enough ps k p
    (map nullary (reverse from.call.binders ++ missing_types S from.call))
    at (ap (λ q. q.left_fun) as_made) (ap (λ q. q.left) as_made) (ap (λ q. q.metas) as_made) s

-- the same by values as a relation

tms_of_one : (ts us : List Tm) → tms_of ts ≡ tms_of us → ts ≡ us
tms_of_one [] [] e = refl
tms_of_one [] (u ∷ us) e = absurd (cc)
tms_of_one (t ∷ ts) [] e = absurd (cc)
tms_of_one (t ∷ ts) (u ∷ us) e =
    let same : t ≡ u = cc in
    let rest : tms_of ts ≡ tms_of us = cc in
    ap₂ (λ v vs. v ∷ vs) same (tms_of_one ts us rest)

-- values of a list of trees are those of its members
values_of_list : (g : ℕ → Body) (ts vs : List Tm) → Values g (tms_of ts) (tms_of vs) → vs ≡ map (value g) ts
values_of_list g ts vs p = tms_of_one vs (map (value g) ts) ((values_are p).1 ∙ values-list g ts)

pub call_led : (d : SystemData) (pairs : List PairData) (r : RewriteRule) (c : Call) (from to : MarkedCall) → IsWellMadeSystem d
    → ArePairs (candidates d.symbols d.rules) pairs → Contains d.rules r → Contains (calls_of d.rules r) c
    → IsLedByCall d.symbols r c from to
    → IsLedByPair d.symbols pairs from to
call_led d pairs r c from to made kept listed called led =
    let g : ℕ → Body = led.bodies in
    let τ : ℕ → Tm = led.for_binders in
    let m : IsWellMade d.symbols r = made.rules.each r listed in
    let fits_left : FitsBodies g r.left = typed_fits g m.typed.1 led.typed_bodies in
    let fits_right : FitsBodies g r.right = typed_fits g m.typed.2 (λ z q o e. led.typed_bodies z q (m.known z o) e) in
    let (p, at, h, typed_bodies, left_symbol, left, right_symbol, right) =
    call_served d made pairs kept r listed c called g fits_left fits_right led.typed_bodies τ led.typed_binders led.further
    led.typed_further led.enough in
    let same : map (act τ free) led.given ≡ map (inst g τ) c.arguments =
    ap (map (act τ free)) (values_of_list g c.arguments led.given led.right) ∙ instances g τ c.arguments in
    let to_is : take c.need (map (inst g τ) c.arguments) ++ led.further ≡ to.arguments =
    ap (λ l. take c.need l ++ led.further) (sym same) ∙ sym led.arguments in (
      p,
      at,
      record {
        bodies = h;
        typed_bodies = typed_bodies;
        left_symbol = led.left_symbol ∙ sym left_symbol;
        left =
            subst (λ l. Values h (tms_of p.left) (tms_of l)) (sym (values_of_list g (spine_arguments r.left) from.arguments led.left)) left;
        right_symbol = led.right_symbol ∙ sym right_symbol;
        right = subst (λ l. Values h (tms_of p.right) (tms_of l)) to_is right;
      },
    )
