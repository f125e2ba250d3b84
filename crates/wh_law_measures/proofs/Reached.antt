-- What a call can still reach by steps in its arguments: it is decided, and only pairs that may follow are reached.
use Rattle.std.proofs.Common.{◌≡◌, ℕ, List, [], ◌∷◌, ◌⊎◌, inl, inr, Option, Some, None, slice_get, Contains, refl, sym, ◌∙◌, subst}
use Rattle.std.specs.List.{AllByRecursion}
use Rattle.std.proofs.lemmas.List.Elements.{recursion_from_All}
use Rattle.wh_types.specs.Ty.{Ty}
use Rattle.wh_terms.specs.Tree.{Tm, tms_of}
use Rattle.wh_terms.specs.Typing.{Symbols, AllTyped, typed_more}
use Rattle.wh_terms.specs.Rules.{RewriteRule, AreWellMade}
use Rattle.wh_terms.proofs.TypingLaws.{typed_loose, typed_term}
use Rattle.wh_step.specs.Step.{Step}
use Rattle.wh_step.specs.Reduction.{Bounded}
use Rattle.wh_step_laws.specs.Ends.{Ends, ends, StepsIn, step_here, step_there}
use Rattle.wh_step_laws.proofs.Listed.{In, Listed, listed_none, listed_same, listed_or, listed_map}
use Rattle.wh_step_laws.proofs.Reading.{all_typed-fit}
use Rattle.wh_step_laws.proofs.SystemSteps.{IsShutTerm, shut-step, steps_listed, list-bounded}
use Rattle.wh_system.proofs.TypedDecided.{Decided, decided_by}
use Rattle.wh_pairs.specs.PairData.{PairData}
use Rattle.wh_pairs.specs.Sets.{InSet}
use Rattle.wh_pairs.proofs.ByPlace.{some_one, contains_at}
use Rattle.wh_pairs.proofs.MemberLemmas.{at_head, behind}
use Rattle.wh_pairs.proofs.Searches.{equal_decided, first_place}
use Rattle.wh_graph.specs.May.{May}
use Rattle.wh_poly.specs.Polynomials.{zero_poly}
use Rattle.wh_polycheck.specs.Marks.{Mark, HasMarkedSides}
use Rattle.wh_polycheck.specs.Covering.{HaveTypedSides}
use Rattle.wh_order_descent.specs.PatternSides.{HavePatternSides}
use Rattle.wh_proof_calls.specs.MarkedCalls.{MarkedCall, PairLeads, ArgumentsStep}
use Rattle.wh_proof_nodes.specs.Many.{Many, stay, go}
use Rattle.wh_proof_nodes.proofs.MayLaws.{MayIsSound}
use Rattle.wh_law_projection.specs.LongestSequences.{IsBoundedCall}
use Rattle.wh_law_measures.specs.Reaching.{CanReach, CanReachSome}
use Rattle.wh_law_measures.proofs.Matches.{IsMatch, match_decided}

-- steps in the arguments of a call, and of its list of arguments

abbrev call : ℕ → List Tm → MarkedCall
call f ts = record { symbol = f; arguments = ts }

arguments_many : {R : Tm → Tm → Type 0} {c d : MarkedCall} → Many (ArgumentsStep R) c d
    → (d.symbol ≡ c.symbol) × Many (StepsIn R) c.arguments d.arguments
arguments_many stay = (refl, stay)
arguments_many (go s m) = let (e, n) = arguments_many m in (e ∙ s.symbol, go s.arguments n)

many_arguments : {R : Tm → Tm → Type 0} (f : ℕ) {ts us : List Tm} → Many (StepsIn R) ts us → Many (ArgumentsStep R) (call f ts) (call f us)
many_arguments f stay = stay
many_arguments f (go s m) = go (record { symbol = refl; arguments = s }) (many_arguments f m)

-- what pairs and steps say of what is reached

reach_before : (rules : List RewriteRule) (p : PairData) (c d : MarkedCall) → ArgumentsStep (Step rules) c d → CanReach rules p d
    → CanReach rules p c
reach_before rules p c d s (e, m, is) = (e, go s m, is)

pub reach_some_before : (rules : List RewriteRule) (pairs : List PairData) (set : List ℕ) (c d : MarkedCall)
    → ArgumentsStep (Step rules) c d → CanReachSome rules pairs set d → CanReachSome rules pairs set c
reach_some_before rules pairs set c d s (p, has, reach) = (p, has, reach_before rules p c d s reach)

-- a call that a pair leads on from reaches that pair
pub reaches_itself : {S : Symbols} (rules : List RewriteRule) (pairs : List PairData) (set : List ℕ) (p : PairData) (c d : MarkedCall)
    → InSet pairs set p → PairLeads S p c d → CanReachSome rules pairs set c
reaches_itself rules pairs set p c d has s = (p, has, (c, stay, record { bodies = s.bodies; symbol = s.left_symbol; left = s.left }))

-- what the call reaches that a pair leads to may follow that pair
pub reach_may : {S : Symbols} (rules : List RewriteRule) → MayIsSound rules (Step rules) → (p q : PairData) (c d : MarkedCall)
    → PairLeads S p c d → CanReach rules q d → May rules p q
reach_may rules sound p q c d s (e, m, is) =
    let (same, steps) = arguments_many m in
    sound p q s.bodies is.bodies d.arguments e.arguments (sym s.right_symbol ∙ sym same ∙ is.symbol) s.right is.left steps

-- a list of closed terms steps to finitely many

steps_in_listed : {S : Symbols} {rules : List RewriteRule} → AreWellMade S rules → (ts : List Tm) → AllByRecursion IsShutTerm ts
    → Listed (StepsIn (Step rules) ts)
steps_in_listed {rules = rules} made [] all = listed_none (StepsIn (Step rules) []) (λ us s. elim s [ ])
steps_in_listed {rules = rules} made (t ∷ ts) all =
    listed_same (λ us. Here us ⊎ There us) (StepsIn (Step rules) (t ∷ ts)) split join
    (listed_or Here There (listed_map (λ u. u ∷ ts) (Step rules t) (steps_listed made t all.0))
    (listed_map (λ us. t ∷ us) (StepsIn (Step rules) ts) (steps_in_listed made ts all.1)))
  where
    Here : List Tm → Type 0
    Here us = (u : Tm) × Step rules t u × (us ≡ u ∷ ts)

    There : List Tm → Type 0
    There us = (vs : List Tm) × StepsIn (Step rules) ts vs × (us ≡ t ∷ vs)

    split : (us : List Tm) → StepsIn (Step rules) (t ∷ ts) us → Here us ⊎ There us
    split us (step_here {b = u} s) = inl (u, s, refl)
    split us (step_there {m = vs} s) = inr (vs, s, refl)

    join : (us : List Tm) → Here us ⊎ There us → StepsIn (Step rules) (t ∷ ts) us
    join us (inl (u, s, e)) = subst (StepsIn (Step rules) (t ∷ ts)) (sym e) (step_here s)
    join us (inr (vs, s, e)) = subst (StepsIn (Step rules) (t ∷ ts)) (sym e) (step_there s)

steps_shut : {S : Symbols} {rules : List RewriteRule} {ts us : List Tm} → AreWellMade S rules → StepsIn (Step rules) ts us
    → AllByRecursion IsShutTerm ts → AllByRecursion IsShutTerm us
steps_shut made (step_here {a = t} {b = u} s) all = (shut-step made t u all.0 s, all.1)
steps_shut made (step_there s) all = (all.0, steps_shut made s all.1)

all_shut : {S : Symbols} (ts : List Tm) (cs : List Ty) → AllTyped S [] [] (tms_of ts) cs → AllByRecursion IsShutTerm ts
all_shut [] cs p = tt
all_shut (t ∷ ts) [] p = elim p [ ]
all_shut (t ∷ ts) (c ∷ cs) (typed_more q qs) = ((typed_loose q, typed_term t q), all_shut ts cs qs)

-- some member of a list, or none
some_in : {A : Type 0} (Q : A → Type 0) (l : List A) → ((a : A) → In a l → Decided (Q a)) → Decided ((a : A) × In a l × Q a)
some_in Q [] each = inr (λ (a, i, q). absurd i)
some_in Q (b ∷ l) each = elim (each b (inl refl)) [
  | inl q ↦ inl (b, inl refl, q)
  | inr not ↦ elim (some_in Q l (λ a i. each a (inr i))) [
    | inl (a, i, q) ↦ inl (a, inr i, q)
    | inr none ↦ inr (λ (a, i, q). elim i [
      | inl same ↦ not (subst Q same q)
      | inr later ↦ none (a, later, q)
    ])
  ]
]

-- steps of members lead to an instance of the patterns
abbrev ReachesMatch : List RewriteRule → List Tm → List Tm → Type 0
ReachesMatch rules ps ts = (us : List Tm) × Many (StepsIn (Step rules)) ts us × IsMatch ps us

module _ (rules : List RewriteRule) (ps : List Tm) where
  -- the list has all that ts steps to
  abbrev Next : List Tm → List (List Tm) → Type 0
  Next ts l = ((us : List Tm) → StepsIn (Step rules) ts us → In us l) × ((us : List Tm) → In us l → StepsIn (Step rules) ts us)

  cannot : (ts : List Tm) (l : List (List Tm)) → Next ts l → (IsMatch ps ts → ⊥)
      → ((us : List Tm) × In us l × ReachesMatch rules ps us → ⊥) → (vs : List Tm) → Many (StepsIn (Step rules)) ts vs → IsMatch ps vs → ⊥
  cannot ts l next not none vs stay is = not is
  cannot ts l next not none vs (go {b = us} s m) is = none (us, next.0 us s, (vs, m, is))

  here_or_later : (ts : List Tm) (l : List (List Tm)) → Next ts l → Decided (IsMatch ps ts)
      → Decided ((us : List Tm) × In us l × ReachesMatch rules ps us) → Decided (ReachesMatch rules ps ts)
  here_or_later ts l next (inl is) later = inl (ts, stay, is)
  here_or_later ts l next (inr not) (inl (us, i, (vs, m, is))) = inl (vs, go (next.1 us i) m, is)
  here_or_later ts l next (inr not) (inr none) = inr (λ (vs, m, is). cannot ts l next not none vs m is)

  reach_list : {S : Symbols} → AreWellMade S rules → ((us : List Tm) → Decided (IsMatch ps us)) → (ts : List Tm)
      → AllByRecursion IsShutTerm ts → Ends (StepsIn (Step rules)) ts → Decided (ReachesMatch rules ps ts)
  reach_list made decide ts all (ends k) =
      let (l, listed, only) = steps_in_listed made ts all in
      here_or_later ts l (listed, only) (decide ts)
      (some_in (ReachesMatch rules ps) l (λ us i. reach_list made decide us (steps_shut made (only us i) all) (k us (only us i))))

module _ (S : Symbols) (rules : List RewriteRule) (pairs : List PairData) (made : AreWellMade S rules)
    (typed : HaveTypedSides S rules pairs) (patterns : HavePatternSides S pairs) where
  -- marks of the two symbols of a pair; what they are read as does not matter
  abbrev mark : ℕ → Mark
  mark f = record { symbol = f; polynomial = zero_poly }

  marked_sides : (p : PairData) → Contains pairs p → HasMarkedSides S rules (mark p.left_fun ∷ mark p.right_fun ∷ []) p
  marked_sides p inside = typed (mark p.left_fun ∷ mark p.right_fun ∷ []) p inside
      (mark p.left_fun, at_head (mark p.right_fun ∷ []) (mark p.left_fun), refl)
      (mark p.right_fun, behind (mark p.right_fun ∷ []) (mark p.left_fun) (mark p.right_fun) (at_head [] (mark p.right_fun)), refl)

  left_matched : (p : PairData) → Contains pairs p → (us : List Tm) → Decided (IsMatch p.left us)
  left_matched p inside us = match_decided p.metas p.left us (patterns p inside).left_patterns (all_typed-fit (marked_sides p inside).left_typed)

  reach_decided : (p : PairData) → Contains pairs p → (c : MarkedCall) → IsBoundedCall S rules c → Decided (CanReach rules p c)
  reach_decided p inside c good = elim (equal_decided c.symbol p.left_fun) [
    | inl same ↦ decided_by (λ (us, m, is). (call c.symbol us, many_arguments c.symbol m, record { bodies = is.0; symbol = same; left = is.1 }))
        (λ (d, m, is). (d.arguments, (arguments_many m).1, (is.bodies, is.left)))
        (reach_list rules p.left made (left_matched p inside) c.arguments (all_shut c.arguments _ good.typed.typed)
        (list-bounded rules c.arguments (recursion_from_All (Bounded rules) c.arguments good.bounded)))
    | inr other ↦ inr (λ (d, m, is). other (sym (arguments_many m).0 ∙ is.symbol))
  ]

  -- the call can still reach the pair with the number
  abbrev Reaches : MarkedCall → ℕ → Type 0
  Reaches c n = (p : PairData) × (slice_get pairs n ≡ Some p) × CanReach rules p c

  reaches_decided : (c : MarkedCall) → IsBoundedCall S rules c → (n : ℕ) → Decided (Reaches c n)
  reaches_decided c good n = by_number (slice_get pairs n) refl
    where
      by_number : (o : Option PairData) → slice_get pairs n ≡ o → Decided (Reaches c n)
      by_number None e = inr (λ (p, at, reach). cc (e, at))
      by_number (Some p) e =
          decided_by (λ reach. (p, e, reach)) (λ (q, at, reach). subst (λ r. CanReach rules r c) (some_one at e) reach)
          (reach_decided p (contains_at pairs n p e) c good)

  pub reach_some_decided : (set : List ℕ) (c : MarkedCall) → IsBoundedCall S rules c → Decided (CanReachSome rules pairs set c)
  reach_some_decided set c good = elim (first_place (Reaches c) (reaches_decided c good) set) [
    | inl (i, n, at, has, before) ↦ inl (has.0, (n, contains_at set i n at, has.1), has.2)
    | inr none ↦ inr (λ (p, has, reach). none has.0 has.1 (p, has.2, reach))
  ]
