-- Projected arguments of calls: an argument that steps, and the values of a pair's sides.
use Rattle.std.proofs.Common.{◌≡◌, ℕ, zero, suc, ◌+◌, ◌<◌, ◌≤◌, ◌⊎◌, inl, inr, List, [], ◌∷◌, Some, Contains, slice_get, refl, sym, subst, arith}
use Rattle.std.proofs.lemmas.List.Elements.{All-contains}
use Rattle.wh_terms.specs.Tree.{Tm, tms_of}
use Rattle.wh_terms.specs.Typing.{Symbols}
use Rattle.wh_terms.specs.Value.{Body, Value, Values, of_more}
use Rattle.wh_terms.specs.Rules.{RewriteRule, AreWellMade}
use Rattle.wh_terms.proofs.ValueForm.{value}
use Rattle.wh_terms.proofs.ValueLaws.{value_is}
use Rattle.wh_terms.proofs.TypingLaws.{typed_loose, typed_term}
use Rattle.wh_step.specs.Step.{Step}
use Rattle.wh_step.specs.Reduction.{Bounded}
use Rattle.wh_step_laws.specs.Ends.{StepsIn, step_here, step_there}
use Rattle.wh_step_laws.proofs.SystemSteps.{IsShutTerm}
use Rattle.wh_pairs.specs.PairData.{PairData, IsIncreasing}
use Rattle.wh_pairs.proofs.ByPlace.{some_one, contains_at}
use Rattle.wh_subterm.specs.Projections.{Chosen, IsProjected, Equal, Below}
use Rattle.wh_subterm.specs.SubtermRows.{chosen_symbols}
use Rattle.wh_subterm.proofs.ProjectionLemmas.{project_one}
use Rattle.wh_proof_calls.specs.MarkedCalls.{MarkedCall, PairLeads, ArgumentsStep}
use Rattle.wh_proof_calls.proofs.ReadBodies.{argument_typed}
use Rattle.wh_law_projection.specs.LongestSequences.{IsLongestFrom, IsProjectedLength, IsBoundedCall}
use Rattle.wh_law_projection.proofs.LengthLaws.{part_deeper, part_shut, longest_from, longest_one, deeper_length, step_length}

-- where one member of a list steps, each member stays or steps
step_at : {A : Type 0} {R : A → A → Type 0} {ts us : List A} (i : ℕ) (t : A) → StepsIn R ts us → slice_get ts i ≡ Some t
    → (u : A) × (slice_get us i ≡ Some u) × ((t ≡ u) ⊎ R t u)
step_at {R = R} zero t (step_here {a = a} {b = b} r) e = (b, refl, inr (subst (λ x. R x b) (some_one refl e) r))
step_at (suc i) t (step_here r) e = (t, e, inl refl)
step_at zero t (step_there s) e = (t, e, inl refl)
step_at (suc i) t (step_there s) e = step_at i t s e

-- the values of a list, one by one
values_at : {g : ℕ → Body} (ps vs : List Tm) (i : ℕ) (p : Tm) → Values g (tms_of ps) (tms_of vs) → slice_get ps i ≡ Some p
    → (v : Tm) × (slice_get vs i ≡ Some v) × Value g p v
values_at [] vs i p are e = absurd (cc)
values_at (q ∷ ps) [] i p are e = elim are [ ]
values_at {g = g} (q ∷ ps) (v ∷ vs) zero p (of_more here rest) e = let same : q ≡ p = cc in (v, refl, subst (λ t. Value g t v) same here)
values_at (q ∷ ps) (v ∷ vs) (suc i) p (of_more here rest) e = values_at ps vs i p rest e

abbrev pub ProjectsTo : List Chosen → MarkedCall → Tm → Type 0
ProjectsTo args c v = IsProjected args c.symbol c.arguments v

other_symbol : (args : List Chosen) (f h i : ℕ) → h ≡ f → Contains args (record { symbol = f; argument = i + 1 })
    → Contains args (record { symbol = h; argument = i + 1 })
other_symbol args f h i e found = subst (λ k. Contains args (record { symbol = k; argument = i + 1 })) (sym e) found

-- where an argument steps, the projected one stays or steps
projected_step : {R : Tm → Tm → Type 0} (args : List Chosen) (c d : MarkedCall) (v : Tm) → ArgumentsStep R c d → ProjectsTo args c v
    → (w : Tm) × ProjectsTo args d w × ((v ≡ w) ⊎ R v w)
projected_step args c d v a (i, found, at) =
    let (w, there, h) = step_at i v a.arguments at in
    (w, (i, other_symbol args c.symbol d.symbol i a.symbol found, there), h)

-- the value of a projected side is projected
projected_value : {g : ℕ → Body} (args : List Chosen) (f h : ℕ) (ps vs : List Tm) (p : Tm) → h ≡ f → Values g (tms_of ps) (tms_of vs)
    → IsProjected args f ps p → IsProjected args h vs (value g p)
projected_value args f h ps vs p e are (i, found, at) =
    let (v, there, is) = values_at ps vs i p are at in
    (i, other_symbol args f h i e found, subst (λ w. slice_get vs i ≡ Some w) (value_is is).1 there)

left_projects : {S : Symbols} (args : List Chosen) (p : PairData) (c d : MarkedCall) (t : Tm)
    (s : PairLeads S p c d) → IsProjected args p.left_fun p.left t → ProjectsTo args c (value s.bodies t)
left_projects args p c d t s left = projected_value args p.left_fun c.symbol p.left c.arguments t s.left_symbol s.left left

right_projects : {S : Symbols} (args : List Chosen) (p : PairData) (c d : MarkedCall) (t : Tm)
    (s : PairLeads S p c d) → IsProjected args p.right_fun p.right t → ProjectsTo args d (value s.bodies t)
right_projects args p c d t s right = projected_value args p.right_fun d.symbol p.right d.arguments t s.right_symbol s.right right

-- the projected argument of a typed call has no loose variable and no meta-variable
projected_shut : {S : Symbols} {rules : List RewriteRule} (args : List Chosen) (c : MarkedCall) (v : Tm) → IsBoundedCall S rules c
    → ProjectsTo args c v → IsShutTerm v
projected_shut args c v good (i, found, at) =
    let (k, there, typed) = argument_typed c.arguments _ i v good.typed.typed at in
    (typed_loose typed, typed_term v typed)

projected_bounded : {S : Symbols} {rules : List RewriteRule} (args : List Chosen) (c : MarkedCall) (v : Tm) → IsBoundedCall S rules c
    → ProjectsTo args c v → Bounded rules v
projected_bounded {rules = rules} args c v good (i, found, at) =
    All-contains (Bounded rules) c.arguments v good.bounded (contains_at c.arguments i v at)

-- a projected argument of a call with bounded arguments has a longest sequence
pub projected_longest : {S : Symbols} {rules : List RewriteRule} → AreWellMade S rules → (args : List Chosen) (c : MarkedCall) (v : Tm)
    → IsBoundedCall S rules c → ProjectsTo args c v → (n : ℕ) × IsLongestFrom rules v n
projected_longest made args c v good here = longest_from made v (projected_shut args c v good here) (projected_bounded args c v good here)

pub length_one : {rules : List RewriteRule} (args : List Chosen) (c : MarkedCall) (n m : ℕ) → IsIncreasing (chosen_symbols args)
    → IsProjectedLength rules args c n → IsProjectedLength rules args c m → n ≡ m
length_one {rules = rules} args c n m up (t, here, best) (u, there, also) =
    let same = project_one args c.symbol c.arguments t u up here there in
    longest_one u n m (subst (λ v. IsLongestFrom rules v n) same best) also

pub below_lowers : {S : Symbols} {rules : List RewriteRule} → AreWellMade S rules → (args : List Chosen) (p : PairData) (c d : MarkedCall)
    → Below args p → IsBoundedCall S rules c → PairLeads S p c d
    → (n m : ℕ) × IsProjectedLength rules args c n × IsProjectedLength rules args d m × (m < n)
below_lowers made args p c d (t, u, left, right, part) good s =
    let here = left_projects args p c d t s left in
    let (n, best) = projected_longest made args c (value s.bodies t) good here in
    let shut = part_shut s.bodies part (projected_shut args c (value s.bodies t) good here) in
    let (m, less, lower) = deeper_length made (value s.bodies t) (value s.bodies u) n shut (part_deeper s.bodies part) best in (
      n,
      m,
      (value s.bodies t, here, best),
      (value s.bodies u, right_projects args p c d u s right, less),
      lower,
    )

pub equal_keeps : {S : Symbols} {rules : List RewriteRule} → AreWellMade S rules → (args : List Chosen) (p : PairData) (c d : MarkedCall)
    → Equal args p → IsBoundedCall S rules c → PairLeads S p c d
    → (n : ℕ) × IsProjectedLength rules args c n × IsProjectedLength rules args d n
equal_keeps made args p c d (t, left, right) good s =
    let here = left_projects args p c d t s left in
    let (n, best) = projected_longest made args c (value s.bodies t) good here in
    (n, (value s.bodies t, here, best), (value s.bodies t, right_projects args p c d t s right, best))

pub steps_lower : {S : Symbols} {rules : List RewriteRule} → AreWellMade S rules → (args : List Chosen) (c d : MarkedCall) (n : ℕ)
    → IsBoundedCall S rules c → ArgumentsStep (Step rules) c d → IsProjectedLength rules args c n
    → (m : ℕ) × IsProjectedLength rules args d m × (m ≤ n)
steps_lower {rules = rules} made args c d n good a (t, here, best) =
    let (w, there, h) = projected_step args c d t a here in elim h [
      | inl same ↦ (n, (w, there, subst (λ v. IsLongestFrom rules v n) same best), omega arith)
      | inr s ↦
          let (m, less, lower) = step_length made t w n (projected_shut args c t good here) s best in
          (m, (w, there, less), omega arith)
    ]
