-- The subterm criterion: where projected arguments get smaller, the calls of the pairs that are kept decide.
use Rattle.std.proofs.Common.{◌≡◌, ℕ, zero, suc, ◌+◌, ◌⊎◌, inl, inr, List, [], ◌∷◌, Some, Contains, slice_get, sym, subst}
use Rattle.std.specs.List.{AllByRecursion}
use Rattle.wh_terms.specs.Tree.{Tm, tms_of}
use Rattle.wh_terms.specs.Typing.{Symbols}
use Rattle.wh_terms.specs.Value.{Body, Values}
use Rattle.wh_terms.specs.Rules.{RewriteRule}
use Rattle.wh_terms.proofs.ValueForm.{value}
use Rattle.wh_terms.proofs.ValueLaws.{value_is}
use Rattle.wh_step_laws.specs.Ends.{Ends}
use Rattle.wh_step_laws.specs.DirectSubterms.{function_part, argument_part, StepOrPart}
use Rattle.wh_step_laws.proofs.PartLaws.{PassesToParts, ends-parts}
use Rattle.wh_pairs.specs.PairData.{PairData, IsIncreasing}
use Rattle.wh_subterm.specs.ProperParts.{Argument, last, front, Part, argument, deeper}
use Rattle.wh_subterm.specs.Projections.{Chosen, IsProjected, Equal, Below}
use Rattle.wh_subterm.specs.SubtermRows.{chosen_symbols, IsProjection}
use Rattle.wh_pairs.proofs.DropLemmas.{contains_or_not}
use Rattle.wh_subterm.proofs.ProjectionLemmas.{project_one}
use Rattle.wh_proof_calls.specs.MarkedCalls.{MarkedCall, IsTypedCall, PairLeads, ArgumentsStep, SomePairStep, CallsEnd}
use Rattle.wh_proof_calls.specs.CallOrders.{HasNoMore, HasLess, AreMeasured}
use Rattle.wh_proof_calls.proofs.Measured.{ends_measured}
use Rattle.wh_proof_nodes.specs.Many.{Many, stay, go}
use Rattle.wh_pairs.specs.Sets.{IsSetOf, IsKept, InSet}
use Rattle.wh_proof_nodes.proofs.ManyLaws.{Plus, by_steps, many-plus, plus-join, ends-plus, step_at}
use Rattle.wh_proof_nodes.proofs.MayLaws.{values_at}

-- from the value of a meta-term direct subterms lead to the values of its parts

argument_path : {R : Tm → Tm → Type 0} {u t : Tm} (g : ℕ → Body) → Argument u t → Plus (StepOrPart R) (value g t) (value g u)
unfolding value
argument_path g (last {u = u}) = (value g u, inr argument_part, stay)
argument_path g (front {t = t} at) = let (w, s, m) = argument_path g at in (value g t, inr function_part, go s m)

part_path : {R : Tm → Tm → Type 0} {u t : Tm} (g : ℕ → Body) → Part u t → Plus (StepOrPart R) (value g t) (value g u)
part_path g (argument headed at) = argument_path g at
part_path g (deeper headed at part) = plus-join (argument_path g at) (part_path g part)

-- projected arguments of calls, which steps and direct subterms order

abbrev pub ProjectsTo : List Chosen → MarkedCall → Tm → Type 0
ProjectsTo args c v = IsProjected args c.symbol c.arguments v

other_symbol : (args : List Chosen) (f h i : ℕ) → h ≡ f → Contains args (record { symbol = f; argument = i + 1 })
    → Contains args (record { symbol = h; argument = i + 1 })
other_symbol args f h i e found = subst (λ k. Contains args (record { symbol = k; argument = i + 1 })) (sym e) found

-- where an argument steps, the projected one stays or steps
projected_step : {R : Tm → Tm → Type 0} (args : List Chosen) (c d : MarkedCall) (v : Tm) → ArgumentsStep R c d → ProjectsTo args c v
    → (w : Tm) × ProjectsTo args d w × ((v ≡ w) ⊎ R v w)
projected_step args c d v a (i, found, at) =
    let (w, there, h) = step_at i v a.arguments at in
    (w, (i, other_symbol args c.symbol d.symbol i a.symbol found, there), h)

-- the value of a projected side is projected
projected_value : {g : ℕ → Body} (args : List Chosen) (f h : ℕ) (ps vs : List Tm) (p : Tm) → h ≡ f → Values g (tms_of ps) (tms_of vs)
    → IsProjected args f ps p → IsProjected args h vs (value g p)
projected_value args f h ps vs p e are (i, found, at) =
    let (v, there, is) = values_at ps vs i p are at in
    (i, other_symbol args f h i e found, subst (λ w. slice_get vs i ≡ Some w) (value_is is).1 there)

left_projects : {S : Symbols} (args : List Chosen) (p : PairData) (c d : MarkedCall) (t : Tm)
    (s : PairLeads S p c d) → IsProjected args p.left_fun p.left t → ProjectsTo args c (value s.bodies t)
left_projects args p c d t s left = projected_value args p.left_fun c.symbol p.left c.arguments t s.left_symbol s.left left

right_projects : {S : Symbols} (args : List Chosen) (p : PairData) (c d : MarkedCall) (t : Tm)
    (s : PairLeads S p c d) → IsProjected args p.right_fun p.right t → ProjectsTo args d (value s.bodies t)
right_projects args p c d t s right = projected_value args p.right_fun d.symbol p.right d.arguments t s.right_symbol s.right right

-- where an argument steps, the projected one does not get larger
arguments_project : {R : Tm → Tm → Type 0} (args : List Chosen) (c d : MarkedCall) (v : Tm) → ProjectsTo args c v → ArgumentsStep R c d
    → HasNoMore (by_steps (StepOrPart R)) (ProjectsTo args) v d
arguments_project {R = R} args c d v here a = let (w, there, h) = projected_step args c d v a here in elim h [
  | inl same ↦ (w, there, subst (Many (StepOrPart R) v) same stay)
  | inr r ↦ (w, there, go (inl r) stay)
]

-- a pair leads from a call with the projected argument v to one with a smaller argument, or with the same

below_projects : {S : Symbols} {R : Tm → Tm → Type 0} (args : List Chosen) (p : PairData) (c d : MarkedCall) (v : Tm)
    → IsIncreasing (chosen_symbols args) → PairLeads S p c d → ProjectsTo args c v → Below args p
    → HasLess (by_steps (StepOrPart R)) (ProjectsTo args) v d
below_projects {R = R} args p c d v up s here (t, u, left, right, part) =
    let is = project_one args c.symbol c.arguments (value s.bodies t) v up (left_projects args p c d t s left) here in (
      value s.bodies u,
      right_projects args p c d u s right,
      subst (λ w. Plus (StepOrPart R) w (value s.bodies u)) is (part_path s.bodies part),
    )

equal_projects : {S : Symbols} {R : Tm → Tm → Type 0} (args : List Chosen) (p : PairData) (c d : MarkedCall) (v : Tm)
    → IsIncreasing (chosen_symbols args) → PairLeads S p c d → ProjectsTo args c v → Equal args p
    → HasNoMore (by_steps (StepOrPart R)) (ProjectsTo args) v d
equal_projects args p c d v up s here (t, left, right) =
    let is = project_one args c.symbol c.arguments (value s.bodies t) v up (left_projects args p c d t s left) here in
    (v, subst (ProjectsTo args d) is (right_projects args p c d t s right), stay)

-- the call that a pair of the set leads to has a projected argument
pair_projects : {S : Symbols} (args : List Chosen) (p : PairData) (c d : MarkedCall) → PairLeads S p c d
    → Equal args p ⊎ Below args p → (w : Tm) × ProjectsTo args d w
pair_projects args p c d s (inl (t, left, right)) = (value s.bodies t, right_projects args p c d t s right)
pair_projects args p c d s (inr (t, u, left, right, part)) = (value s.bodies u, right_projects args p c d u s right)

all_at : {A : Type 0} (P : A → Type 0) (ts : List A) (i : ℕ) (t : A) → AllByRecursion P ts → slice_get ts i ≡ Some t → P t
all_at P [] i t all e = absurd (cc)
all_at P (u ∷ ts) zero t all e = let same : u ≡ t = cc in subst P same all.0
all_at P (u ∷ ts) (suc i) t all e = all_at P ts i t all.1 e

-- the projected arguments measure the calls
projections_measure : (S : Symbols) (rules : List RewriteRule) (pairs : List PairData) (set drop rest : List ℕ) (args : List Chosen)
    {R : Tm → Tm → Type 0} → PassesToParts R → IsProjection rules pairs set args drop → IsSetOf (IsKept set drop) rest
    → AreMeasured S rules R (by_steps (StepOrPart R)) (ProjectsTo args) (InSet pairs set) (InSet pairs rest)
projections_measure S rules pairs set drop rest args {R = R} passes is kept = record {
  together = λ a b c m p. many-plus m p;
  measured = measured;
  arguments = λ c d v typed here a. arguments_project args c d v here a;
  pairs = λ p c d v (n, inside, at) typed here by. pair_lowers n p c d v inside at here by.leads;
}
  where
    measured : (c d : MarkedCall) → IsTypedCall S rules d → SomePairStep S R (InSet pairs set) c d
        → (v : Tm) × ProjectsTo args d v × Ends (Plus (StepOrPart R)) v
    measured c d typed (p, (n, inside, at), by) =
        let (w, there) = pair_projects args p c d by.leads (is.decreasing n p inside at) in
        let (i, found, here) = there in
        (w, there, ends-plus (ends-parts w passes (all_at (Ends R) d.arguments i w by.minimal here)))

    pair_lowers : (n : ℕ) (p : PairData) (c d : MarkedCall) (v : Tm) → Contains set n → slice_get pairs n ≡ Some p → ProjectsTo args c v
        → PairLeads S p c d
        → ((InSet pairs rest p × HasNoMore (by_steps (StepOrPart R)) (ProjectsTo args) v d)
        ⊎ HasLess (by_steps (StepOrPart R)) (ProjectsTo args) v d)
    pair_lowers n p c d v inside at here s = elim (contains_or_not drop n) [
      | inl found ↦ inr (below_projects args p c d v is.marked.in_order s here (is.below n p found at))
      | inr stays ↦ elim (is.decreasing n p inside at) [
        | inl equal ↦ inl
            ((n, (kept.each n).1 (inside, stays), at), equal_projects args p c d v is.marked.in_order s here equal)
        | inr below ↦ inr (below_projects args p c d v is.marked.in_order s here below)
      ]
    ]

-- where the calls of the pairs that are kept end, those of the set do
pub subterm_ends : (S : Symbols) (rules : List RewriteRule) (pairs : List PairData) (set drop rest : List ℕ) (args : List Chosen)
    {R : Tm → Tm → Type 0} → PassesToParts R → IsProjection rules pairs set args drop → IsSetOf (IsKept set drop) rest
    → CallsEnd S rules R (InSet pairs rest) → CallsEnd S rules R (InSet pairs set)
subterm_ends S rules pairs set drop rest args passes is kept smaller =
    ends_measured (projections_measure S rules pairs set drop rest args passes is kept) smaller
