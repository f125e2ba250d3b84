-- The law of reduction pairs: calls that are measured end where those by the kept pairs do, whatever the orders.
use Rattle.std.proofs.Common.{◌⊎◌, inl, inr, refl, subst}
use Rattle.std.specs.Prelude.{List}
use Rattle.std.specs.List.{AllByRecursion}
use Rattle.wh_terms.specs.Tree.{Tm}
use Rattle.wh_terms.specs.Typing.{Symbols}
use Rattle.wh_terms.specs.Rules.{RewriteRule}
use Rattle.wh_step_laws.specs.Ends.{Ends, ends}
use Rattle.wh_pairs.specs.PairData.{PairData}
use Rattle.wh_proof_calls.specs.MarkedCalls.{MarkedCall, IsTypedCall, PairStep, ArgumentsStep, CallStep, CallsEnd}
use Rattle.wh_proof_calls.specs.CallOrders.{Orders, by_function, HasNoMore, HasLess, AreMeasured}
use Rattle.wh_proof_calls.proofs.Leading.{step_all_ends, calls_end, other_pairs, other_arguments}

module _ {S : Symbols} {rules : List RewriteRule} {R : Tm → Tm → Type 0} {A : Type 0} {order : Orders A}
    {measures : MarkedCall → A → Type 0} {P Q : PairData → Type 0} (are : AreMeasured S rules R order measures P Q)
    (kept : CallsEnd S rules R Q) where
  abbrev ArgumentsEnd : MarkedCall → Type 0
  ArgumentsEnd c = AllByRecursion (Ends R) c.arguments

  abbrev Small : MarkedCall → MarkedCall → Type 0
  Small = CallStep S rules R Q

  abbrev Big : MarkedCall → MarkedCall → Type 0
  Big = CallStep S rules R P

  -- what a step does to a measure of a call
  abbrev Outcome : A → MarkedCall → MarkedCall → Type 0
  Outcome a c d = ArgumentsEnd d × ((Small c d × HasNoMore order measures a d) ⊎ HasLess order measures a d)

  outcome : (a : A) (c d : MarkedCall) → ArgumentsEnd c → measures c a → Big c d → Outcome a c d
  outcome a c d all at s = elim (s.leads) [
    | inl step ↦ (step_all_ends step.arguments all, inl (other_arguments c d s step, are.arguments c d a s.from_typed at step))
    | inr (p, has, by) ↦ (
      by.minimal,
      elim (are.pairs p c d a has s.from_typed at by) [
        | inl (stays, no_more) ↦ inl (other_pairs c d s (λ _. (p, stays, by)), no_more)
        | inr less ↦ inr less
      ],
    )
  ]

  -- calls with a measure that is less than a end
  abbrev LessEnd : A → Type 0
  LessEnd a = (b : A) → order.less a b → (c : MarkedCall) → ArgumentsEnd c → measures c b → Ends Big c

  -- where these are done, an induction on the calls by the kept pairs, whose measures have nothing below them that a
  -- has not
  rest_ends : (a : A) → LessEnd a → (c : MarkedCall) (b : A) → ArgumentsEnd c → measures c b
      → ((x : A) → order.less b x → order.less a x) → Ends Small c → Ends Big c
  rest_ends a done c b all at within (ends k) = ends (λ d s. let (also, how) = outcome b c d all at s in elim how [
    | inl (small, (x, has, no_more)) ↦ rest_ends a done d x also has (λ y less. within y (are.together b x y no_more less)) (k d small)
    | inr (x, has, less) ↦ done x (within x less) d also has
  ])

  -- an induction on the measure
  pub measured_call_ends : (a : A) → Ends order.less a → (c : MarkedCall) → ArgumentsEnd c → measures c a → Ends Big c
  measured_call_ends a (ends k) c all at =
      rest_ends a (λ b less d also has. measured_call_ends b (k b less) d also has) c a all at (λ b less. less) (kept c all)

  pub ends_measured : CallsEnd S rules R P
  ends_measured = calls_end (λ c d typed (p, has, by). let (a, at, down) = are.measured c d typed (p, has, by) in
      measured_call_ends a down d by.minimal at)

-- where a function measures each call, its values are compared

pub function_no_more : {A : Type 0} (order : Orders A) (measure : MarkedCall → A) (a : A) (c d : MarkedCall) → by_function measure c a
    → order.not_more (measure c) (measure d) → HasNoMore order (by_function measure) a d
function_no_more order measure a c d at no_more = (measure d, refl, subst (λ x. order.not_more x (measure d)) at no_more)

pub function_less : {A : Type 0} (order : Orders A) (measure : MarkedCall → A) (a : A) (c d : MarkedCall) → by_function measure c a
    → order.less (measure c) (measure d) → HasLess order (by_function measure) a d
function_less order measure a c d at less = (measure d, refl, subst (λ x. order.less x (measure d)) at less)

pub function_measures : {S : Symbols} {rules : List RewriteRule} {R : Tm → Tm → Type 0} {A : Type 0} (order : Orders A)
    (measure : MarkedCall → A) {P Q : PairData → Type 0}
    → ((a b c : A) → order.not_more a b → order.less b c → order.less a c)
    → ((d : MarkedCall) → IsTypedCall S rules d → AllByRecursion (Ends R) d.arguments → Ends order.less (measure d))
    → ((c d : MarkedCall) → IsTypedCall S rules c → ArgumentsStep R c d → order.not_more (measure c) (measure d))
    → ((p : PairData) (c d : MarkedCall) → P p → IsTypedCall S rules c → PairStep S R p c d
    → ((Q p × order.not_more (measure c) (measure d)) ⊎ order.less (measure c) (measure d)))
    → AreMeasured S rules R order (by_function measure) P Q
function_measures order measure {P = P} {Q = Q} together down arguments pairs = record {
  together = together;
  measured = λ c d typed (p, has, by). (measure d, refl, down d typed by.minimal);
  arguments = λ c d a typed at step. function_no_more order measure a c d at (arguments c d typed step);
  pairs = λ p c d a has typed at by. elim (pairs p c d has typed by) [
    | inl (stays, no_more) ↦ inl (stays, function_no_more order measure a c d at no_more)
    | inr less ↦ inr (function_less order measure a c d at less)
  ];
}
