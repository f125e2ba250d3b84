-- What the law of reduction pairs asks, whatever orders the calls: two orders that go together, and calls that are
-- measured in them.
use Rattle.std.specs.Prelude.{ℕ, ◌≡◌, ◌<◌, ◌≤◌, ◌⊎◌, List}
use Rattle.wh_terms.specs.Tree.{Tm}
use Rattle.wh_terms.specs.Typing.{Symbols}
use Rattle.wh_terms.specs.Rules.{RewriteRule}
use Rattle.wh_pairs.specs.PairData.{PairData}
use Rattle.wh_step_laws.specs.Ends.{Ends}
use Rattle.wh_proof_calls.specs.MarkedCalls.{MarkedCall, IsTypedCall, PairStep, ArgumentsStep, SomePairStep}

-- two orders: `less a b` says that b is less than a, and `not_more a b` that b is not more than a (Kop 2012, the two
-- orders of a reduction pair)
pub record Orders (A : Type 0) : Type 1 where
  pub less : A → A → Type 0
  pub not_more : A → A → Type 0

-- the two orders of the numbers
abbrev pub by_numbers : Orders ℕ
by_numbers = record { less = λ a b. b < a; not_more = λ a b. b ≤ a }

-- each call has one measure, that of the function
abbrev pub by_function : {A : Type 0} → (MarkedCall → A) → MarkedCall → A → Type 0
by_function measure c a = measure c ≡ a

-- the call has a measure that is not more than a
abbrev pub HasNoMore : {A : Type 0} → Orders A → (MarkedCall → A → Type 0) → A → MarkedCall → Type 0
HasNoMore {A = A} order measures a c = (b : A) × measures c b × order.not_more a b

-- the call has a measure that is less than a
abbrev pub HasLess : {A : Type 0} → Orders A → (MarkedCall → A → Type 0) → A → MarkedCall → Type 0
HasLess {A = A} order measures a c = (b : A) × measures c b × order.less a b

-- calls are measured in the orders, so that no step makes a measure more, and pairs of which P holds make it less
-- unless Q holds of them (Kop 2012, the reduction pair processor; that the measure is a relation, which calls need not
-- have, is ours)
pub record AreMeasured (S : Symbols) (rules : List RewriteRule) (R : Tm → Tm → Type 0) {A : Type 0} (order : Orders A)
    (measures : MarkedCall → A → Type 0) (P Q : PairData → Type 0) : Type 0 where
  -- what is less than something that is not more is less
  pub together : (a b c : A) → order.not_more a b → order.less b c → order.less a c
  -- a call that such a pair leads to has a measure, from which no endless descent goes out
  pub measured : (c d : MarkedCall) → IsTypedCall S rules d → SomePairStep S R P c d → (a : A) × measures d a × Ends order.less a
  -- what a call with a measure leads to by a step in an argument has one that is not more
  pub arguments : (c d : MarkedCall) (a : A) → IsTypedCall S rules c → measures c a → ArgumentsStep R c d → HasNoMore order measures a d
  -- a call that a pair leads to has a measure that is less, or one that is not more where Q holds of the pair
  pub pairs : (p : PairData) (c d : MarkedCall) (a : A) → P p → IsTypedCall S rules c → measures c a → PairStep S R p c d
      → ((Q p × HasNoMore order measures a d) ⊎ HasLess order measures a d)
