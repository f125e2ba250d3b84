-- When a claim holds of two trees behind filters, and what is demanded of the bits of the filters then.
use Rattle.std.specs.Prelude.{ℕ, ◌+◌, ◌≡◌, ◌<◌, ◌⊎◌, Bool, true, nat_lt, not, List, [], length, Option, None, Some, slice_get}
use Rattle.wh_terms.specs.Tree.{Tm, fun, head}
use Rattle.wh_terms.specs.Typing.{Symbols, Declared}
use Rattle.wh_order_inference.specs.Filters.{Filter, keep, pick}
use Rattle.wh_order_inference.specs.Inferences.{Letter, Inferences}
use Rattle.wh_order_extended.specs.Filtered.{sift, precedences}
use Rattle.wh_order_path.specs.Heads.{arguments_of}
use Rattle.wh_order_path.specs.Verdict.{Task, greater, above, tasks, verdicts}
use Rattle.wh_order_demands.specs.declared.claim.Claim.{Claim}
use Rattle.wh_order_demands.specs.declared.claim.Claim.TheVariants.{Equal, Greater, AtLeast, Above, PartGreater}
use Rattle.wh_order_demands.specs.declared.demand.Demand.{Demand}
use Rattle.wh_order_demands.specs.declared.view.Spot.{Spot}
use Rattle.wh_order_demands.specs.Demands.{holds}

-- by some letter the parts of the task can be made good, over some signature and some meta-variables
pub record IsShown (prec : ℕ → ℕ) (k : Task) : Type 0 where
  pub signature : Symbols
  pub metas : List Declared
  pub letter : Letter
  pub place : ℕ
  pub parts : Inferences
  pub asked : List Task
  pub asks : tasks signature prec metas k letter place parts ≡ Some asked
  pub good : verdicts signature prec metas asked parts ≡ None

module _ (Φ : ℕ → Filter) where
  -- the tree behind the filters
  abbrev pub behind : Tm → Tm
  behind t = sift Φ t []

  -- the symbol that heads the tree keeps arguments
  pub record IsKept (s : Tm) : Type 0 where
    pub symbol : ℕ
    pub precedence : ℕ
    pub places : List ℕ
    pub headed : head s ≡ fun symbol
    pub keeps : Φ symbol ≡ keep precedence places

  -- behind the filters the left tree is greater
  pub record IsGreater (s t : Tm) : Type 0 where
    pub next : ℕ
    pub shown : IsShown (precedences Φ) (record { claim = greater; next = next; left = behind s; right = behind t })

  -- behind the filters the left tree is above the right one, whatever binders were passed
  pub record IsAbove (s t : Tm) : Type 0 where
    pub kept : IsKept s
    pub from : ℕ
    pub next : ℕ
    pub shown : IsShown (precedences Φ) (record { claim = above from; next = next; left = behind s; right = behind t })

  -- an argument that its symbol keeps is greater than the right one
  pub record IsPartGreater (s t : Tm) : Type 0 where
    pub kept : IsKept s
    pub next : ℕ
    pub place : ℕ
    pub part : Tm
    pub at : slice_get (arguments_of (behind s)) place ≡ Some part
    pub shown : IsShown (precedences Φ) (record { claim = greater; next = next; left = part; right = behind t })

  -- the claim holds of the two trees behind the filters (ours)
  abbrev pub Holds : Claim → Tm → Tm → Type 0
  Holds Equal s t = behind s ≡ behind t
  Holds Greater s t = IsGreater s t
  Holds AtLeast s t = (behind s ≡ behind t) ⊎ IsGreater s t
  Holds Above s t = IsAbove s t
  Holds PartGreater s t = IsPartGreater s t

-- the place stands in the list
abbrev pub HasPlace : List ℕ → ℕ → Type 0
HasPlace is i = (m : ℕ) × (slice_get is m ≡ Some i)

-- the bits of a symbol with k places, the first of which is x, say this of its filter: first comes a bit for each place
-- that is set where the place is kept, and then one for each that is set where it is picked (ours)
pub record Says (v : ℕ → Bool) (x k : ℕ) (φ : Filter) : Type 0 where
  pub within : (p : ℕ) (is : List ℕ) (i : ℕ) → φ ≡ keep p is → HasPlace is i → i < k
  pub in_order : (p : ℕ) (is : List ℕ) (m n i j : ℕ) → φ ≡ keep p is → slice_get is m ≡ Some i → slice_get is n ≡ Some j → j < i → n < m
  pub kept : (p : ℕ) (is : List ℕ) (i : ℕ) → φ ≡ keep p is → HasPlace is i → v (x + i) ≡ true
  pub others : (p : ℕ) (is : List ℕ) (i : ℕ) → φ ≡ keep p is → i < k → v (x + i) ≡ true → HasPlace is i
  pub none_picked : (p : ℕ) (is : List ℕ) (i : ℕ) → φ ≡ keep p is → i < k → v (k + x + i) ≡ true → ⊥
  pub picked : (i : ℕ) → φ ≡ pick i → (i < k) × (v (k + x + i) ≡ true)
  pub one_picked : (i j : ℕ) → φ ≡ pick i → j < k → v (k + x + j) ≡ true → j ≡ i
  pub none_kept : (i j : ℕ) → φ ≡ pick i → j < k → v (x + j) ≡ true → ⊥

-- behind these bits of a symbol, with k places and the first bit x, the one that is set where its precedence is at
-- least that of g
abbrev pub order_bit : (k x g : ℕ) → ℕ
order_bit k x g = k + (k + x) + g

-- bits say filters and how precedences compare, of each symbol that has bits
pub record SayFilters (spots : List (Option Spot)) (v : ℕ → Bool) (Φ : ℕ → Filter) : Type 0 where
  pub filters : (m : ℕ) (spot : Spot) → slice_get spots m ≡ Some (Some spot) → Says v spot.first spot.places (Φ m)
  pub orders : (m g : ℕ) (spot : Spot) → slice_get spots m ≡ Some (Some spot) → g < length spots
      → v (order_bit spot.places spot.first g) ≡ not (nat_lt (precedences Φ m) (precedences Φ g))

-- wherever bits say filters behind which the claim holds, they meet the demand (ours)
abbrev pub IsPossible : List (Option Spot) → Claim → Tm → Tm → Demand → Type 0
IsPossible spots c s t demand = (v : ℕ → Bool) (Φ : ℕ → Filter) → SayFilters spots v Φ → Holds Φ c s t → holds v demand ≡ true
