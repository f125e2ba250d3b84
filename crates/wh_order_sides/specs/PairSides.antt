-- The sides of a pair as lists of arguments, and their extended forms as they are built.
use Rattle.std.specs.Prelude.{◌≡◌, ◌≤◌, ◌<◌, ℕ, Bool, true, false, List, [], map, Result}
use Rattle.wh_types.specs.Limits.{greatest_size}
use Rattle.wh_types.specs.Outcome.{MatchOr}
use Rattle.wh_types.specs.declared.want.Or.{Or}
use Rattle.wh_terms.specs.Tree.{Tm}
use Rattle.wh_terms.specs.Typing.{Symbols, Declared}
use Rattle.wh_terms.specs.Erase.{tm}
use Rattle.wh_terms.specs.Measures.{size}
use Rattle.wh_terms.specs.declared.term.Term.{Term}
use Rattle.wh_pairs.specs.PairData.{PairData}
use Rattle.wh_order_extended.specs.Long.{long}
use Rattle.wh_order_extended.specs.ExtendedSides.{extended_call}
use Rattle.wh_order_sides.specs.declared.room.TooWide.{TooWide}

-- the arguments of the right or the left side of a pair
abbrev pub list_of_side : PairData → Bool → List Tm
list_of_side p false = p.left
list_of_side p true = p.right

-- the terms are the extended arguments, and as the arguments of the marked symbol of f they make at most 65,536 nodes
pub record AreWholeArguments (S : Symbols) (M : List Declared) (f : ℕ) (ts : List Tm) (us : List Term) : Type 0 where
  pub same : map tm us ≡ map (long S M []) ts
  pub narrow : size (extended_call S M f ts) ≤ greatest_size

-- the call extended the arguments, or with any marked symbol they make more than 65,536 nodes
abbrev pub BuildsCall : Symbols → List Declared → List Tm → Result (List Term) (Or TooWide) → Type 0
BuildsCall S M ts r = (f : ℕ) → MatchOr r (AreWholeArguments S M f ts) (λ _. greatest_size < size (extended_call S M f ts))
