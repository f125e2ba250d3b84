-- Declarations whose sorts all have a name.
use Rattle.std.specs.Prelude.{ℕ, All}
use Rattle.wh_types.specs.Ty.{SortsBelow}
use Rattle.wh_terms.specs.Typing.{Declared}

-- each sort in the types of the declaration has a number below n
pub record IsSorted (n : ℕ) (d : Declared) : Type 0 where
  pub args : All (SortsBelow n) d.args
  pub out : SortsBelow n d.out
