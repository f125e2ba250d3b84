-- Values of gates that the values of inputs determine, and models of a circuit's formula.
use Rattle.std.specs.Prelude.{◌≡◌, ℕ, ◌<◌, Bool, true, List, Some, length, slice_get}
use Rattle.wh_sat_trail.specs.declared.literal.Literal.{Literal}
use Rattle.wh_sat.specs.Solving.{Solves}
use Rattle.wh_circuit.specs.declared.circuit.Gate.{Gate}
use Rattle.wh_circuit.specs.Values.{all_true}
use Rattle.wh_circuit.specs.Gates.{Agrees, Ordered}

-- values of the inputs are given ones
abbrev pub OnInputs : List Gate → (ℕ → Bool) → (ℕ → Bool) → Type 0
OnInputs gates given values = (k : ℕ) (g : Gate) → slice_get gates k ≡ Some g → g.is_input ≡ true → values k ≡ given k

-- values are as the gates say, and on inputs they are given ones
pub record Carries (gates : List Gate) (given values : ℕ → Bool) : Type 0 where
  pub agrees : Agrees gates values
  pub inputs : OnInputs gates given values

-- some model has these inputs
pub record HasModel (gates : List Gate) (clauses : List (List Literal)) (given : ℕ → Bool) : Type 0 where
  pub model : ℕ → Bool
  pub solves : Solves model clauses
  pub inputs : OnInputs gates given model

-- from these inputs the gates make all of some wires true
pub record MakesTrue (gates : List Gate) (required : List Literal) (given : ℕ → Bool) : Type 0 where
  pub values : ℕ → Bool
  pub carries : Carries gates given values
  pub met : all_true values required ≡ true

abbrev pub ValuesExist : Type 0
ValuesExist = (gates : List Gate) (given : ℕ → Bool) → Ordered gates → (values : ℕ → Bool) × Carries gates given values

abbrev pub ValuesAreUnique : Type 0
ValuesAreUnique = (gates : List Gate) (given values others : ℕ → Bool) → Ordered gates → Carries gates given values
    → Carries gates given others → (k : ℕ) → k < length gates → values k ≡ others k
