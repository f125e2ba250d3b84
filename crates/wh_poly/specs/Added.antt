-- The variables that a type adds: how they are numbered, how heavy they are, and how deep their arguments nest.
use Rattle.std.specs.Prelude.{ℕ, suc, ◌+◌, length, max}
use Rattle.wh_types.specs.Ty.{Ty, sort, ◌⇒◌, arguments}
use Rattle.wh_poly.specs.Polynomials.{Polynomial, Arguments, no_arguments, argument}
use Rattle.wh_poly.specs.Arithmetic.{atom}

-- the variables numbered from i, one for each argument of the type, as arguments in a scope of length n (ours)
abbrev pub added : Ty → ℕ → ℕ → Arguments
added (sort s) n i = no_arguments
added (A ⇒ B) n i = argument (atom i (added A (n + length (arguments A)) n)) (added B n (suc i))

-- the value of the variable x of this type in a scope of length n: itself at the added variables (Fuhs and Kop 2012)
abbrev pub variable : Ty → ℕ → ℕ → Polynomial
variable A n x = atom x (added A (n + length (arguments A)) n)

-- a monomial and a factor for each argument of the type, and what the argument's own type adds (ours)
abbrev pub added_weight : Ty → ℕ
added_weight (sort s) = 0
added_weight (A ⇒ B) = (2 + added_weight A) + added_weight B

-- each argument is one level deeper than what its own type adds (ours)
abbrev pub added_nesting : Ty → ℕ
added_nesting (sort s) = 0
added_nesting (A ⇒ B) = max (1 + added_nesting A) (added_nesting B)
