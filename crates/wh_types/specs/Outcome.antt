-- What is said of the result of a call that may lack memory.
use Rattle.std.specs.Prelude.{◌≡◌, Result, Ok, Err}
use Rattle.wh_types.specs.declared.want.Or.{Or}
use Rattle.wh_types.specs.declared.want.Or.TheVariants.{NoMemory, Because}

-- P of the cause, where the call gave one; nothing is said of a value or of want of memory
abbrev pub IfBecause : {T E : Type 0} → Result T (Or E) → (E → Type 0) → Type 0
IfBecause (Ok _) P = Unit {0}
IfBecause (Err NoMemory) P = Unit {0}
IfBecause (Err (Because e)) P = P e

-- P of the value, or Q of the cause; nothing is said of want of memory
abbrev pub MatchOr : {T E : Type 0} → Result T (Or E) → (T → Type 0) → (E → Type 0) → Type 0
MatchOr (Ok x) P Q = P x
MatchOr (Err NoMemory) P Q = Unit {0}
MatchOr (Err (Because e)) P Q = Q e
