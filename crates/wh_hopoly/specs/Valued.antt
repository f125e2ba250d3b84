-- The answers of the evaluation of a single part of an expression.
use Rattle.std.specs.Prelude.{ℕ, ◌+◌, ◌≡◌, List, [], ◌∷◌, ◌++◌, Result, Ok, Err, Some, slice_get}
use Rattle.wh_types.specs.Ty.{Ty}
use Rattle.wh_types.specs.Erase.{ty}
use Rattle.wh_types.specs.declared.want.Or.{Or}
use Rattle.wh_types.specs.declared.want.Or.TheVariants.{NoMemory, Because}
use Rattle.wh_poly.specs.Polynomials.{Polynomial}
use Rattle.wh_hopoly.specs.Evaluation.{Run, Expression, Interpretation, evaluate, type_of}
use Rattle.wh_poly.specs.Limits.{Overflows, TooLarge}
use Rattle.wh_hopoly.specs.NumberedParts.{ValueOfPart}
use Rattle.wh_hopoly.specs.Outcomes.{ComesTo}
use Rattle.wh_poly.specs.Erase.{poly}
use Rattle.wh_hopoly.specs.Erase.{interpretations}
use Rattle.wh_poly.specs.declared.excess.Excess.{Excess}
use Rattle.wh_poly.specs.declared.excess.Excess.TheVariants as excess
use Rattle.wh_hopoly.specs.declared.fault.PolyFault.{PolyFault}
use Rattle.wh_hopoly.specs.declared.fault.PolyFault.TheVariants as fault
use Rattle.wh_hopoly.specs.declared.table.Table.{Table}
use Rattle.wh_hopoly.specs.declared.table.Table.TheVariants.{Alone, With}
use Rattle.wh_hopoly.specs.declared.valued.Valued.{Valued}

-- the interpretations of the symbols, and behind them that of one more function, if there is one (ours)
abbrev pub readings : Table → List Interpretation
readings (Alone symbols) = interpretations symbols.now
readings (With symbols kind value) = interpretations symbols.now ++ record { kind = ty kind.now; polynomial = poly value.now } ∷ []

-- the symbol is one of them (ours)
abbrev pub IsKnown : List Interpretation → ℕ → Type 0
IsKnown symbols f = (s : Interpretation) × slice_get symbols f ≡ Some s

-- the value is that of the run, and within the limits on the way, and its type is A (ours)
abbrev pub Yields : Run Polynomial → Ty → Valued → Type 0
Yields run A v = ComesTo run (poly v.value) × (ty v.kind ≡ A)

-- the value and the type of an expression (ours)
abbrev pub IsValueOf : List Interpretation → List Ty → Expression → Valued → Type 0
IsValueOf symbols Γ e v = Yields (evaluate symbols Γ e) (type_of symbols Γ e) v

-- the limit, and the part that passes it (ours)
abbrev pub fault_at : ℕ → Excess → PolyFault
fault_at at excess.Overflow = fault.Overflow at
fault_at at excess.TooLarge = fault.TooLarge at

-- the answer, where the part that passes the limit is named (ours)
abbrev pub located_at : ℕ → Result Valued (Or Excess) → Result Valued (Or PolyFault)
located_at at (Ok v) = Ok v
located_at at (Err NoMemory) = Err NoMemory
located_at at (Err (Because e)) = Err (Because (fault_at at e))

-- the rule of the part that is named gives a value that exceeds the limit that is named, where the parts are numbered
-- from n (ours)
abbrev pub IsFaultFrom : ℕ → List Interpretation → List Ty → Expression → PolyFault → Type 0
IsFaultFrom n symbols Γ e (fault.Overflow m) = (k : ℕ) × (m ≡ n + k) × (w : Polynomial) × ValueOfPart symbols Γ e k w × Overflows w
IsFaultFrom n symbols Γ e (fault.TooLarge m) = (k : ℕ) × (m ≡ n + k) × (w : Polynomial) × ValueOfPart symbols Γ e k w × TooLarge w
