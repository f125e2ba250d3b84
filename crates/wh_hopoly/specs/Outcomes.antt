-- The answers of the calls that evaluate an expression: a normal value, or a limit and the part that passes it.
use Rattle.std.specs.Prelude.{◌≡◌, List, [], ◌∷◌, Contains}
use Rattle.wh_types.specs.Ty.{Ty}
use Rattle.wh_poly.specs.Polynomials.{Polynomial, Arguments}
use Rattle.wh_hopoly.specs.Evaluation.{Run, Expression, apply, Interpretation}
use Rattle.wh_poly.specs.Limits.{Exceeds, Overflows, TooLarge}
use Rattle.wh_poly.specs.Excesses.{ExceedsAs}
use Rattle.wh_hopoly.specs.NumberedParts.{ValueOfPart}
use Rattle.wh_poly.specs.declared.excess.Excess.{Excess}
use Rattle.wh_hopoly.specs.declared.fault.PolyFault.{PolyFault}
use Rattle.wh_hopoly.specs.declared.fault.PolyFault.TheVariants.{Overflow, TooLarge as too_large}

-- p is the result, and no value on the way to it exceeds a limit (ours)
abbrev pub ComesTo : Run Polynomial → Polynomial → Type 0
ComesTo run p = (p ≡ run.result) × ((w : Polynomial) → Contains run.values w → Exceeds w → ⊥)

-- the arguments ps are the result, and no value on the way to them exceeds a limit (ours)
abbrev pub ComesToArguments : Run Arguments → Arguments → Type 0
ComesToArguments run ps = (ps ≡ run.result) × ((w : Polynomial) → Contains run.values w → Exceeds w → ⊥)

-- some value on the way exceeds the limit that is named (ours)
abbrev pub PassesLimit : {A : Type 0} → Run A → Excess → Type 0
PassesLimit run e = (w : Polynomial) × Contains run.values w × ExceedsAs e w

-- the rule of the part that is named gives a value that exceeds the limit that is named (ours)
abbrev pub IsFaultOf : List Interpretation → List Ty → Expression → PolyFault → Type 0
IsFaultOf symbols Γ e (Overflow k) = (w : Polynomial) × ValueOfPart symbols Γ e k w × Overflows w
IsFaultOf symbols Γ e (too_large k) = (w : Polynomial) × ValueOfPart symbols Γ e k w × TooLarge w

-- an expression applied to others in turn (ours)
abbrev pub applied_to : Expression → List Expression → Expression
applied_to e [] = e
applied_to e (d ∷ ds) = applied_to (apply e d) ds
