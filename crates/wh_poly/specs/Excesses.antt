-- `ExceedsAs`: a value exceeds the limit that a fault names.
use Rattle.wh_poly.specs.Polynomials.{Polynomial}
use Rattle.wh_poly.specs.Limits.{Overflows, TooLarge}
use Rattle.wh_poly.specs.declared.excess.Excess.{Excess}
use Rattle.wh_poly.specs.declared.excess.Excess.TheVariants as excess

-- the value exceeds this limit (ours)
abbrev pub ExceedsAs : Excess → Polynomial → Type 0
ExceedsAs excess.Overflow w = Overflows w
ExceedsAs excess.TooLarge w = TooLarge w
