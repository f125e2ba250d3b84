-- A unit of the constant is in no move.
use Rattle.wh_poly_meaning.proofs.Covers.{strict_cover_den}
use Rattle.wh_poly_meaning.proofs.covering.strict_covers_mean_greater.Goals as goal

pub returns : goal.returns
returns c scope v left right moves m n k h = strict_cover_den scope v m left right n k moves h
