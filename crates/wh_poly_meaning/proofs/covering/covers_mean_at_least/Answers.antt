-- The sums over the moves stand between the two polynomials.
use Rattle.wh_poly_meaning.proofs.Covers.{cover_den}
use Rattle.wh_poly_meaning.proofs.covering.covers_mean_at_least.Goals as goal

pub returns : goal.returns
returns c scope v left right moves m n k h = cover_den scope v m left right n k moves h
