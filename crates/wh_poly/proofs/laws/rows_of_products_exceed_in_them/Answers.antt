-- A product is the sum of its rows.
use Rattle.wh_poly.proofs.CoefficientLaws.{row_overflows, row_large}
use Rattle.wh_poly.proofs.laws.rows_of_products_exceed_in_them.Goals as goal

pub returns : goal.returns
returns c = record { overflow = row_overflows; large = row_large }
