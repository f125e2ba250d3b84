-- What is added takes nothing away.
use Rattle.wh_poly.proofs.LimitLaws.{left_overflows}
use Rattle.wh_poly.proofs.CoefficientLaws.{left_large}
use Rattle.wh_poly.proofs.laws.parts_of_sums_exceed_in_them.Goals as goal

pub returns : goal.returns
returns c = record { overflow = left_overflows; large = left_large }
