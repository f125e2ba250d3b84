-- What joins a polynomial takes nothing away.
use Rattle.wh_poly.proofs.LimitLaws.{right_overflows, right_large}
use Rattle.wh_poly.proofs.laws.partial_sums_exceed_in_the_next.Goals as goal

pub returns : goal.returns
returns c = record { overflow = right_overflows; large = right_large }
