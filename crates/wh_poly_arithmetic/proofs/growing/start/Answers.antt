-- Nothing has joined yet.
use Rattle.wh_poly.specs.Erase.{factors}
use Rattle.wh_poly_arithmetic.proofs.RoomLaws.{starts}
use Rattle.wh_poly_arithmetic.proofs.growing.start.Goals as goal

pub returns : goal.returns
returns c = starts c.args.coefficient (factors c.in_ok-factors.factors) c.requires c.fits.ensures c.in_ok-factors.ensures
