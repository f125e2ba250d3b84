-- Nothing has joined yet.
use Rattle.wh_poly.specs.Erase.{poly, factors}
use Rattle.wh_poly_arithmetic.proofs.RoomLaws.{begins}
use Rattle.wh_poly_arithmetic.proofs.growing.begun.Goals as goal

pub returns : goal.returns
returns c =
    begins (poly c.args.first) c.greatest_coefficient-greatest.result c.left_behind-left.result (factors c.new-factors.result) c.requires.ordered c.requires.within
    c.greatest_coefficient-greatest.ensures c.fits.ensures c.left_behind-left.ensures c.new-factors.ensures
