-- One list behind the other.
use Rattle.wh_poly_arithmetic.proofs.MergeWalk.{appended_is}
use Rattle.wh_poly_arithmetic.proofs.sums.appended.Goals as goal

pub returns : goal.returns
returns c = appended_is c.args.a c.args.b c.append.new.self c.in_ok-append.ensures
