-- What is left tells that the value is light enough.
use Rattle.std.proofs.Common.{refl}
use Rattle.wh_poly.specs.Erase.{poly}
use Rattle.wh_poly_arithmetic.proofs.TotalLaws.{leaves_within}
use Rattle.wh_poly_arithmetic.proofs.totals.Total.within.Goals as goal

pub returns-in-Some-clause-ok : goal.returns-in-Some-clause-ok
returns-in-Some-clause-ok c = (refl, leaves_within c.args.self.now.left c.in-Some.field-0 (poly c.args.value) c.in-Some.is c.coefficients_fit.ensures c.requires)
