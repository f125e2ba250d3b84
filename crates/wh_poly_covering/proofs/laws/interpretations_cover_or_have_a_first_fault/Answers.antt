use Rattle.wh_poly_covering.proofs.Coverings.{covering_or_fault, small_or_fault}
use Rattle.wh_poly_covering.proofs.laws.interpretations_cover_or_have_a_first_fault.Goals as goal

pub returns-clause-unlimited : goal.returns-clause-unlimited
returns-clause-unlimited c T R E readings = covering_or_fault T R E readings

pub returns-clause-limited : goal.returns-clause-limited
returns-clause-limited c T R E readings = small_or_fault T R E readings
