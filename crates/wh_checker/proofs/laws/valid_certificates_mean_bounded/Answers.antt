use Rattle.wh_checker.proofs.Bounded.{valid_yes-bounded}
use Rattle.wh_checker.proofs.laws.valid_certificates_mean_bounded.Goals as goal

pub returns : goal.returns
returns c d ps ranks pairs lines made has valid = valid_yes-bounded d ps ranks pairs lines made has valid
