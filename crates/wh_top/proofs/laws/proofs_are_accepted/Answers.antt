use Rattle.wh_cert_text.proofs.Whole.{one_certificate}
use Rattle.wh_checker.proofs.FaultLaws.{small_or_fault}
use Rattle.wh_top.proofs.laws.proofs_are_accepted.Goals as goal

pub returns : goal.returns
returns c = λ d ps cert bytes made pairs is text. (
  λ e other. one_certificate bytes e cert other text,
  λ f first. small_or_fault d ps cert f made is.valid is.small first,
)
