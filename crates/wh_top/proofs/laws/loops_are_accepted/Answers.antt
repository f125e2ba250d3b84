use Rattle.wh_cert_text.proofs.Whole.{one_certificate}
use Rattle.wh_checker.proofs.FaultLaws.{small_or_fault}
use Rattle.wh_prover.proofs.LoopLemmas.{loop_is_valid, loop_is_small}
use Rattle.wh_top.proofs.laws.loops_are_accepted.Goals as goal

pub returns : goal.returns
returns c = λ d ps depth cert bytes made is text. (
  λ e other. one_certificate bytes e cert other text,
  λ f first. small_or_fault d ps cert f made (loop_is_valid d ps depth cert is) (loop_is_small d ps depth cert is) first,
)
