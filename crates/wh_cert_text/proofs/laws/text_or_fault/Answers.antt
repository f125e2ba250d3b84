use Rattle.wh_cert_text.proofs.TextOrFault.{text_or_fault}
use Rattle.wh_cert_text.proofs.laws.text_or_fault.Goals as goal

pub returns : goal.returns
returns c = text_or_fault
