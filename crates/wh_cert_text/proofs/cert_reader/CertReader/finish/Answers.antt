use Rattle.std.proofs.Common.{sym, ◌∙◌, subst}
use Rattle.wh_cert.specs.CertText.{FaultAt}
use Rattle.wh_cert_text.proofs.CertReaderCode.{finish_whole, finish_fault}
use Rattle.wh_cert_text.proofs.cert_reader.CertReader.finish.Goals as goal

pub returns-then-has_ended-clause-whole : goal.returns-then-has_ended-clause-whole
returns-then-has_ended-clause-whole c = λ p h short.
    finish_whole c.args.self.at c.args.self.taken p (sym c.has_ended.ensures ∙ c.if-has_ended.true) h short

pub returns-clause-fault : goal.returns-clause-fault
returns-clause-fault c = λ p h short.
    subst (FaultAt p) (sym c.from.ensures) (finish_fault c.args.self.at c.args.self.taken p (sym c.has_ended.ensures ∙ c.if-has_ended.false) h short)
