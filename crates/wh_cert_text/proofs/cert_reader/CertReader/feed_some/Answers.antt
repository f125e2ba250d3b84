use Rattle.std.proofs.Common.{sym, refl, ◌∙◌}
use Rattle.wh_cert_text.proofs.PortionCode.{refused_some, was_no, was_unread, was_yes}
use Rattle.wh_cert_text.proofs.cert_reader.CertReader.feed_some.Goals as goal

pub returns-in-Unread-clause-fed : goal.returns-in-Unread-clause-fed
returns-in-Unread-clause-fed c = λ p stands short.
    let was = was_unread p c.args.self.now (sym c.replace.ensures.value ∙ c.in-Unread.is) stands in
    c.begin_some.ensures.fed p was.0 was.1

pub returns-in-Yes-clause-fed : goal.returns-in-Yes-clause-fed
returns-in-Yes-clause-fed c = λ p stands short.
    let was = was_yes p c.args.self.now c.in-Yes.lines (sym c.replace.ensures.value ∙ c.in-Yes.is) stands in
    c.feed_some_yes.ensures.fed p was.0 was.1

pub returns-in-No-clause-fed : goal.returns-in-No-clause-fed
returns-in-No-clause-fed c = λ p stands short.
    let was = was_no p c.args.self.now c.in-No.line (sym c.replace.ensures.value ∙ c.in-No.is) stands in
    c.feed_some_no.ensures.fed p was.0 was.1

pub returns-in-Refused-clause-fed : goal.returns-in-Refused-clause-fed
returns-in-Refused-clause-fed c = λ p stands short.
    refused_some p c.args.bytes.now c.args.self.now (record c.args.self.now { at = c.replace.new.dest }) c.refuse_some.new.self c.refuse_some.result (sym c.replace.ensures.value ∙ c.in-Refused.is) refl
    c.refuse_some.ensures stands short
