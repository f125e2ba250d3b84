use Rattle.wh_cert.specs.Said.{said}
use Rattle.wh_cert_text.proofs.ReadingCode.{text_of_kept}
use Rattle.wh_cert_text.proofs.reading.Reading.finish.Goals as goal

pub returns-in-Ok : goal.returns-in-Ok
returns-in-Ok c = λ bytes has few.
    text_of_kept c.args.self.reader (said c.args.self.certificate) bytes has (c.in-Ok.ensures.whole bytes has.read few)

pub returns-in-Err : goal.returns-in-Err
returns-in-Err c = λ bytes has few. c.in-Err.ensures.fault bytes has.read few
