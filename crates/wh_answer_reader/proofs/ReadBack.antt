-- What is read from the line of an answer is that answer.
use Rattle.std.proofs.Common.{◌≡◌, Option, Some, None, refl, ap}
use Rattle.wh_answer.specs.declared.report.Report.{Report}
use Rattle.wh_answer.specs.Stands.{Reads, Stands}
use Rattle.wh_answer.specs.Texts.{report_text}
use Rattle.wh_answer.proofs.SameAnswer.{one_answer}

pub read_back : (r : Report) (found : Option Report) → Stands r → Reads Stands report_text (report_text r) found → found ≡ Some r
read_back r None h none = absurd (none r h refl)
read_back r (Some s) h some = ap (λ (x : Report). Some x) (one_answer s r some.0 h some.1)
