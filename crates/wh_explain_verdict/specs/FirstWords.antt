-- What an explanation says of a certificate, by what the check answers, and the words that it begins with (ours).
use Rattle.std.specs.Prelude.{ℕ, List, codes}
use Rattle.wh_answer.specs.declared.report.Report.{Report}
use Rattle.wh_answer.specs.declared.report.Report.TheVariants as answer
use Rattle.wh_explain_verdict.specs.declared.verdict.Verdict.{Verdict}
use Rattle.wh_explain_verdict.specs.declared.verdict.Verdict.TheVariants.{Proof, Loop, Rejected, Overflow, TooLarge, Open}

-- what an answer of the check says of a certificate
abbrev pub verdict_of : Report → Verdict
verdict_of answer.Yes = Proof
verdict_of answer.No = Loop
verdict_of (answer.Rejected named) = Rejected
verdict_of (answer.Overflow k) = Overflow
verdict_of (answer.TooLarge k) = TooLarge
verdict_of _ = Open

-- the words that an explanation begins with
abbrev pub first_words : Verdict → List ℕ
first_words Proof = codes "YES: this is a proof, which the check accepts."
first_words Loop = codes "NO: this is a loop, which the check accepts."
first_words Rejected = codes "REJECTED: the check does not accept this certificate."
first_words Overflow = codes "OVERFLOW: the check does not accept this certificate."
first_words TooLarge = codes "TOO LARGE: the check does not accept this certificate."
first_words Open = codes "MAYBE: no certificate was found."
