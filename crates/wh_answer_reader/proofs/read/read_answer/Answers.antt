use Rattle.std.proofs.Common.{sym, ◌∙◌}
use Rattle.wh_answer_reader.proofs.Cut.{text_utf8}
use Rattle.wh_answer.proofs.Joined.{report_joined}
use Rattle.wh_answer_reader.proofs.read.read_answer.Goals as goal

pub returns-in_default : goal.returns-in_default
returns-in_default c r h e = c.in_default.ensures _ (sym (report_joined r) ∙ e)

pub returns-in-Err : goal.returns-in-Err
returns-in-Err c r h e =
    c.in-Err.ensures.cases.0 (text_utf8 r c.in-Some.text.now h (e ∙ sym c.in-Some.ensures))
