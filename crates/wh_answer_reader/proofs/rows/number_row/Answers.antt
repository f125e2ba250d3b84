use Rattle.std.proofs.Common.{arith}
use Rattle.wh_answer_reader.proofs.OtherRows.{no_number_row}
use Rattle.wh_answer_reader.proofs.rows.number_row.Goals as goal

pub returns-in_default : goal.returns-in_default
returns-in_default c r h e =
    no_number_row r c.args.node c.args.pair c.args.word.now h (omega arith) c.in_default.not-loops c.in_default.not-text c.in_default.not-text-2 e
