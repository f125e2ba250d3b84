use Rattle.wh_answer_reader.proofs.OtherRows.{no_marked_row}
use Rattle.wh_answer_reader.proofs.rows.marked_symbol_row.Goals as goal

pub returns-in_default : goal.returns-in_default
returns-in_default c r h e =
    no_marked_row r c.args.node c.args.word.now c.args.symbol h c.requires c.in_default.not-text c.in_default.not-text-2 e
