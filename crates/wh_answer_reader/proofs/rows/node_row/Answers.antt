use Rattle.std.proofs.Common.{rules}
use Rattle.wh_answer_reader.proofs.OtherRows.{no_short_row, no_long_row}
use Rattle.wh_answer_reader.proofs.rows.node_row.Goals as goal
use Rattle.wh_answer_reader.proofs.rows.node_row.Goals.{in_default-rest-via-then-rest-lt1, in_default-rest-via-else-rest-lt1+else-rest-lt2+else-rest-lt3+else-rest-lt4+else-rest-lt5}

pub returns-in_default-rest : goal.returns-in_default-rest
returns-in_default-rest c =
    λ r stands e. elim c.in_default-rest.branch [
      | in_default-rest-via-then-rest-lt1 w ↦ no_short_row r c.args.number.now c.args.rest.now e (search rules)
      | in_default-rest-via-else-rest-lt1+else-rest-lt2+else-rest-lt3+else-rest-lt4+else-rest-lt5 w ↦
          no_long_row r c.args.number.now c.args.rest.now e (search rules)
    ]
