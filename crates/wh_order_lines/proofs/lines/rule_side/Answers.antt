use Rattle.std.proofs.Common.{arith}
use Rattle.wh_order_lines.proofs.lines.rule_side.Goals as goal

pub returns-in-Err-Because : goal.returns-in-Err-Because
returns-in-Err-Because c r at narrow =
    let wide = rw c.in-Err-Because.field-0-is at (c.in-Err-Because.ensures r at) in
    omega (arith, wide, narrow)
