use Rattle.std.proofs.Common.{rules}
use Rattle.wh_answer.specs.Words.{BeginsNumber}
use Rattle.wh_answer.proofs.Numbers.{spelled, not_spelled, bad_front}
use Rattle.wh_answer.proofs.number.long_number.Goals as goal

pub returns-then-not-begins_number : goal.returns-then-not-begins_number
returns-then-not-begins_number c =
    let bad : BeginsNumber c.args.word.now → ⊥ = search rules in
    bad_front c.args.word.now bad

pub returns-in-Ok : goal.returns-in-Ok
returns-in-Ok c =
    let front : BeginsNumber c.args.word.now = search rules in
    spelled c.args.word.now c.parse.result _ c.parse.ensures.value.0 c.in-Ok.is front

pub returns-in-Err : goal.returns-in-Err
returns-in-Err c = not_spelled c.args.word.now c.parse.result _ c.parse.ensures.value.0 c.in-Err.is
