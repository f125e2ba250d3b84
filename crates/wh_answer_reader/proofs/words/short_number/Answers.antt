use Rattle.std.proofs.Common.{sym, ◌∙◌, arith}
use Rattle.std.proofs.lemmas.Fmt.{decimal_injective}
use Rattle.wh_answer_reader.proofs.words.short_number.Goals as goal

pub returns-else-number : goal.returns-else-number
returns-else-number c n small e =
    let given = c.in-Some.ensures in
    let same = decimal_injective n c.in-Some.number (omega arith) (omega (arith, given.0)) (e ∙ sym given.1) in
    omega arith
