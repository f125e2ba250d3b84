use Rattle.std.proofs.Common.{string_bytes, map, refl, arith}
use Rattle.wh_explain_words.proofs.Names.{one_word, no_one}
use Rattle.wh_explain_words.proofs.request.one_name.Goals as goal

pub returns-in_err-names_of : goal.returns-in_err-names_of
returns-in_err-names_of c = rw c.from_residual.ensures (λ file name. c.in_err-names_of.ensures _ name)

pub returns-in-len1 : goal.returns-in-len1
returns-in-len1 c =
    let names = c.in_ok-names_of.field-0.now in
    let one = one_word string_bytes names c.file-item.result c.as_str.result.now (omega (arith, c.in-len1)) c.file-item.is c.as_str.ensures.value in
    rw one at ((c.in_ok-names_of.ensures (map string_bytes names)).1 refl)

pub returns-in-empty : goal.returns-in-empty
returns-in-empty c = no_one string_bytes _ c.in_ok-names_of.field-0.now c.in_ok-names_of.ensures (λ e. omega (arith, c.in-empty, e))

pub returns-in-len2-up : goal.returns-in-len2-up
returns-in-len2-up c = no_one string_bytes _ c.in_ok-names_of.field-0.now c.in_ok-names_of.ensures (λ e. omega (arith, c.in-len2-up, e))
