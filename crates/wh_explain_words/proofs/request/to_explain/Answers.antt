use Rattle.std.proofs.Common.{string_bytes, map, refl, arith}
use Rattle.std.proofs.lemmas.List.{length-map}
use Rattle.wh_explain_words.proofs.Names.{few_none, two_words, one_word}
use Rattle.wh_explain_words.proofs.request.to_explain.Goals as goal

pub returns-in_err-names_of : goal.returns-in_err-names_of
returns-in_err-names_of c = rw c.from_residual.ensures (λ names name few. c.in_err-names_of.ensures names name)

pub returns-in-len1 : goal.returns-in-len1
returns-in-len1 c =
    let names = c.in_ok-names_of.field-0.now in
    let one = one_word string_bytes names c.file-item.result c.as_str.result.now (omega (arith, c.in-len1)) c.file-item.is c.as_str.ensures.value in
    rw one at ((c.in_ok-names_of.ensures (map string_bytes names)).1 refl)

pub returns-in-len2 : goal.returns-in-len2
returns-in-len2 c =
    let names = c.in_ok-names_of.field-0.now in
    let two = two_words string_bytes names c.file-item-then-this-lt3.result c.cert-item.result c.as_str-in-len2.result.now c.as_str-in-len2-2.result.now
    (omega (arith, c.in-len2)) c.file-item-then-this-lt3.is c.cert-item.is c.as_str-in-len2.ensures.value c.as_str-in-len2-2.ensures.value in
    rw two at ((c.in_ok-names_of.ensures (map string_bytes names)).1 refl)

pub returns-in-empty : goal.returns-in-empty
returns-in-empty c =
    let names = c.in_ok-names_of.field-0.now in
    let same = length-map names string_bytes in
    few_none _ _ c.in_ok-names_of.ensures (λ e. omega (arith, c.in-empty, same, e)) (λ e. omega (arith, c.in-empty, same, e))

pub returns-in-len3-up : goal.returns-in-len3-up
returns-in-len3-up c =
    let names = c.in_ok-names_of.field-0.now in
    let same = length-map names string_bytes in
    few_none _ _ c.in_ok-names_of.ensures (λ e. omega (arith, c.in-len3-up, same, e)) (λ e. omega (arith, c.in-len3-up, same, e))
