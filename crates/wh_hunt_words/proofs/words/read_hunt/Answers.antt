use Rattle.std.proofs.Common.{string_bytes}
use Rattle.std.proofs.lemmas.Slice.Eq.{slice_eq-Decides}
use Rattle.std.proofs.lemmas.Bool.Decides.{Decides-eqb}
use Rattle.wh_hunt_words.proofs.Asking.{one, two, three, four, asks_one, asks_two, asks_three, asks_four}
use Rattle.wh_hunt_words.proofs.words.read_hunt.Goals as goal

pub returns-in-len1 : goal.returns-in-len1
returns-in-len1 c =
    asks_one _ c.as_str.result.now c.hunt_plainly.result
    (one string_bytes c.args.words.now c.file-item.result _ c.in-len1.len_at_least c.in-len1.len_below c.file-item.is c.as_str.ensures.value)
    c.hunt_plainly.ensures

pub returns-in-len2 : goal.returns-in-len2
returns-in-len2 c =
    asks_two _ c.as_str-in-len2.result.now c.as_str-then-words-lt3.result.now c.hunt_plainly-in-len2.result
    (two string_bytes c.args.words.now c.file-item-then-words-lt3.result c.last-item.result _ _ c.in-len2.len_at_least c.in-len2.len_below
    c.file-item-then-words-lt3.is c.last-item.is c.as_str-in-len2.ensures.value c.as_str-then-words-lt3.ensures.value)
    ((slice_eq-Decides Decides-eqb c.as_str-then-words-lt3.result.now _ c.eq.result c.eq.ensures).0 c.if-eq.true) c.hunt_plainly-in-len2.ensures

pub returns-in-len3 : goal.returns-in-len3
returns-in-len3 c =
    asks_three _ c.as_str-in-len3.result.now c.as_str-in-len3-2.result.now c.as_str-in-len3-3.result.now c.hunt_by.result
    (three string_bytes c.args.words.now c.first-item.result c.second-item.result c.third-item.result _ _ _ c.in-len3.len_at_least c.in-len3.len_below
    c.first-item.is c.second-item.is c.third-item.is c.as_str-in-len3.ensures.value c.as_str-in-len3-2.ensures.value c.as_str-in-len3-3.ensures.value)
    c.hunt_by.ensures

pub returns-in-len4 : goal.returns-in-len4
returns-in-len4 c =
    asks_four _ c.as_str-in-len4.result.now c.as_str-in-len4-2.result.now c.as_str-in-len4-3.result.now c.as_str-then-words-lt5.result.now
    c.hunt_by-in-len4.result
    (four string_bytes c.args.words.now c.first-item-then-words-lt5.result c.second-item-then-words-lt5.result c.third-item-then-words-lt5.result
    c.last-item-then-words-lt5.result _ _ _ _ c.in-len4.len_at_least c.in-len4.len_below c.first-item-then-words-lt5.is
    c.second-item-then-words-lt5.is c.third-item-then-words-lt5.is c.last-item-then-words-lt5.is c.as_str-in-len4.ensures.value
    c.as_str-in-len4-2.ensures.value c.as_str-in-len4-3.ensures.value c.as_str-then-words-lt5.ensures.value)
    ((slice_eq-Decides Decides-eqb c.as_str-then-words-lt5.result.now _ c.eq-then-words-lt5.result c.eq-then-words-lt5.ensures).0 c.if-eq-2.true) c.hunt_by-in-len4.ensures
