use Rattle.std.proofs.Common.{◌≡◌, string_bytes, codes, rules}
use Rattle.wh_explain_words.proofs.Names.{first_word, named_behind}
use Rattle.wh_explain_words.proofs.request.names_of.Goals as goal

pub returns : goal.returns
returns c =
    let first = first_word string_bytes c.args.words.now c.first-item.result c.as_str.result.now c.in-len1-up.len_at_least c.first-item.is c.as_str.ensures.value in
    let is : c.as_str.result.now ≡ codes "--" = search rules in
    named_behind _ _ (rw is at first)
