use Rattle.std.proofs.Common.{◌≡◌, codes, string_bytes, rules}
use Rattle.wh_explain_words.proofs.Names.{first_word, graph_asks, lint_asks}
use Rattle.wh_explain_words.proofs.request.read_request.Goals as goal

pub returns-in_err-one_name-in-text : goal.returns-in_err-one_name-in-text
returns-in_err-one_name-in-text c =
    let first = first_word string_bytes c.args.words.now c.first-item.result c.as_str.result.now c.in-len1-up.len_at_least c.first-item.is c.as_str.ensures.value in
    let is : c.as_str.result.now ≡ codes "--lint" = search rules in
    rw c.from_residual.ensures (lint_asks _ _ (rw is at first) c.in_err-one_name-in-text.ensures)

pub returns-in_err-one_name-in-text-2 : goal.returns-in_err-one_name-in-text-2
returns-in_err-one_name-in-text-2 c =
    let first = first_word string_bytes c.args.words.now c.first-item.result c.as_str.result.now c.in-len1-up.len_at_least c.first-item.is c.as_str.ensures.value in
    let is : c.as_str.result.now ≡ codes "--graph" = search rules in
    rw c.from_residual-in_err-one_name-in-text-2.ensures (graph_asks _ _ (rw is at first) c.in_err-one_name-in-text-2.ensures)
