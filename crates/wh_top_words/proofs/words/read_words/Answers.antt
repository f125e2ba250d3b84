use Rattle.std.proofs.Common.{string_bytes, refl}
use Rattle.wh_top_words.proofs.Asking.{answered, nothing_said}
use Rattle.wh_top_words.proofs.Knowing.{first_word}
use Rattle.wh_top_words.proofs.words.read_words.Goals as goal

pub returns-in_err-kept : goal.returns-in_err-kept
returns-in_err-kept c =
    let command = string_bytes c.command-item.result in
    let first = first_word string_bytes c.args.words.now c.command-item.result command c.in-len1-up.len_at_least c.command-item.is refl in
    rw (c.from_residual.ensures, first) (nothing_said command _ c.in_err-kept.ensures)

pub returns : goal.returns
returns c =
    let command = c.as_str.result.now in
    let first = first_word string_bytes c.args.words.now c.command-item.result command c.in-len1-up.len_at_least c.command-item.is c.as_str.ensures.value in
    rw first (answered command _ c.in_ok-kept.kept c.asked.result c.in_ok-kept.ensures c.asked.ensures)
