use Rattle.std.proofs.Common.{◌≡◌, rules, tests}
use Rattle.std.specs.List.{list_all}
use Rattle.std.proofs.lemmas.Iterator.{YieldsList-from_slice}
use Rattle.std.proofs.lemmas.Iterator.Search.{all_from_yields_List}
use Rattle.wh_text.specs.Chars.{is_part}
use Rattle.wh_answer_reader.proofs.Spelled.{all_passes, passes_all}
use Rattle.wh_answer_reader.proofs.words.all_parts.Goals as goal

pub returns : goal.returns
returns c =
    let same : c.all.result ≡ list_all is_part c.args.word.now = all_from_yields_List is_part _ _ c.all.result c.all.ensures.ran (YieldsList-from_slice c.args.word.now cc) (λ x b q k. search (rules, tests)) in
    let to = all_passes is_part c.args.word.now in
    let from = passes_all is_part c.args.word.now in
    grind (rules, tests)
