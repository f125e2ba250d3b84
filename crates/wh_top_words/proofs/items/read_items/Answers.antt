use Rattle.std.proofs.Common.{◌≡◌, map, codes, string_bytes, subst, rules}
use Rattle.wh_top_words.specs.Kept.{Knows}
use Rattle.wh_top_words.proofs.Knowing.{know_end, none_end, first_word}
use Rattle.wh_top_words.proofs.items.read_items.Goals as goal

pub returns-in_err-add_all : goal.returns-in_err-add_all
returns-in_err-add_all c =
    let all = map string_bytes c.args.words.now in
    let first = first_word string_bytes c.loop-rest.rest.now c.word-item.result c.as_str.result.now c.in-len1-up.len_at_least c.word-item.is c.as_str.ensures.value in
    let is : c.as_str.result.now ≡ codes "--" = search rules in
    rw c.from_residual.ensures (none_end _ _ c.as_str.result.now c.loop-rest.kept is c.in_err-add_all.ensures
    (subst (λ words. Knows all words c.loop-rest.kept) first c.loop-rest.invariant))

pub returns-then-eq : goal.returns-then-eq
returns-then-eq c =
    let all = map string_bytes c.args.words.now in
    let first = first_word string_bytes c.loop-rest.rest.now c.word-item.result c.as_str.result.now c.in-len1-up.len_at_least c.word-item.is c.as_str.ensures.value in
    let is : c.as_str.result.now ≡ codes "--" = search rules in
    know_end _ _ c.as_str.result.now c.loop-rest.kept c.add_all.new.self is c.in_ok-add_all.ensures.0 c.in_ok-add_all.ensures.1
    (subst (λ words. Knows all words c.loop-rest.kept) first c.loop-rest.invariant)
