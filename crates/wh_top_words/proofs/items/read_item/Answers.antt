use Rattle.std.proofs.Common.{◌∷◌, string_bytes, subst}
use Rattle.wh_top_words.specs.Kept.{Knows}
use Rattle.wh_top_words.specs.Options.{which}
use Rattle.wh_top_words.proofs.Knowing.{know_plain, know_joined, know_apart, none_plain, none_joined, none_apart, first_word}
use Rattle.wh_top_words.proofs.items.read_item.Goals as goal

pub returns-then-is_plain-clause-read : goal.returns-then-is_plain-clause-read
returns-then-is_plain-clause-read c = λ all k.
    know_plain all _ c.args.word.now c.args.kept.now c.add.new.self (c.is_plain.ensures.0 c.if-is_plain.true) c.in_ok-add.ensures k

pub returns-in_err-add-clause-read : goal.returns-in_err-add-clause-read
returns-in_err-add-clause-read c = rw c.from_residual.ensures (λ all k.
    none_plain all _ c.args.word.now c.args.kept.now (c.is_plain.ensures.0 c.if-is_plain.true) c.in_err-add.ensures k)

pub returns-in_err-set-in-None-clause-read : goal.returns-in_err-set-in-None-clause-read
returns-in_err-set-in-None-clause-read c =
    let option = c.in_ok-setting.ensures in
    let first = first_word string_bytes c.args.behind.now c.number-item.result c.as_str.result.now c.in-len1-up.len_at_least c.number-item.is c.as_str.ensures.value in
    rw c.from_residual-in_err-set-in-None.ensures (λ all k.
    none_apart all _ c.args.word.now c.as_str.result.now (which c.in_ok-setting.setting) c.args.kept.now (rw c.in-None.is at option)
    c.in_err-set-in-None.ensures (subst (λ words. Knows all (c.args.word.now ∷ words) c.args.kept.now) first k))

pub returns-in_err-set-in-Some-clause-read : goal.returns-in_err-set-in-Some-clause-read
returns-in_err-set-in-Some-clause-read c =
    let option = c.in_ok-setting.ensures in
    rw c.from_residual-in_err-set-in-Some.ensures (λ all k.
    none_joined all _ c.args.word.now c.in-Some.number.now (which c.in_ok-setting.setting) c.args.kept.now (rw c.in-Some.is at option) c.in_err-set-in-Some.ensures k)

pub returns-in_ok-set-in-Some-clause-read : goal.returns-in_ok-set-in-Some-clause-read
returns-in_ok-set-in-Some-clause-read c =
    let option = c.in_ok-setting.ensures in
    λ all k. know_joined all _ c.args.word.now c.in-Some.number.now (which c.in_ok-setting.setting) c.args.kept.now c.set.new.self (rw c.in-Some.is at option) c.in_ok-set-in-Some.ensures k

pub returns-in_ok-set-in-None-clause-read : goal.returns-in_ok-set-in-None-clause-read
returns-in_ok-set-in-None-clause-read c =
    let option = c.in_ok-setting.ensures in
    let first = first_word string_bytes c.args.behind.now c.number-item.result c.as_str.result.now c.in-len1-up.len_at_least c.number-item.is c.as_str.ensures.value in
    λ all k. know_apart all _ c.args.word.now c.as_str.result.now (which c.in_ok-setting.setting) c.args.kept.now c.set-in-None.new.self
    (rw c.in-None.is at option) c.in_ok-set-in-None.ensures (subst (λ words. Knows all (c.args.word.now ∷ words) c.args.kept.now) first k)
