use Rattle.std.proofs.Common.{[], ◌∷◌, ◌++◌, map, take, string_bytes, arith, sym, ap, ◌∙◌}
use Rattle.std.proofs.lemmas.List.{take_all}
use Rattle.wh_top_words.proofs.AllWords.{AddsWords, adds_no_words, adds_one_more, adds_none_of, at_turn, next_turn, no_bytes, some_bytes, empty_among}
use Rattle.wh_top_words.proofs.kept.Kept.add_all.Goals as goal

pub loop-word-init : goal.loop-word-init
loop-word-init c = adds_no_words c.args.self.now

pub returns-then-is_empty : goal.returns-then-is_empty
returns-then-is_empty c =
    let words = c.args.words.now in let i = c.loop-word.word-index in
    let turn = at_turn string_bytes words i c.word-item.result c.loop-word-test.true c.word-item.is in
    let empty = no_bytes c.as_str-word.result.now (sym c.if-is_empty.ensures) in
    λ filled. absurd (empty_among _ _ _ _ turn (sym c.as_str-word.ensures.value ∙ empty) filled)

pub returns-in_err-add : goal.returns-in_err-add
returns-in_err-add c =
    let words = c.args.words.now in let i = c.loop-word.word-index in
    let turn = at_turn string_bytes words i c.word-item.result c.loop-word-test.true c.word-item.is in
    let none = rw c.as_str-word.ensures.value at c.in_err-add.ensures in
    rw c.from_residual.ensures (λ filled. adds_none_of c.args.self.now c.loop-word.self _ _ _ _ turn c.loop-word.invariant.1 none)

pub loop-word-preserved : goal.loop-word-preserved
loop-word-preserved c =
    let words = c.args.words.now in let i = c.loop-word.word-index in
    let turn = next_turn string_bytes words i c.word-item.result c.loop-word-test.true c.word-item.is in
    let filled = some_bytes c.as_str-word.result.now (sym c.if-is_empty.ensures) in
    let one = c.in_ok-add.ensures in
    let all : AddsWords c.args.self.now (map string_bytes (take i words) ++ string_bytes c.word-item.result ∷ []) c.add.new.self =
    adds_one_more c.args.self.now c.loop-word.self c.add.new.self _ _ c.loop-word.invariant
    (rw c.as_str-word.ensures.value at filled) (rw c.as_str-word.ensures.value at one) in
    rw turn all

pub returns : goal.returns
returns c =
    let words = c.args.words.now in
    let e = ap (map string_bytes) (take_all c.loop-word.word-index words (omega arith)) in
    rw e at c.loop-word.invariant
