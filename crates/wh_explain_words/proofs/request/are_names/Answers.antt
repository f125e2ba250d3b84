use Rattle.std.proofs.Common.{[], ◌∷◌, ◌++◌, All, map, take, string_bytes, arith, sym, ap, ◌∙◌, refl}
use Rattle.std.proofs.lemmas.Bool.{false≢true}
use Rattle.std.proofs.lemmas.List.{take_all}
use Rattle.std.proofs.lemmas.List.Elements.{All-push}
use Rattle.wh_explain_words.specs.Asked.{IsName}
use Rattle.wh_explain_words.proofs.Names.{at_turn, name_among, next_turn}
use Rattle.wh_explain_words.proofs.request.are_names.Goals as goal

pub returns-then-not-is_name : goal.returns-then-not-is_name
returns-then-not-is_name c =
    let turn = at_turn string_bytes c.args.words.now c.loop-word.word-index c.word-item.result c.loop-word-test.true c.word-item.is in (
      λ h. absurd (false≢true h),
      λ all.
          let name = name_among _ _ _ _ turn all in
          absurd (false≢true (sym c.if-not-is_name.true ∙ c.is_name.ensures.1 (rw c.as_str.ensures.value name))),
    )

pub loop-word-preserved : goal.loop-word-preserved
loop-word-preserved c =
    let words = c.args.words.now in let i = c.loop-word.word-index in
    let name = c.is_name.ensures.0 c.if-not-is_name.false in
    let all : All IsName (map string_bytes (take i words) ++ string_bytes c.word-item.result ∷ []) =
    All-push IsName (map string_bytes (take i words)) (string_bytes c.word-item.result) c.loop-word.invariant (rw c.as_str.ensures.value at name) in
    rw (next_turn string_bytes words i c.word-item.result c.loop-word-test.true c.word-item.is) all

pub returns : goal.returns
returns c =
    let e = ap (map string_bytes) (take_all c.loop-word.word-index c.args.words.now (omega arith)) in
    (λ h. rw e at c.loop-word.invariant, λ all. refl)
