use Rattle.std.proofs.Common.{All, map, take, string_bytes}
use Rattle.wh_explain_words.specs.Asked.{IsName}
use Rattle.wh_explain_words.proofs.request.are_names.Given as goal

abbrev pub invariant-loop-word : goal.invariant-loop-word
invariant-loop-word l = All IsName (map string_bytes (take l.word-index l.words))
