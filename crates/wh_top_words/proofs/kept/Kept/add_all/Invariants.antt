use Rattle.std.proofs.Common.{All, map, take, string_bytes}
use Rattle.wh_top_words.specs.Kept.{Adds}
use Rattle.wh_top_words.specs.Words.{IsFilled, alone}
use Rattle.wh_top_words.proofs.kept.Kept.add_all.Given as goal

abbrev pub invariant-loop-word : goal.invariant-loop-word
invariant-loop-word l =
    All IsFilled (map string_bytes (take l.word-index l.words))
    × Adds l.fn.self (map alone (map string_bytes (take l.word-index l.words))) l.self
