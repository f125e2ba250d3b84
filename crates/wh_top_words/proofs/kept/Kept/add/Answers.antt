use Rattle.std.proofs.Common.{◌≤◌, length, ◌++◌, [], ◌∷◌, ◌≡◌, refl, arith}
use Rattle.wh_top_words.specs.Kept.{words_of}
use Rattle.wh_top_words.proofs.Keeping.{adds_word, two_are_all}
use Rattle.wh_top_words.proofs.kept.Kept.add.Goals as goal
use Rattle.wh_top_words.proofs.kept.Kept.add.Goals.{in-Nothing, in-One}

pub returns-in-Two : goal.returns-in-Two
returns-in-Two c =
    let two : 2 ≤ length (words_of c.args.self.now.alone) = rw c.in-Two.is (omega arith) in
    two_are_all c.args.self.now c.args.word.now two

pub returns : goal.returns
returns c =
    let words : words_of c.match-self.self ≡ words_of c.args.self.now.alone ++ c.args.word.now ∷ [] = elim c.match-self.branch [
      | in-Nothing w ↦ rw (w.self-is, w.in-Nothing.is) refl
      | in-One w ↦ rw (w.self-is, w.in-One.is) refl
    ] in
    adds_word c.args.self.now _ c.args.word.now (record { words = words; tries = refl; depth = refl; visited = refl; steps = refl })
