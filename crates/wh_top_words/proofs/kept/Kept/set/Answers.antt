use Rattle.wh_top_words.specs.Options.{which}
use Rattle.wh_top_words.specs.Kept.{Within}
use Rattle.wh_top_words.proofs.Keeping.{spells_none, spells_other, told_tries, told_depth, told_visited, told_steps}
use Rattle.wh_top_words.proofs.kept.Kept.set.Goals as goal

pub returns-in_err-number : goal.returns-in_err-number
returns-in_err-number c = rw c.from_residual.ensures (spells_none c.args.self.now (which c.args.setting) c.args.word.now c.in_err-number.ensures)

pub returns-then-not-allows : goal.returns-then-not-allows
returns-then-not-allows c =
    let number = c.in_ok-number.ensures in
    let out : Within (which c.args.setting) c.in_ok-number.number → ⊥ = λ within. let e = c.if-not-allows.ensures.1 within in cc in
    spells_other c.args.self.now (which c.args.setting) c.args.word.now c.in_ok-number.number number.0 number.1 out

pub returns-in-Tries : goal.returns-in-Tries
returns-in-Tries c =
    let here = c.allows.ensures.0 c.if-not-allows.false in
    rw c.in-Tries.is (told_tries c.args.self.now c.set_once.new.place c.args.word.now c.in_ok-number.number c.set_once.result
    c.in_ok-number.ensures.1 (rw c.in-Tries.is at here) c.set_once.ensures)

pub returns-in-Depth : goal.returns-in-Depth
returns-in-Depth c =
    let here = c.allows.ensures.0 c.if-not-allows.false in
    rw c.in-Depth.is (told_depth c.args.self.now c.set_once-in-Depth.new.place c.args.word.now c.in_ok-number.number c.set_once-in-Depth.result
    c.in_ok-number.ensures.1 (rw c.in-Depth.is at here) c.set_once-in-Depth.ensures)

pub returns-in-Visited : goal.returns-in-Visited
returns-in-Visited c =
    let here = c.allows.ensures.0 c.if-not-allows.false in
    rw c.in-Visited.is (told_visited c.args.self.now c.set_once-in-Visited.new.place c.args.word.now c.in_ok-number.number c.set_once-in-Visited.result
    c.in_ok-number.ensures.1 (rw c.in-Visited.is at here) c.set_once-in-Visited.ensures)

pub returns-in-Steps : goal.returns-in-Steps
returns-in-Steps c =
    let here = c.allows.ensures.0 c.if-not-allows.false in
    rw c.in-Steps.is (told_steps c.args.self.now c.set_once-in-Steps.new.place c.args.word.now c.in_ok-number.number c.set_once-in-Steps.result
    c.in_ok-number.ensures.1 (rw c.in-Steps.is at here) c.set_once-in-Steps.ensures)
