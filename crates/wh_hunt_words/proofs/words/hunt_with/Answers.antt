use Rattle.std.proofs.Common.{◌≡◌, arith, sym, ◌∙◌}
use Rattle.std.proofs.lemmas.Fmt.{decimal_injective}
use Rattle.wh_hunt_words.proofs.words.hunt_with.Goals as goal

pub returns-then-work-gt-MOST_WORK : goal.returns-then-work-gt-MOST_WORK
returns-then-work-gt-MOST_WORK c = λ n plain sets.
    let (is, spelled, within) = sets in
    let work = c.in_ok-work.ensures in
    let same : n ≡ c.in_ok-work.work = decimal_injective n c.in_ok-work.work (omega (arith, within)) work.0 (sym spelled ∙ sym work.1) in
    omega (arith, within, same, c.if-work-gt-MOST_WORK.true)
