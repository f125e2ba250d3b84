use Rattle.std.proofs.Common.{◌≤◌, unwrap_or, arith}
use Rattle.wh_top_words.specs.Words as said
use Rattle.wh_top_words.proofs.Asking.{at_most}
use Rattle.wh_top_words.proofs.words.steps.Goals as goal

pub overflow_cast-result : goal.overflow_cast-result
overflow_cast-result c =
    let low : unwrap_or c.args.kept.now.steps 1000 ≤ 10000 = at_most _ 1000 10000 (λ n is. (c.requires said.steps n is).1) (omega arith) in
    omega arith
