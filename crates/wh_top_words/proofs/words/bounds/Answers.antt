use Rattle.std.proofs.Common.{◌≤◌, unwrap_or, arith}
use Rattle.wh_top_words.specs.Words.{depth, visited}
use Rattle.wh_top_words.proofs.Asking.{at_most}
use Rattle.wh_top_words.proofs.words.bounds.Goals as goal

pub overflow_cast-result : goal.overflow_cast-result
overflow_cast-result c =
    let low : unwrap_or c.args.kept.now.depth 6 ≤ 100 = at_most _ 6 100 (λ n is. (c.requires depth n is).1) (omega arith) in
    omega arith

pub overflow_cast-result-2 : goal.overflow_cast-result-2
overflow_cast-result-2 c =
    let low : unwrap_or c.args.kept.now.visited 500 ≤ 10000 = at_most _ 500 10000 (λ n is. (c.requires visited n is).1) (omega arith) in
    omega arith
