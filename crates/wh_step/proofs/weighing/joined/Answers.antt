use Rattle.std.proofs.Common.{rules, ◌≡◌, ◌+◌, max, refl}
use Rattle.wh_step.proofs.ExtentLemmas.{measures_app}
use Rattle.wh_step.proofs.weighing.joined.Goals as goal

pub returns : goal.returns
returns c t u d e =
    let f = c.args.function in
    let x = c.args.argument in
    let high : c.max-height.result ≡ max c.front_height.result (x.height + 1) = search (rules, c.max-height.ensures) in
    measures_app t u f x d e (f.size + x.size + 1) c.max-height.result (f.arguments + 1) c.front_height.result (c.front_height.ensures.risen t d) refl high refl c.limited.result c.limited.ensures
