use Rattle.std.proofs.Common.{ap}
use Rattle.wh_read.proofs.HeldLaws.{metas_grow}
use Rattle.wh_read.proofs.types.add_meta.Goals as goal

pub returns : goal.returns
returns c =
    let m = c.args.meta in
    ap (λ ms. record { metas = ms; at = m.rule.at }) (metas_grow m.rule.metas c.push.new.self m.name c.args.args c.args.out c.in_ok-push.ensures.ok)
