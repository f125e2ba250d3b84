use Rattle.std.proofs.Common.{arith}
use Rattle.wh_system.specs.SystemView.{system_data}
use Rattle.wh_checker.proofs.GoLemmas.{single}
use Rattle.wh_checker.proofs.node.check_alone.Goals as goal

pub returns : goal.returns
returns c =
    let set = c.args.set.now in
    let within = c.requires 0 0 (omega (arith, c.if-set-ne1.false)) in
    single (system_data c.args.system.now).rules c.args.pairs.now set c.index-pairs-set.result c.if-set-ne1.false within
    c.index-pairs-set.is (λ may. cc (c.may_follow.ensures.1 may, c.if-may_follow.false))
