use Rattle.std.proofs.Common.{◌∙◌}
use Rattle.wh_text.specs.declared.raw.RawType.{out-RawType, roll-RawType}
use Rattle.wh_text.proofs.RawLemmas.{rty_made}
use Rattle.wh_read.proofs.HeldLaws.{with_joined}
use Rattle.wh_read.proofs.types.with_arguments.Goals as goal

pub returns : goal.returns
unfolding out-RawType denote.Hole.Carrier.out roll-RawType denote.Hole.Carrier.roll
returns c =
    rty_made c.extend.new.self (out-RawType c.args.own).sort (out-RawType c.args.own).at ∙ with_joined c.args.args c.extend.new.self c.args.own c.in_ok-extend.ensures.ok
