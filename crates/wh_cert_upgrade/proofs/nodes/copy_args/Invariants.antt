use Rattle.std.proofs.Common.{◌≡◌, take}
use Rattle.wh_cert_upgrade.proofs.nodes.copy_args.Given as goal

abbrev pub invariant-loop-arg : goal.invariant-loop-arg
invariant-loop-arg l = l.copies ≡ take l.arg-index l.args
