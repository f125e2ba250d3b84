use Rattle.std.proofs.Common.{◌≡◌, take, map}
use Rattle.wh_cert.specs.Said.{said_put}
use Rattle.wh_cert_upgrade.proofs.loops.copy_puts.Given as goal

abbrev pub invariant-loop-put : goal.invariant-loop-put
invariant-loop-put l = map said_put l.copies ≡ map said_put (take l.put-index l.puts)
