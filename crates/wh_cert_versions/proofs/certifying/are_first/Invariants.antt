use Rattle.std.proofs.Common.{All, take}
use Rattle.wh_cert_versions.specs.Certificates.{IsFirst}
use Rattle.wh_cert_versions.proofs.certifying.are_first.Given as goal

abbrev pub invariant-loop-node : goal.invariant-loop-node
invariant-loop-node l = All IsFirst (take l.node-index l.nodes)
