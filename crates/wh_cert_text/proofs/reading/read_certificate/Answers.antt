use Rattle.std.proofs.Common.{[], subst, arith}
use Rattle.wh_cert_text.specs.Gathering.{ReadsAs}
use Rattle.wh_cert_text.proofs.reading.read_certificate.Goals as goal

pub take_all-requires : goal.take_all-requires
take_all-requires c = ([], c.new-reading.ensures, omega arith)

pub returns-in-Ok-clause-read : goal.returns-in-Ok-clause-read
returns-in-Ok-clause-read c =
    let bytes = c.args.bytes.now in
    subst (ReadsAs bytes) c.in-Ok.is
    (c.finish.ensures bytes (c.in_ok-take_all.ensures [] c.new-reading.ensures (omega arith)) c.requires)

pub returns-in-Err-clause-fault : goal.returns-in-Err-clause-fault
returns-in-Err-clause-fault c =
    let bytes = c.args.bytes.now in
    subst (ReadsAs bytes) c.in-Err.is
    (c.finish.ensures bytes (c.in_ok-take_all.ensures [] c.new-reading.ensures (omega arith)) c.requires)
