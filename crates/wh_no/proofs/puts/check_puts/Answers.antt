-- One line after another.
use Rattle.std.proofs.Common.{map}
use Rattle.wh_cert.specs.Said.{said_put}
use Rattle.wh_no.proofs.PutLemmas.{line_here}
use Rattle.wh_no.proofs.puts.check_puts.Goals as goal

pub loop-i-preserved : goal.loop-i-preserved
loop-i-preserved c =
    let lines = map said_put c.args.puts.now in
    let here = line_here c.args.puts.now c.loop-i.i c.index-puts-i.result c.loop-i-test.true c.index-puts-i.is in
    c.in_ok-add_put.ensures lines here c.loop-i.invariant
