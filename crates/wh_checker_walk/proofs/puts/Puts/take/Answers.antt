-- The line is the next of those that are left.
use Rattle.std.proofs.Common.{◌≡◌, length, refl, sym, subst, arith}
use Rattle.wh_system.specs.SystemView.{system_data}
use Rattle.wh_system_making.specs.TablesOf.{AreTablesOf}
use Rattle.wh_cert.specs.Items.{put}
use Rattle.wh_cert.specs.Said.{said_put}
use Rattle.wh_checker_walk.specs.declared.steps.Steps.{Steps}
use Rattle.wh_checker_walk.proofs.PutsOn.{puts_on, puts_tables}
use Rattle.wh_checker_walk.proofs.puts.Puts.take.Goals as goal

pub add_put-requires : goal.add_put-requires
add_put-requires c =
    let d = system_data c.args.system.now in
    subst (λ (s : Steps). AreTablesOf d s.names) (sym c.deref-steps.ensures)
    (puts_tables d c.args.self.now (put (said_put c.args.line.now)) c.requires)

pub returns : goal.returns
returns c =
    let k = c.args.self.now in
    let long : c.len-index.result ≡ length k.entries.items = omega (arith, c.len-index.ensures, k.entries.ok.0) in
    puts_on (system_data c.args.system.now) k (record k { entries = c.add_put.new.entries }) (said_put c.args.line.now) c.len-index.result
    c.add_put.result long refl refl c.add_put.ensures
