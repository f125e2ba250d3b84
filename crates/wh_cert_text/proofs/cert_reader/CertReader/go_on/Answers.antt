use Rattle.std.proofs.Common.{sym, subst, arith}
use Rattle.wh_cert_text.specs.Feeding.{Tracks}
use Rattle.wh_cert_text.specs.Portions.{HasRun, IsWithin}
use Rattle.wh_cert_machines.specs.declared.progress.Progress.{Progress}
use Rattle.wh_cert_text.specs.declared.items_out.Stretch.TheVariants.{On, Whole}
use Rattle.wh_cert_text.proofs.PortionCode.{fed_all, fed_whole, fed_wrong}
use Rattle.wh_cert_text.proofs.cert_reader.CertReader.go_on.Goals as goal

pub returns-in-On-clause-fed : goal.returns-in-On-clause-fed
returns-in-On-clause-fed c = λ p same ran.
    fed_all p c.args.bytes.now c.go.new.self (omega (arith, c.go.ensures.taken, same)) (omega (arith, same, c.requires.room))
    (subst (λ (at : Progress). HasRun (Tracks at) p c.args.bytes.now On) (sym c.go.ensures.at)
    (subst (HasRun (Tracks c.args.at) p c.args.bytes.now) c.in-On.is ran))

pub returns-in-Whole-clause-fed : goal.returns-in-Whole-clause-fed
returns-in-Whole-clause-fed c = λ p same ran.
    let within = subst (IsWithin c.args.bytes.now) c.in-Whole.is c.requires.within in
    fed_whole p c.args.bytes.now c.in-Whole.count c.in-Whole.item c.go-in-Whole.new.self (omega (arith, within.1))
    (omega (arith, c.go-in-Whole.ensures.taken, same)) (omega (arith, same, c.requires.room))
    (subst (λ (at : Progress). HasRun (Tracks at) p c.args.bytes.now (Whole c.in-Whole.count c.in-Whole.item)) (sym c.go-in-Whole.ensures.at)
    (subst (HasRun (Tracks c.args.at) p c.args.bytes.now) c.in-Whole.is ran))

pub returns-in-Wrong-clause-fed : goal.returns-in-Wrong-clause-fed
returns-in-Wrong-clause-fed c = λ p same ran.
    fed_wrong p c.args.bytes.now c.in-Wrong.count (record { at = c.from.result }) c.go-in-Wrong.new.self (Tracks c.args.at) c.go-in-Wrong.ensures.at
    (omega (arith, c.go-in-Wrong.ensures.taken, same)) (omega (arith, c.from.ensures, c.go-in-Wrong.ensures.taken, same))
    (omega (arith, same, c.requires.room)) (subst (HasRun (Tracks c.args.at) p c.args.bytes.now) c.in-Wrong.is ran)
