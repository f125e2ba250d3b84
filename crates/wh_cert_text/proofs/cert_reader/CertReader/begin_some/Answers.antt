use Rattle.std.proofs.Common.{subst, arith, get_or, Result, Option}
use Rattle.wh_types.specs.declared.want.Or.{Or}
use Rattle.wh_cert.specs.declared.certificate.CertSyntax.{CertSyntax}
use Rattle.wh_cert.specs.declared.item.Item.{Item}
use Rattle.wh_cert_machines.specs.LineMachine.{unread}
use Rattle.wh_cert_text.specs.Feeding.{Led}
use Rattle.wh_cert_text.proofs.PortionCode.{begun_err, begun_ok}
use Rattle.wh_cert_text.proofs.cert_reader.CertReader.begin_some.Goals as goal

pub returns-in-Ok-clause-fed : goal.returns-in-Ok-clause-fed
returns-in-Ok-clause-fed c = λ p same here.
    begun_ok p c.args.bytes.now c.args.self.now c.begin.new.self c.in-Ok.item c.requires.some same here (omega (arith, same, c.requires.room))
    (subst (λ (r : Result (Option Item) (Or CertSyntax)). Led unread c.args.self.now c.begin.new.self (get_or c.args.bytes.now 0 0) r) c.in-Ok.is c.begin.ensures)

pub returns-in-Err-clause-fed : goal.returns-in-Err-clause-fed
returns-in-Err-clause-fed c = λ p same here.
    begun_err p c.args.bytes.now c.args.self.now c.begin.new.self c.in-Err.fault c.requires.some same here (omega (arith, same, c.requires.room))
    (subst (λ (r : Result (Option Item) (Or CertSyntax)). Led unread c.args.self.now c.begin.new.self (get_or c.args.bytes.now 0 0) r) c.in-Err.is c.begin.ensures)
