use Rattle.std.proofs.Common.{sym, ◌∙◌, subst, Result}
use Rattle.wh_system.specs.SystemView.{system_data}
use Rattle.wh_pairs.specs.Views.{pairs_data}
use Rattle.wh_types.specs.declared.want.Or.{Or}
use Rattle.wh_cert.specs.declared.certificate.CertSyntax.{CertSyntax}
use Rattle.wh_cert_text.specs.Portions.{HasFed}
use Rattle.wh_cert_text.specs.declared.cert_reader.Portion.{Portion}
use Rattle.wh_top_judging.proofs.Streaming.{come_none, come_refused, come_some, next_item}
use Rattle.wh_top_judging.proofs.streamed.Judge.take.Goals as goal

pub returns-in-Err-Because-clause-come : goal.returns-in-Err-Because-clause-come
returns-in-Err-Because-clause-come c = λ before has few.
    come_refused (system_data c.args.problem.now.system) (pairs_data c.args.problem.now.pairs) c.feed_some.new.self c.args.self.now.walk before
    c.args.bytes.now c.in-Err-Because.field-0 (λ h. (let other = sym c.in-Err-Because.field-0-is ∙ h in absurd cc))
    (subst (λ (r : Result Portion (Or CertSyntax)). HasFed before c.args.bytes.now c.feed_some.new.self r) c.in-Err-Because.is
    (c.feed_some.ensures.fed before has.read few))

pub take-requires-clause-next : goal.take-requires-clause-next
take-requires-clause-next c =
    let (before, has, few) = c.requires.few in
    next_item (system_data c.args.problem.now.system) (pairs_data c.args.problem.now.pairs) c.args.self.now.reader c.feed_some.new.self
    c.args.self.now.walk before c.args.bytes.now c.in-Ok.portion c.in-Some.item has
    (subst (λ (r : Result Portion (Or CertSyntax)). HasFed before c.args.bytes.now c.feed_some.new.self r) c.in-Ok.is
    (c.feed_some.ensures.fed before has.read few)) c.in-Some.is

pub returns-in-None-clause-come : goal.returns-in-None-clause-come
returns-in-None-clause-come c = λ before has few.
    come_none (system_data c.args.problem.now.system) (pairs_data c.args.problem.now.pairs) c.args.self.now.reader c.feed_some.new.self
    c.args.self.now.walk before c.args.bytes.now c.in-Ok.portion has
    (subst (λ (r : Result Portion (Or CertSyntax)). HasFed before c.args.bytes.now c.feed_some.new.self r) c.in-Ok.is
    (c.feed_some.ensures.fed before has.read few)) c.in-None.is

pub returns-in_ok-take-in-Some-clause-come : goal.returns-in_ok-take-in-Some-clause-come
returns-in_ok-take-in-Some-clause-come c = λ before has few.
    come_some (system_data c.args.problem.now.system) (pairs_data c.args.problem.now.pairs) c.args.self.now.reader c.feed_some.new.self
    c.args.self.now.walk c.take.new.self before c.args.bytes.now c.in-Ok.portion c.in-Some.item has
    (subst (λ (r : Result Portion (Or CertSyntax)). HasFed before c.args.bytes.now c.feed_some.new.self r) c.in-Ok.is
    (c.feed_some.ensures.fed before has.read few)) c.in-Some.is c.in_ok-take-in-Some.ensures
