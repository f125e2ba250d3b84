use Rattle.std.proofs.Common.{◌≡◌, Option, Result, refl, sym, subst, ◌∙◌}
use Rattle.std.specs.Option.{option_map, option_to_list}
use Rattle.wh_types.specs.declared.want.Or.{Or}
use Rattle.wh_cert.specs.Said.{said, said_item}
use Rattle.wh_cert.specs.declared.certificate.CertSyntax.{CertSyntax}
use Rattle.wh_cert.specs.declared.item.Item.{Item}
use Rattle.wh_cert_text.specs.Gathering.{with_items}
use Rattle.wh_cert_text.specs.Portions.{HasFed}
use Rattle.wh_cert_text.specs.declared.cert_reader.Portion.{Portion}
use Rattle.wh_cert_text.proofs.ReadingCode.{read_more, read_refused}
use Rattle.wh_cert_text.proofs.reading.Reading.take.Goals as goal

pub returns-in-Err-Because-clause-read : goal.returns-in-Err-Because-clause-read
returns-in-Err-Because-clause-read c = λ before has few.
    read_refused c.feed_some.new.self (said c.args.self.now.certificate) before c.args.bytes.now c.in-Err-Because.field-0
    (λ h. (let other = sym c.in-Err-Because.field-0-is ∙ h in absurd cc))
    (subst (λ (r : Result Portion (Or CertSyntax)). HasFed before c.args.bytes.now c.feed_some.new.self r) c.in-Err-Because.is
    (c.feed_some.ensures.fed before has.read few))

pub returns-in-None-clause-read : goal.returns-in-None-clause-read
returns-in-None-clause-read c = λ before has few.
    let kept = said c.args.self.now.certificate in
    read_more c.args.self.now.reader c.feed_some.new.self kept kept before c.args.bytes.now c.in-Ok.portion has
    (subst (λ (r : Result Portion (Or CertSyntax)). HasFed before c.args.bytes.now c.feed_some.new.self r) c.in-Ok.is
    (c.feed_some.ensures.fed before has.read few))
    (subst (λ (i : Option Item). kept ≡ with_items kept (option_to_list (option_map said_item i))) (sym c.in-None.is) refl)

pub returns-in_ok-add-in-Some-clause-read : goal.returns-in_ok-add-in-Some-clause-read
returns-in_ok-add-in-Some-clause-read c = λ before has few.
    let kept = said c.args.self.now.certificate in
    let more = said c.add.new.certificate in
    read_more c.args.self.now.reader c.feed_some.new.self kept more before c.args.bytes.now c.in-Ok.portion has
    (subst (λ (r : Result Portion (Or CertSyntax)). HasFed before c.args.bytes.now c.feed_some.new.self r) c.in-Ok.is
    (c.feed_some.ensures.fed before has.read few))
    (subst (λ (i : Option Item). more ≡ with_items kept (option_to_list (option_map said_item i))) (sym c.in-Some.is) c.in_ok-add-in-Some.ensures)
