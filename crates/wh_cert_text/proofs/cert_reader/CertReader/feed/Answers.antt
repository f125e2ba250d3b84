use Rattle.std.proofs.Common.{sym, refl, ◌∙◌}
use Rattle.wh_cert_text.proofs.CertReaderCode.{led_on, led_item, led_stops, led_lost, unread_known, no_known, yes_known, refuses_says}
use Rattle.wh_cert_text.proofs.cert_reader.CertReader.feed.Goals as goal

pub returns-in-Unread : goal.returns-in-Unread
returns-in-Unread c =
    let old = c.args.self.now in
    let mid = record old { at = c.replace.new.dest } in
    let new = c.begin.new.self in
    let known =
    unread_known old mid new c.args.byte c.begin.result (sym c.replace.ensures.value ∙ c.in-Unread.is) refl c.begin.ensures in
    record {
      on = led_on c.begin.result old mid new c.args.byte known;
      item = led_item c.begin.result old mid new c.args.byte known;
      stops = led_stops c.begin.result old mid new c.args.byte known;
      lost = led_lost c.begin.result old mid new c.args.byte known;
    }

pub returns-in-Yes : goal.returns-in-Yes
returns-in-Yes c =
    let old = c.args.self.now in
    let mid = record old { at = c.replace.new.dest } in
    let new = c.feed_yes.new.self in
    let known =
    yes_known old mid new c.args.byte c.feed_yes.result c.in-Yes.lines (sym c.replace.ensures.value ∙ c.in-Yes.is) refl c.feed_yes.ensures in
    record {
      on = led_on c.feed_yes.result old mid new c.args.byte known;
      item = led_item c.feed_yes.result old mid new c.args.byte known;
      stops = led_stops c.feed_yes.result old mid new c.args.byte known;
      lost = led_lost c.feed_yes.result old mid new c.args.byte known;
    }

pub returns-in-No : goal.returns-in-No
returns-in-No c =
    let old = c.args.self.now in
    let mid = record old { at = c.replace.new.dest } in
    let new = c.feed_no.new.self in
    let known =
    no_known old mid new c.args.byte c.feed_no.result c.in-No.line (sym c.replace.ensures.value ∙ c.in-No.is) refl c.feed_no.ensures in
    record {
      on = led_on c.feed_no.result old mid new c.args.byte known;
      item = led_item c.feed_no.result old mid new c.args.byte known;
      stops = led_stops c.feed_no.result old mid new c.args.byte known;
      lost = led_lost c.feed_no.result old mid new c.args.byte known;
    }

pub returns-in-Refused-clause-stops : goal.returns-in-Refused-clause-stops
returns-in-Refused-clause-stops c =
    refuses_says c.refuse.result c.args.self.now (record c.args.self.now { at = c.replace.new.dest }) c.refuse.new.self c.args.byte
    (sym c.replace.ensures.value ∙ c.in-Refused.is) refl c.refuse.ensures
