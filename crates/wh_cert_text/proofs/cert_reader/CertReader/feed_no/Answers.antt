use Rattle.std.proofs.Common.{sym, subst}
use Rattle.wh_cert_machines.specs.LineMachine.{line_step, standing_after}
use Rattle.wh_cert_machines.specs.LineViews.{line_place}
use Rattle.wh_cert_text.specs.Handing.{TakesNo}
use Rattle.wh_cert_text.specs.Feeding.{Tracks}
use Rattle.wh_cert_machines.specs.declared.line_reader.NoLine.{NoLine}
use Rattle.wh_cert_text.specs.declared.items_out.Taken.{Taken}
use Rattle.wh_cert_text.specs.declared.items_out.Taken.TheVariants.{On}
use Rattle.wh_cert_machines.specs.declared.progress.Progress.{Progress}
use Rattle.wh_cert_text.proofs.CertReaderCode.{no_goes}
use Rattle.wh_cert_text.proofs.cert_reader.CertReader.feed_no.Goals as goal

pub returns-in-On : goal.returns-in-On
returns-in-On c = λ h.
    let step = line_step (line_place c.args.line.value) c.args.byte in
    let lent = subst (λ (taken : Taken). TakesNo c.take_no.new.line (line_step (line_place c.deref_mut.result.now) c.args.byte) taken) c.in-On.is c.in_ok-item.ensures.takes in
    let takes = subst (λ (line : NoLine). TakesNo c.take_no.new.line (line_step (line_place line) c.args.byte) (On c.in-On.item)) c.deref_mut.ensures.value lent in
    let both = no_goes h (record c.args.line { value = c.take_no.new.line }) step c.in-On.item takes in
    (c.go.ensures.taken, subst (λ (at : Progress). Tracks at (standing_after h step)) (sym c.go.ensures.at) both.0, both.1)
