use Rattle.std.proofs.Common.{◌≡◌, sym, ap, ◌∙◌, subst}
use Rattle.wh_cert_machines.specs.LineMachine.{standing_after_yes}
use Rattle.wh_cert_machines.specs.YesMachine as y
use Rattle.wh_cert_machines.specs.YesViews.{yes_place}
use Rattle.wh_cert_text.specs.Handing.{TakesYes, wanted}
use Rattle.wh_cert_text.specs.Feeding.{Tracks}
use Rattle.wh_cert_machines.specs.declared.progress.YesItems.{YesItems}
use Rattle.wh_cert_text.specs.declared.items_out.Taken.{Taken}
use Rattle.wh_cert_text.specs.declared.items_out.Taken.TheVariants.{On}
use Rattle.wh_cert_machines.specs.declared.progress.Progress.{Progress}
use Rattle.wh_cert_text.proofs.CertReaderCode.{yes_goes}
use Rattle.wh_cert_text.proofs.cert_reader.CertReader.feed_yes.Goals as goal

pub returns-in-On : goal.returns-in-On
returns-in-On c = λ h same version known.
    let old = c.args.lines.value in
    let step = y.step (y.version_of h) (y.wants h) (yes_place old.line) c.args.byte in
    let lent_same : wanted h ≡ c.deref_mut.result.now.wanted = same ∙ ap (λ (lines : YesItems). lines.wanted) (sym c.deref_mut.ensures.value) in
    let lent_version : y.version_of h ≡ c.deref_mut.result.now.version = version ∙ ap (λ (lines : YesItems). lines.version) (sym c.deref_mut.ensures.value) in
    let lent = subst (λ (taken : Taken). TakesYes h c.deref_mut.result.now c.take_yes.new.lines (y.step (y.version_of h) (y.wants h) (yes_place c.deref_mut.result.now.line) c.args.byte) taken) c.in-On.is (c.in_ok-item.ensures.takes h lent_same lent_version) in
    let takes = subst (λ (lines : YesItems). TakesYes h lines c.take_yes.new.lines (y.step (y.version_of h) (y.wants h) (yes_place lines.line) c.args.byte) (On c.in-On.item)) c.deref_mut.ensures.value lent in
    let both = yes_goes h old c.take_yes.new.lines step c.in-On.item same known.0 known.1 takes in
    (c.go.ensures.taken, subst (λ (at : Progress). Tracks at (standing_after_yes h step)) (sym c.go.ensures.at) both.0, both.1)
