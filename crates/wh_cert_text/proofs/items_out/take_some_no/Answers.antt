use Rattle.std.proofs.Common.{◌≡◌, sym, subst, get_or}
use Rattle.wh_cert_machines.specs.LineMachine.{line_step}
use Rattle.wh_cert_machines.specs.LineViews.{item_of, line_place, line_went}
use Rattle.wh_cert_text.specs.Feeding.{TracksNo}
use Rattle.wh_cert_machines.specs.declared.line_reader.LineStep.{LineStep}
use Rattle.wh_cert_machines.specs.declared.line_reader.NoLine.{NoLine}
use Rattle.wh_cert_text.proofs.PortionCode.{SoFar, no_on, no_whole, no_wrong}
use Rattle.wh_cert_text.proofs.items_out.take_some_no.Goals as goal

pub loop-index-preserved-then-goes_by : goal.loop-index-preserved-then-goes_by
loop-index-preserved-then-goes_by c = λ p t short.
    no_on p c.args.bytes.now c.loop-index.index c.loop-index.line c.goes_by.new.self c.loop-index-test.true short c.if-goes_by.ensures.on
    (c.loop-index.invariant p t short)

pub returns-in-Gives-clause-run : goal.returns-in-Gives-clause-run
returns-in-Gives-clause-run c = λ p t short.
    let bytes = c.args.bytes.now in
    let k = c.loop-index.index in
    let l = c.goes_by.new.self in
    let e = subst (λ (w : LineStep). line_went w c.step.new.self ≡ line_step (line_place l) (get_or bytes k 0)) c.in-Gives.is c.in_ok-step.ensures in
    no_whole p bytes k l c.step.new.self (item_of c.in-Gives.item) c.no_item.result c.loop-index-test.true short e c.no_item.ensures
    (subst (λ (line : NoLine). SoFar (TracksNo line) p bytes k) (sym c.if-goes_by.ensures.stays) (c.loop-index.invariant p t short))

pub returns-in-Wrong-clause-run : goal.returns-in-Wrong-clause-run
returns-in-Wrong-clause-run c = λ p t short.
    let bytes = c.args.bytes.now in
    let k = c.loop-index.index in
    let l = c.goes_by.new.self in
    let e = subst (λ (w : LineStep). line_went w c.step.new.self ≡ line_step (line_place l) (get_or bytes k 0)) c.in-Wrong.is c.in_ok-step.ensures in
    no_wrong p bytes k l c.step.new.self c.loop-index-test.true e
    (subst (λ (line : NoLine). SoFar (TracksNo line) p bytes k) (sym c.if-goes_by.ensures.stays) (c.loop-index.invariant p t short))

pub loop-index-preserved : goal.loop-index-preserved
loop-index-preserved c = λ p t short.
    let bytes = c.args.bytes.now in
    let k = c.loop-index.index in
    let l = c.goes_by.new.self in
    let e = subst (λ (w : LineStep). line_went w c.step.new.self ≡ line_step (line_place l) (get_or bytes k 0)) c.in-On.is c.in_ok-step.ensures in
    no_on p bytes k l c.step.new.self c.loop-index-test.true short e
    (subst (λ (line : NoLine). SoFar (TracksNo line) p bytes k) (sym c.if-goes_by.ensures.stays) (c.loop-index.invariant p t short))
