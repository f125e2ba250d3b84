use Rattle.std.proofs.Common.{◌≡◌, ◌+◌, nat_lt, get_or, Option, sym, subst}
use Rattle.wh_cert.specs.declared.item.Item as code
use Rattle.wh_cert_machines.specs.YesMachine as y
use Rattle.wh_cert_machines.specs.YesViews.{item_of, yes_place, yes_went}
use Rattle.wh_cert_text.specs.declared.items_out.Taken.TheVariants.{On}
use Rattle.wh_cert_machines.specs.declared.yes_line.YesStep.{YesStep}
use Rattle.wh_cert_text.specs.Feeding.{TracksYes}
use Rattle.wh_cert_machines.specs.declared.progress.YesItems.{YesItems}
use Rattle.wh_cert_text.proofs.PortionCode.{SoFar, Takes, takes_item, takes_on, takes_wrong, yes_on, yes_whole, yes_wrong}
use Rattle.wh_cert_text.proofs.items_out.take_some_yes.Goals as goal
use Rattle.wh_cert_text.proofs.items_out.take_some_yes.Goals.{in-On, in-Gives+in_ok-item-in-Gives+in-None}

pub returns-in-Some-clause-run : goal.returns-in-Some-clause-run
returns-in-Some-clause-run c = λ p t short.
    let bytes = c.args.bytes.now in
    let k = c.loop-index.index in
    let l = c.loop-index.lines in
    let e = subst (λ (w : YesStep). yes_went w c.step.new.self ≡ y.step l.version (nat_lt 0 l.wanted) (yes_place l.line) (get_or bytes k 0)) c.in-Gives.is c.in_ok-step.ensures in
    let takes = takes_item l c.hand_out.new.lines c.step.new.self (get_or bytes k 0) (item_of c.in-Gives.item) c.in_ok-item-in-Gives.field-0 e
    c.in_ok-item-in-Gives.ensures.line c.in_ok-item-in-Gives.ensures.gives in
    yes_whole p bytes k l c.hand_out.new.lines c.in-Some.item c.loop-index-test.true short
    (subst (λ (out : Option code.Item). Takes l c.hand_out.new.lines (get_or bytes k 0) (On out)) c.in-Some.is takes) (c.loop-index.invariant p t short)

pub returns-in-Wrong-clause-run : goal.returns-in-Wrong-clause-run
returns-in-Wrong-clause-run c = λ p t short.
    let bytes = c.args.bytes.now in
    let k = c.loop-index.index in
    let l = c.loop-index.lines in
    let e = subst (λ (w : YesStep). yes_went w c.step.new.self ≡ y.step l.version (nat_lt 0 l.wanted) (yes_place l.line) (get_or bytes k 0)) c.in-Wrong.is c.in_ok-step.ensures in
    yes_wrong p bytes k l (record l { line = c.step.new.self }) c.loop-index-test.true
    (takes_wrong l (record l { line = c.step.new.self }) (get_or bytes k 0) e) (c.loop-index.invariant p t short)

pub loop-index-preserved : goal.loop-index-preserved
loop-index-preserved c = λ p t short.
    let bytes = c.args.bytes.now in
    let k = c.loop-index.index in
    let l = c.loop-index.lines in
    let line = c.step.new.self in
    elim c.match-branch-2.branch [
      | in-On w ↦
          subst (λ (new : YesItems). SoFar (TracksYes new) p bytes (k + 1)) (sym w.lines-is)
          (yes_on p bytes k l (record l { line = line }) c.loop-index-test.true short
          (takes_on l line (get_or bytes k 0)
          (subst (λ (s : YesStep). yes_went s line ≡ y.step l.version (nat_lt 0 l.wanted) (yes_place l.line) (get_or bytes k 0)) w.in-On.is c.in_ok-step.ensures))
          (c.loop-index.invariant p t short))
      | in-Gives+in_ok-item-in-Gives+in-None w ↦
          subst (λ (new : YesItems). SoFar (TracksYes new) p bytes (k + 1)) (sym w.lines-is)
          (yes_on p bytes k l w.hand_out.new.lines c.loop-index-test.true short
          (subst (λ (out : Option code.Item). Takes l w.hand_out.new.lines (get_or bytes k 0) (On out)) w.in-None.is
          (takes_item l w.hand_out.new.lines line (get_or bytes k 0) (item_of w.in-Gives.item) w.in_ok-item-in-Gives.field-0
          (subst (λ (s : YesStep). yes_went s line ≡ y.step l.version (nat_lt 0 l.wanted) (yes_place l.line) (get_or bytes k 0)) w.in-Gives.is c.in_ok-step.ensures)
          w.in_ok-item-in-Gives.ensures.line w.in_ok-item-in-Gives.ensures.gives))
          (c.loop-index.invariant p t short))
    ]
