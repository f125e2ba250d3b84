use Rattle.std.proofs.Common.{ap, sym, ◌∙◌}
use Rattle.wh_types.specs.Erase.{ty}
use Rattle.wh_terms.specs.Tree.{lam, app}
use Rattle.wh_terms.specs.Erase.{tm}
use Rattle.wh_terms.specs.declared.term.Term.{Term}
use Rattle.wh_system.specs.SystemView.{system_data}
use Rattle.wh_graph.specs.Rigid.{SameRoot}
use Rattle.wh_graph.proofs.ClashLemmas.{clash_roots, clash_parts, clash_same, bodies_decide, front_decides, last_decides}
use Rattle.wh_graph.proofs.clash.+clash.Goals as goal

pub clashes-returns-then-not-same_root : goal.clashes-returns-then-not-same_root
clashes-returns-then-not-same_root t c = (
  λ _. clash_roots (system_data c.args.system.now).rules (tm c.args.term.now) (tm c.args.pattern.now) (c.is_rigid.ensures.0 c.if-not-is_rigid.false) (c.has_root.ensures.0 c.if-not-has_root.false)
      (λ (same : SameRoot (tm c.args.term.now) (tm c.args.pattern.now)). cc (c.same_root.ensures.1 same)),
  λ _. cc,
)

pub clashes-returns-else-not-same_root : goal.clashes-returns-else-not-same_root
clashes-returns-else-not-same_root t c =
    let same = c.same_root.ensures.0 c.if-not-same_root.false in
    let rules = (system_data c.args.system.now).rules in
    let q = tm c.args.term.now in
    let p = tm c.args.pattern.now in (
      λ is. clash_parts rules q p (c.is_rigid.ensures.0 c.if-not-is_rigid.false) same (c.parts_clash.ensures.0 is),
      λ clash. c.parts_clash.ensures.1 (clash_same rules q p clash same),
    )

pub parts_clash-returns-in-Lam-Lam : goal.parts_clash-returns-in-Lam-Lam
parts_clash-returns-in-Lam-Lam t c =
    let w = c.in-Lam-Lam in
    bodies_decide (system_data c.args.system.now).rules (tm c.args.term.now) (tm c.args.pattern.now) (tm c.deref.result.now) (tm c.deref-in-Lam-Lam.result.now) (ty w.field-0-0) (ty w.field-0-1) c.clashes.result
    (ap tm w.is-0 ∙ ap (λ (v : Term). lam (ty w.field-0-0) (tm v)) (sym c.deref.ensures))
    (ap tm w.is-1 ∙ ap (λ (v : Term). lam (ty w.field-0-1) (tm v)) (sym c.deref-in-Lam-Lam.ensures))
    c.clashes.ensures

pub parts_clash-returns-then-parts_clash : goal.parts_clash-returns-then-parts_clash
parts_clash-returns-then-parts_clash t c =
    let w = c.in-App-App in
    front_decides (system_data c.args.system.now).rules (tm c.args.term.now) (tm c.args.pattern.now) (tm c.deref-in-App-App.result.now) (tm c.deref-in-App-App-2.result.now) (tm w.argument.value) (tm w.against.value) c.parts_clash.result
    (ap tm w.is-0 ∙ ap (λ (v : Term). app (tm v) (tm w.argument.value)) (sym c.deref-in-App-App.ensures))
    (ap tm w.is-1 ∙ ap (λ (v : Term). app (tm v) (tm w.against.value)) (sym c.deref-in-App-App-2.ensures))
    c.if-parts_clash.true c.parts_clash.ensures

pub parts_clash-returns-else-parts_clash : goal.parts_clash-returns-else-parts_clash
parts_clash-returns-else-parts_clash t c =
    let w = c.in-App-App in
    let u = tm c.deref-else-parts_clash.result.now in
    let u' = tm c.deref-else-parts_clash-2.result.now in
    last_decides (system_data c.args.system.now).rules (tm c.args.term.now) (tm c.args.pattern.now) (tm c.deref-in-App-App.result.now) (tm c.deref-in-App-App-2.result.now) u u' c.parts_clash.result c.clashes-else-parts_clash.result
    (ap tm w.is-0 ∙ ap (λ (v : Term). app (tm v) (tm w.argument.value)) (sym c.deref-in-App-App.ensures) ∙ ap (λ (v : Term). app (tm c.deref-in-App-App.result.now) (tm v)) (sym c.deref-else-parts_clash.ensures))
    (ap tm w.is-1 ∙ ap (λ (v : Term). app (tm v) (tm w.against.value)) (sym c.deref-in-App-App-2.ensures) ∙ ap (λ (v : Term). app (tm c.deref-in-App-App-2.result.now) (tm v)) (sym c.deref-else-parts_clash-2.ensures))
    c.if-parts_clash.false c.parts_clash.ensures c.clashes-else-parts_clash.ensures
