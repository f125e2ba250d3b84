use Rattle.std.proofs.Common.{◌≡◌, ◌↔◌, ℕ, IsTrue, List, [], subst}
use Rattle.wh_types.specs.Ty.{Ty, sort}
use Rattle.wh_terms.specs.Erase.{declared_metas, rewrite_rule, symbols}
use Rattle.wh_terms.specs.Typing.{Symbols, Typed}
use Rattle.wh_terms.specs.declared.rule.MetaDecl.{MetaDecl}
use Rattle.wh_system.specs.SystemView.{system_data}
use Rattle.wh_usable_first_order.specs.FirstOrder.{IsFlatTree}
use Rattle.wh_usable.proofs.RuleLemmas.{closed_rule}
use Rattle.wh_usable.proofs.closed.is_closed_rule.Goals as goal

pub returns-then-is_of_a_sort : goal.returns-then-is_of_a_sort
returns-then-is_of_a_sort c listed table =
    let d = system_data c.args.system.now in
    let r = rewrite_rule c.args.rule.now in
    let flat = subst (λ (S : Symbols). IsFlatTree S r.metas r.left × IsFlatTree S r.metas r.right) c.signature-signature.ensures
    (c.is_flat_rule.ensures.0 c.if-not-is_flat_rule.false) in
    let Sorted = λ (S : Symbols) (ms : List MetaDecl). (a : Ty) → Typed S (declared_metas ms) [] r.left a → IsFlatTree S (declared_metas ms) r.left
    → IsTrue c.is_of_a_sort.result ↔ ((s : ℕ) × (a ≡ sort s)) in
    let sorts = subst (λ (S : Symbols). Sorted S c.args.rule.now.metas) c.signature-signature.ensures
    (subst (Sorted (symbols c.signature-signature.result.now)) c.as_slice.ensures c.is_of_a_sort.ensures) in
    closed_rule d.symbols d.rules listed r c.calls_listed.result c.requires flat
    (λ a typed. (sorts a typed flat.0).0 c.if-is_of_a_sort.true) (c.calls_listed.ensures d.symbols r.metas d.rules listed flat.1 table)
