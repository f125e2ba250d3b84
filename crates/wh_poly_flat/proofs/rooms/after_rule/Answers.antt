use Rattle.std.proofs.Common.{Option, ℕ, List, ◌≤◌, sym, subst, arith}
use Rattle.wh_terms.specs.Budget.{Left}
use Rattle.wh_terms.specs.Erase.{declared_metas, rewrite_rule, symbols, tm}
use Rattle.wh_terms.specs.declared.rule.MetaDecl.{MetaDecl}
use Rattle.wh_usable_first_order.specs.FirstOrder.{IsFlatTree}
use Rattle.wh_poly_flat.specs.Flat.{IsFlatRule, rule_occurrences}
use Rattle.wh_poly_flat.proofs.rooms.after_rule.Goals as goal

pub returns-in_err-behind : goal.returns-in_err-behind
returns-in_err-behind c =
    let r = c.args.rule.now in
    let S = symbols c.args.signature.now in
    subst (λ (answer : Option ℕ). Left c.args.room (rule_occurrences (rewrite_rule r)) (IsFlatRule S (rewrite_rule r) × (rule_occurrences (rewrite_rule r) ≤ c.args.room)) answer)
    (sym c.from_residual.ensures) (λ (flat, few). c.in_err-behind.ensures (
      subst (λ (M : List MetaDecl). IsFlatTree S (declared_metas M) (tm r.left)) (sym c.as_slice-metas.ensures) flat.left,
      flat.left_few,
      omega (arith, few),
    ))
