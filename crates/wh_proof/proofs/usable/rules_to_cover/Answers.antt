use Rattle.std.proofs.Common.{◌≡◌, List, ℕ, Option, IfOk, MatchOption, length, sym, subst}
use Rattle.wh_system.specs.SystemView.{system_data}
use Rattle.wh_usable.specs.Closed.{AreRulesInOrder}
use Rattle.wh_usable.proofs.Whole.{all_in_order}
use Rattle.wh_proof.specs.Looked.{CoversRules, covered_rules}
use Rattle.wh_proof.proofs.usable.rules_to_cover.Goals as goal

pub returns-in-Some : goal.returns-in-Some
returns-in-Some c =
    let d = system_data c.args.system.now in
    let n = length d.rules in
    let listed = subst (λ (l : List ℕ). IfOk c.rules_in_order.result (λ found. MatchOption found (AreRulesInOrder n l → ⊥)
    (λ rules. (rules.items ≡ l) × AreRulesInOrder n l))) c.as_slice.ensures c.rules_in_order.ensures in
    subst (λ (u : Option (List ℕ)). IfOk c.rules_in_order.result (λ found. MatchOption found (CoversRules d u → ⊥)
    (λ rules. (rules.items ≡ covered_rules u n) × CoversRules d u))) (sym c.in-Some.is) listed

pub returns-in_ok-all_rules-in-None : goal.returns-in_ok-all_rules-in-None
returns-in_ok-all_rules-in-None c =
    let d = system_data c.args.system.now in
    let n = length d.rules in
    let rules = c.in_ok-all_rules-in-None.field-0 in
    subst (λ (u : Option (List ℕ)). (rules.items ≡ covered_rules u n) × CoversRules d u) (sym c.in-None.is)
    (c.in_ok-all_rules-in-None.ensures, all_in_order n)
