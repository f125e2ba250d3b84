use Rattle.std.proofs.Common.{◌≡◌, ℕ, List, Option, IfOk, length, sym, subst}
use Rattle.wh_system.specs.SystemView.{system_data}
use Rattle.wh_proof.specs.Looked.{covered_rules}
use Rattle.wh_find_flat.proofs.find.rules_of.Goals as goal

pub returns-in-Some : goal.returns-in-Some
returns-in-Some c =
    let n = length (system_data c.args.system.now).rules in
    subst (λ (u : Option (List ℕ)). IfOk c.copied.result (λ rules. rules.items ≡ covered_rules u n)) (sym c.in-Some.is)
    (subst (λ (l : List ℕ). IfOk c.copied.result (λ rules. rules.items ≡ l)) c.as_slice.ensures c.copied.ensures)

pub returns-in-None : goal.returns-in-None
returns-in-None c =
    let n = length (system_data c.args.system.now).rules in
    subst (λ (u : Option (List ℕ)). IfOk c.all_rules.result (λ rules. rules.items ≡ covered_rules u n)) (sym c.in-None.is) c.all_rules.ensures
