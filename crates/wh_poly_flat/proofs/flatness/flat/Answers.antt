use Rattle.std.proofs.Common.{◌<◌, ℕ, List, Some, None, Contains, length, ap, sym, subst, ◌∙◌, arith}
use Rattle.std.proofs.lemmas.List.{length-map}
use Rattle.std.proofs.lemmas.List.Elements.{All-contains}
use Rattle.wh_terms.specs.Erase.{rewrite_rule, rewrite_rules, symbols}
use Rattle.wh_terms.specs.Rules.{RewriteRule, IsWellMade}
use Rattle.wh_terms.specs.Typing.{Symbols}
use Rattle.wh_pairs.specs.PairData.{pair_data}
use Rattle.wh_pairs.proofs.SetLemmas.{all_from_members}
use Rattle.wh_reduction_pairs.specs.TaskView.{task_data}
use Rattle.wh_poly_flat.proofs.Decided.{rules_of, pairs_of, rules_fail, pairs_decide}
use Rattle.wh_poly_flat.proofs.flatness.flat.Goals as goal

pub after_rules-requires-clause-made : goal.after_rules-requires-clause-made
after_rules-requires-clause-made c r found =
    subst (λ (S : Symbols). IsWellMade S r) (sym c.signature-signature.ensures)
    (c.is_well_made.ensures.rules.each r (subst (λ (l : List RewriteRule). Contains l r) c.rules.ensures found))

pub after_rules-requires-clause-within : goal.after_rules-requires-clause-within
after_rules-requires-clause-within c =
    let covered : List ℕ = c.args.task.now.covered.now in
    let count = ap (λ (l : List RewriteRule). length l) c.rules.ensures in
    all_from_members (λ n. n < length c.rules.result.now) covered (λ n found.
    let below = All-contains (λ n. n < length (task_data c.args.task.now).rules) covered n c.requires.are_rules found in
    omega (arith, below, count, length-map c.rules.result.now rewrite_rule))

pub after_pairs-requires : goal.after_pairs-requires
after_pairs-requires c =
    let set : List ℕ = c.args.task.now.set.now in
    let pairs = c.args.task.now.pairs.now in
    all_from_members (λ n. n < length pairs) set (λ n found.
    let below = All-contains (λ n. n < length (task_data c.args.task.now).pairs) set n c.requires.within found in
    omega (arith, below, length-map pairs pair_data))

pub returns-in-None : goal.returns-in-None
returns-in-None c =
    let T = task_data c.args.task.now in
    let fails = rules_of T (symbols c.signature-signature.result.now) (rewrite_rules c.rules.result.now) c.after_rules.result None
    c.signature-signature.ensures c.rules.ensures c.in-None.is c.after_rules.ensures in
    (λ yes. cc yes, λ flat. absurd (rules_fail T fails flat))

pub returns-in-Some : goal.returns-in-Some
returns-in-Some c =
    let T = task_data c.args.task.now in
    let S = symbols c.signature-signature.result.now in
    let rest = c.in-Some.rest in
    let rules = rules_of T S (rewrite_rules c.rules.result.now) c.after_rules.result (Some rest)
    c.signature-signature.ensures c.rules.ensures c.in-Some.is c.after_rules.ensures in
    let pairs = pairs_of T S rest c.after_pairs.result c.signature-signature.ensures c.after_pairs.ensures in
    let both = pairs_decide T rest rules c.after_pairs.result pairs in
    (λ yes. both.0 (sym c.is_some.ensures ∙ yes), λ flat. c.is_some.ensures ∙ both.1 flat)
