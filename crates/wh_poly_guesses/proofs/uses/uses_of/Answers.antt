use Rattle.std.proofs.Common.{List, length, ap, subst, ◌∙◌, arith}
use Rattle.std.proofs.lemmas.List.{length-map}
use Rattle.wh_terms.specs.Erase.{rewrite_rule}
use Rattle.wh_terms.specs.Rules.{RewriteRule}
use Rattle.wh_poly_guesses.specs.Uses.{AreRuleUses}
use Rattle.wh_poly_guesses.proofs.UseLemmas.{all_uses}
use Rattle.wh_poly_guesses.proofs.uses.uses_of.Goals as goal

pub uses_in_rules-requires : goal.uses_in_rules-requires
uses_in_rules-requires c i d within =
    let below = c.requires.task.typed.task.are_rules i d within in
    omega (arith, below, ap length c.rules.ensures, length-map c.rules.result.now rewrite_rule)

pub returns : goal.returns
returns c =
    let made = c.is_well_made.ensures in
    all_uses c.args.task.now c.args.marked.now c.in_ok-uses.uses.items c.in_ok-others.others.items _ _ made c.requires.task.typed
    (subst (λ (l : List RewriteRule). AreRuleUses l c.args.task.now.covered.now c.in_ok-uses.uses.items) c.rules.ensures c.in_ok-uses.ensures) c.in_ok-others.ensures
    c.in_ok-append.ensures.items (ap length c.fun_names-first.ensures ∙ made.symbols_named)
