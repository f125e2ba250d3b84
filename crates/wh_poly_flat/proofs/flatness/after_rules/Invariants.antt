use Rattle.wh_terms.specs.Erase.{rewrite_rules, symbols}
use Rattle.wh_poly_flat.specs.Flat.{rule_occurrences_at}
use Rattle.wh_poly_flat.proofs.RoomLemmas.{Passed, IsFlatRuleAt}
use Rattle.wh_poly_flat.proofs.flatness.after_rules.Given as goal

abbrev pub invariant-loop-number : goal.invariant-loop-number
invariant-loop-number l =
    let rules = rewrite_rules l.fn.rules in
    Passed (IsFlatRuleAt (symbols l.fn.signature) rules) (rule_occurrences_at rules) l.fn.listed l.fn.room l.number-index l.rest
