use Rattle.std.proofs.Common.{Option, ℕ, ◌≤◌, None, Some, sum_by, get_or, sym, subst}
use Rattle.wh_terms.specs.Budget.{Left}
use Rattle.wh_terms.specs.Erase.{rewrite_rule, rewrite_rules, symbols}
use Rattle.wh_terms.specs.Rules.{RewriteRule}
use Rattle.wh_pairs.proofs.ByPlace.{contains_at, number_at, read_map}
use Rattle.wh_poly_flat.specs.Flat.{IsFlatRule, IsListed, rule_occurrences_at}
use Rattle.wh_poly_flat.proofs.RoomLemmas.{IsFlatRuleAt, walk_next, walk_stops, walk_ends, left_rule_at, left_rules}
use Rattle.wh_poly_flat.proofs.flatness.after_rules.Goals as goal

pub after_rule-requires : goal.after_rule-requires
after_rule-requires c =
    let rules = c.args.rules.now in
    let i = c.loop-number.number-index in
    let n = get_or c.args.listed.now i 0 in
    let r = c.index-rules-number.result in
    let there = read_map rewrite_rule rules n r (c.requires.within i 0 c.loop-number-test.true) c.index-rules-number.is in
    c.requires.made (rewrite_rule r) (contains_at (rewrite_rules rules) n (rewrite_rule r) there)

pub loop-number-preserved : goal.loop-number-preserved
loop-number-preserved c =
    let S = symbols c.args.signature.now in
    let rules = c.args.rules.now in
    let rs = rewrite_rules rules in
    let listed = c.args.listed.now in
    let i = c.loop-number.number-index in
    let n = get_or listed i 0 in
    let r = c.index-rules-number.result in
    let there = read_map rewrite_rule rules n r (c.requires.within i 0 c.loop-number-test.true) c.index-rules-number.is in
    walk_next (IsFlatRuleAt S rs) (rule_occurrences_at rs) listed c.args.room i c.loop-number.rest c.in_ok-rest.rest n
    (number_at listed i c.loop-number-test.true) c.loop-number.invariant
    (left_rule_at S rs n c.loop-number.rest (rewrite_rule r) there (Some c.in_ok-rest.rest) c.in_ok-rest.ensures)

pub returns-in_err-rest : goal.returns-in_err-rest
returns-in_err-rest c =
    let S = symbols c.args.signature.now in
    let rules = c.args.rules.now in
    let rs = rewrite_rules rules in
    let listed = c.args.listed.now in
    let room = c.args.room in
    let i = c.loop-number.number-index in
    let n = get_or listed i 0 in
    let r = c.index-rules-number.result in
    let there = read_map rewrite_rule rules n r (c.requires.within i 0 c.loop-number-test.true) c.index-rules-number.is in
    let stops = walk_stops (IsFlatRuleAt S rs) (rule_occurrences_at rs) listed room i c.loop-number.rest n (number_at listed i c.loop-number-test.true)
    c.loop-number.invariant (left_rule_at S rs n c.loop-number.rest (rewrite_rule r) there None c.in_err-rest.ensures) in
    subst (λ (answer : Option ℕ). Left room (sum_by (rule_occurrences_at rs) listed)
    (((q : RewriteRule) → IsListed rs listed q → IsFlatRule S q) × (sum_by (rule_occurrences_at rs) listed ≤ room)) answer)
    (sym c.from_residual.ensures) (left_rules S rs listed room None stops)

pub returns : goal.returns
returns c =
    let S = symbols c.args.signature.now in
    let rs = rewrite_rules c.args.rules.now in
    let listed = c.args.listed.now in
    let rest = c.loop-number.rest in
    left_rules S rs listed c.args.room (Some rest)
    (walk_ends (IsFlatRuleAt S rs) (rule_occurrences_at rs) listed c.args.room c.loop-number.number-index rest c.loop-number-test.false c.loop-number.invariant)
