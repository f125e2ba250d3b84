use Rattle.std.proofs.Common.{◌≡◌, ℕ, ◌+◌, ◌<◌, List, Option, Some, All, length, get_or, slice_get, arith, ap, subst}
use Rattle.std.specs.Option.{option_map_or}
use Rattle.std.proofs.lemmas.List.{length-map}
use Rattle.std.proofs.lemmas.List.Sums.{sum_by-take-le}
use Rattle.std.proofs.lemmas.Option.{slice_get-get_or}
use Rattle.wh_terms.specs.Erase.{rewrite_rule, rewrite_rules, declared_meta}
use Rattle.wh_terms.specs.Rules.{RewriteRule}
use Rattle.wh_terms.specs.declared.rule.Rule.{Rule}
use Rattle.wh_pairs.proofs.ByPlace.{contains_at, read_map}
use Rattle.wh_circuit.specs.State.{gates_of}
use Rattle.wh_poly_flat.specs.Flat.{rule_occurrences, rule_occurrences_at}
use Rattle.wh_find_flat.specs.Numbers.{Asks}
use Rattle.wh_find_flat.specs.Ready.{IsReadyRule, RuleHolds}
use Rattle.wh_find_flat.proofs.Growth.{later_more}
use Rattle.wh_find_flat.proofs.Loops.{asks_nothing, rule_asks, sum_all, sum_next}
use Rattle.wh_find_flat.proofs.formula.require_rules.Goals as goal

pub loop-number-init : goal.loop-number-init
loop-number-init c = record {
  asks = asks_nothing c.args.circuit.now (RuleHolds c.args.bits.now.sizes.items (rewrite_rules c.args.rules.now) c.args.listed.now);
  few = omega arith;
}

-- the rule at a place of the list
there : (rules : List Rule) (listed : List ℕ) (i : ℕ) (rule : Rule) → All (λ n. n < length rules) listed → i < length listed
    → rule ≡ get_or rules (get_or listed i 0) rule
    → (slice_get listed i ≡ Some (get_or listed i 0)) × (slice_get (rewrite_rules rules) (get_or listed i 0) ≡ Some (rewrite_rule rule))
there rules listed i rule within less is =
    (slice_get-get_or listed i 0 less, read_map rewrite_rule rules (get_or listed i 0) rule (within i 0 less) is)

pub require_rule-requires : goal.require_rule-requires
require_rule-requires c =
    let rules : List Rule = c.args.rules.now in
    let listed : List ℕ = c.args.listed.now in
    let i = c.loop-number.number-index in
    let r = c.index-rules-number.result in
    let rs = rewrite_rules rules in
    let n = get_or listed i 0 in
    let at = there rules listed i r c.requires.within c.loop-number-test.true c.index-rules-number.is in
    let ready : IsReadyRule (rewrite_rule r) = c.requires.ready (rewrite_rule r) (n, contains_at listed i n at.0, at.1) in
    let long = length-map r.metas declared_meta in
    let len = ap length c.as_slice-metas.ensures in
    let next = sum_next (rule_occurrences_at rs) listed i n at.0 in
    let own : rule_occurrences_at rs n ≡ rule_occurrences (rewrite_rule r) = ap (λ (o : Option RewriteRule). option_map_or rule_occurrences o 0) at.1 in
    let front = sum_by-take-le (rule_occurrences_at rs) listed (i + 1) in
    let few = c.loop-number.invariant.few in
    let room = c.requires.room in
    let more = later_more (gates_of c.args.circuit.now) (gates_of c.loop-number.circuit) c.loop-number.invariant.asks.gates in
    let inputs = c.requires.inputs in
    record {
      plain = ready.plain;
      metas = λ z s. (let b = ready.bounded z s in omega (arith, b, long, len));
      inputs = omega (arith, inputs, more);
      room = omega (arith, next, own, front, few, room);
    }

pub loop-number-preserved : goal.loop-number-preserved
loop-number-preserved c =
    let rules : List Rule = c.args.rules.now in
    let listed : List ℕ = c.args.listed.now in
    let i = c.loop-number.number-index in
    let r = c.index-rules-number.result in
    let rs = rewrite_rules rules in
    let n = get_or listed i 0 in
    let at = there rules listed i r c.requires.within c.loop-number-test.true c.index-rules-number.is in
    let next = sum_next (rule_occurrences_at rs) listed i n at.0 in
    let own : rule_occurrences_at rs n ≡ rule_occurrences (rewrite_rule r) = ap (λ (o : Option RewriteRule). option_map_or rule_occurrences o 0) at.1 in
    let few = c.loop-number.invariant.few in
    let f = c.in_ok-require_rule.ensures.few in
    record {
      asks = rule_asks c.args.circuit.now c.loop-number.circuit c.require_rule.new.circuit c.args.bits.now.sizes.items rs listed i n (rewrite_rule r) at.0 at.1
          c.loop-number.invariant.asks c.in_ok-require_rule.ensures.asks;
      few = omega (arith, next, own, few, f);
    }

pub returns : goal.returns
returns c =
    let listed : List ℕ = c.args.listed.now in
    let rs = rewrite_rules c.args.rules.now in
    let i = c.loop-number.number-index in
    let end : i ≡ length listed = omega arith in
    let all = sum_all (rule_occurrences_at rs) listed i (omega (arith, end)) in
    let few = c.loop-number.invariant.few in
    record {
      asks = subst (λ k. Asks c.args.circuit.now c.loop-number.circuit (λ v. (j : ℕ) → j < k → RuleHolds c.args.bits.now.sizes.items rs listed v j)) end c.loop-number.invariant.asks;
      few = omega (arith, few, all, end);
    }
