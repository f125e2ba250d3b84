use Rattle.std.proofs.Common.{◌≡◌, ◌++◌, ◌+◌, [], ℕ, List, length, map, take, ap, sym, subst, arith}
use Rattle.std.proofs.lemmas.List.{length-map, length-append}
use Rattle.wh_terms.specs.Rules.{RewriteRule}
use Rattle.wh_terms.specs.Erase.{rewrite_rule, rewrite_rules}
use Rattle.wh_pairs.specs.PairData.{PairData, pair_data}
use Rattle.wh_system.specs.SystemView.{system_data}
use Rattle.wh_pairs.specs.declared.pair.Pair.{Pair}
use Rattle.wh_pairs.specs.Calls.{calls_of}
use Rattle.wh_pairs.specs.Candidates.{candidate, candidates, candidates_from}
use Rattle.wh_pairs.specs.Subsumption.{ArePairs, none_left}
use Rattle.wh_pairs.specs.Views.{pairs_data}
use Rattle.wh_pairs.proofs.Decisions.{some_left}
use Rattle.wh_pairs_making.proofs.RuleLemmas.{rule_next, too_many}
use Rattle.wh_pairs_making.proofs.survivors.pairs.Goals as goal

pub loop-i-init : goal.loop-i-init
loop-i-init c = (
  subst (λ (ps : List Pair). ArePairs [] (pairs_data ps)) (sym c.new-list.ensures) none_left,
  omega (arith, ap length c.new-list.ensures),
)

pub returns-then-as_slice-len-gt-MOST_PAIRS : goal.returns-then-as_slice-len-gt-MOST_PAIRS
returns-then-as_slice-len-gt-MOST_PAIRS c =
    let s = system_data c.args.system.now in
    let xs = c.rules-rule-items.result.now in
    let i : ℕ = c.loop-i.i in
    let r : RewriteRule = rewrite_rule c.rule-item.result in
    let found = subst (λ (k : ℕ). ArePairs (map (candidate s.symbols k r) (calls_of s.rules r)) (pairs_data c.in_ok-found.found.items)) c.in_ok-counted.ensures c.in_ok-found.ensures in
    let all = some_left [] (candidates s.symbols s.rules) in
    let whole = subst (λ (rs : List RewriteRule). ArePairs (candidates_from s.symbols s.rules 0 rs) all.0) (sym c.rules-rule-items.ensures) all.1 in (
      all.0,
      all.1,
      omega (
        arith,
        too_many s.symbols s.rules xs i c.rule-item.result c.loop-i-test.true c.rule-item.is (pairs_data c.loop-i.list) (pairs_data c.in_ok-found.found.items) all.0 c.loop-i.invariant.0 found whole,
        length-map c.loop-i.list pair_data,
        length-map c.in_ok-found.found.items pair_data,
        ap length c.as_slice.ensures,
        c.len.ensures,
        c.if-as_slice-len-gt-MOST_PAIRS.true,
      ),
    )

pub loop-i-preserved : goal.loop-i-preserved
loop-i-preserved c =
    let s = system_data c.args.system.now in
    let xs = c.rules-rule-items.result.now in
    let i : ℕ = c.loop-i.i in
    let r : RewriteRule = rewrite_rule c.rule-item.result in
    let found = subst (λ (k : ℕ). ArePairs (map (candidate s.symbols k r) (calls_of s.rules r)) (pairs_data c.in_ok-found.found.items)) c.in_ok-counted.ensures c.in_ok-found.ensures in
    let joined : pairs_data c.add_pairs.new.list ≡ pairs_data c.loop-i.list ++ pairs_data c.in_ok-found.found.items = c.in_ok-add_pairs.ensures in (
      subst (λ (ps : List PairData). ArePairs (candidates_from s.symbols s.rules 0 (rewrite_rules (take (i + 1) xs))) ps) (sym joined)
          (rule_next s.symbols s.rules xs i c.rule-item.result c.loop-i-test.true c.rule-item.is (pairs_data c.loop-i.list) (pairs_data c.in_ok-found.found.items) c.loop-i.invariant.0 found),
      omega (
        arith,
        ap length joined,
        length-append (pairs_data c.loop-i.list) (pairs_data c.in_ok-found.found.items),
        length-map c.add_pairs.new.list pair_data,
        length-map c.loop-i.list pair_data,
        length-map c.in_ok-found.found.items pair_data,
        ap length c.as_slice.ensures,
        c.len.ensures,
        c.if-as_slice-len-gt-MOST_PAIRS.false,
      ),
    )
