use Rattle.std.proofs.Common.{◌≡◌, ◌++◌, ◌∷◌, [], List, map, take, ap, sym, subst, ◌∙◌, arith, rules}
use Rattle.std.specs.Prelude.{Contains}
use Rattle.std.proofs.lemmas.List.{take_all, nil_from_length}
use Rattle.wh_terms.specs.Typing.{Symbols}
use Rattle.wh_terms.specs.Erase.{rewrite_rule}
use Rattle.wh_pairs.specs.PairData.{PairData, pair_data}
use Rattle.wh_system.specs.SystemView.{system_data}
use Rattle.wh_pairs.specs.declared.pair.Pair.{Pair}
use Rattle.wh_system.proofs.MadeDecided.{system_is_well_made}
use Rattle.wh_pairs.specs.Calls.{Call, calls_of}
use Rattle.wh_pairs.specs.Candidates.{candidate}
use Rattle.wh_pairs.specs.Known.{TakesArguments}
use Rattle.wh_pairs.specs.Subsumption.{ArePairs, none_left}
use Rattle.wh_pairs.specs.Survivors.{Survive}
use Rattle.wh_pairs_calls.specs.declared.calling.Call as code
use Rattle.wh_pairs.specs.Views.{pairs_data}
use Rattle.wh_pairs_calls.specs.Views.{call_data}
use Rattle.wh_pairs.proofs.ListLemmas.{map_take, map-map}
use Rattle.wh_pairs.proofs.MemberLemmas.{image_there}
use Rattle.wh_pairs.proofs.KnownLemmas.{right_symbols, takes_arguments, defined_call}
use Rattle.wh_pairs.proofs.SubsumptionLaws.{survive_none}
use Rattle.wh_pairs_making.proofs.survivors.pairs_of_rule.Goals as goal

pub calls_of-requires : goal.calls_of-requires
calls_of-requires c =
    right_symbols (system_data c.args.system.now) (system_is_well_made c.args.system.now) (rewrite_rule c.args.rule.now) c.requires

pub loop-call-init : goal.loop-call-init
loop-call-init c = subst (λ (ps : List Pair). Survive [] (pairs_data ps)) (sym c.new-kept.ensures.items) survive_none

pub candidate-requires-clause-needs : goal.candidate-requires-clause-needs
candidate-requires-clause-needs c =
    let s = system_data c.args.system.now in
    let xs = c.as_slice-call-items.result.now in
    let call : Call = call_data c.call-item.result in
    let all : map call_data xs ≡ calls_of s.rules (rewrite_rule c.args.rule.now) = ap (map call_data) c.as_slice-call-items.ensures.value ∙ c.in_ok-calls.ensures in
    let there : Contains (calls_of s.rules (rewrite_rule c.args.rule.now)) call =
    subst (λ cs. Contains cs call) all (image_there call_data xs c.loop-call.call-index c.call-item.result c.loop-call-test.true c.call-item.is) in
    subst (λ (S : Symbols). TakesArguments S call.symbol call.need) (sym c.signature-signature.ensures)
    (takes_arguments s (system_is_well_made c.args.system.now) call.symbol call.need (defined_call s.rules (rewrite_rule c.args.rule.now) call there))

pub loop-call-preserved : goal.loop-call-preserved
loop-call-preserved c =
    let s = system_data c.args.system.now in
    let xs = c.as_slice-call-items.result.now in
    let of_call : code.Call → PairData = λ d. candidate s.symbols c.args.number (rewrite_rule c.args.rule.now) (call_data d) in
    let is : pair_data c.in_ok-made.made ≡ of_call c.call-item.result =
    c.in_ok-made.ensures ∙ ap (λ (S : Symbols). candidate S c.args.number (rewrite_rule c.args.rule.now) (call_data c.call-item.result)) c.signature-signature.ensures in
    let next = c.in_ok-keep.ensures (map of_call (take c.loop-call.call-index xs)) c.loop-call.invariant in
    subst (λ (cs : List PairData). Survive cs (pairs_data c.keep.new.kept.items))
    (ap (λ p. map of_call (take c.loop-call.call-index xs) ++ p ∷ []) is ∙ sym (map_take of_call xs c.loop-call.call-index c.call-item.result c.loop-call-test.true c.call-item.is)) next

pub returns-then-is_empty : goal.returns-then-is_empty
returns-then-is_empty c =
    let s = system_data c.args.system.now in
    let xs = c.in_ok-calls.calls.items in
    let cand : Call → PairData = candidate s.symbols c.args.number (rewrite_rule c.args.rule.now) in
    let none : xs ≡ [] = nil_from_length xs (search rules) in
    let all : [] ≡ calls_of s.rules (rewrite_rule c.args.rule.now) = ap (map call_data) (sym none) ∙ c.in_ok-calls.ensures in
    subst (λ (ps : List Pair). ArePairs (map cand (calls_of s.rules (rewrite_rule c.args.rule.now))) (pairs_data ps)) (sym c.new-kept.ensures.items)
    (subst (λ (cs : List Call). ArePairs (map cand cs) []) all none_left)

pub returns : goal.returns
returns c =
    let s = system_data c.args.system.now in
    let xs = c.as_slice-call-items.result.now in
    let cand : Call → PairData = candidate s.symbols c.args.number (rewrite_rule c.args.rule.now) in
    let all : map call_data xs ≡ calls_of s.rules (rewrite_rule c.args.rule.now) = ap (map call_data) c.as_slice-call-items.ensures.value ∙ c.in_ok-calls.ensures in
    subst (λ (cs : List PairData). ArePairs cs (pairs_data c.loop-call.kept.items))
    (ap (map (λ d. cand (call_data d))) (take_all c.loop-call.call-index xs (omega (arith, c.loop-call-test.false))) ∙ sym (map-map cand call_data xs) ∙ ap (map cand) all)
    c.loop-call.invariant.pairs_left
