use Rattle.std.proofs.Common.{◌≡◌, ◌++◌, ℕ, List, [], length, map, ap, ap₂, sym, subst, ◌∙◌, arith, append_assoc}
use Rattle.std.specs.Prelude.{OnOk}
use Rattle.std.proofs.lemmas.Result.{IfOk-weaker}
use Rattle.wh_types.specs.Ty.{Ty}
use Rattle.wh_terms.specs.Tree.{Tm, head, tms_of}
use Rattle.wh_terms.specs.Erase.{tm, tms, rewrite_rules}
use Rattle.wh_terms.specs.Rules.{RewriteRule}
use Rattle.wh_terms.specs.Scope.{scope}
use Rattle.wh_terms.proofs.TermLemmas.{weight, weights, tm_of_meta, weight_in_meta, weight_in_item}
use Rattle.wh_pairs.specs.PairData.{Within, within}
use Rattle.wh_system.specs.SystemView.{system_data}
use Rattle.wh_pairs.specs.Spines.{spine_arguments}
use Rattle.wh_pairs.specs.Calls.{Call, calls}
use Rattle.wh_pairs_calls.specs.CallsEach.{calls_each}
use Rattle.wh_pairs.specs.Known.{SymbolsBelow, AllSymbolsBelow}
use Rattle.wh_pairs_calls.specs.Views.{call_data, trees}
use Rattle.wh_pairs_calls.proofs.SpineLemmas.{weight_of_spine, head_head, no_head}
use Rattle.wh_pairs_calls.proofs.CallLemmas.{calls_of_spine, symbols_of_head, symbols_of_arguments, symbols_of_argument, weight_of_argument, each_next, symbols_of_item, within_next}
use Rattle.wh_pairs_calls.proofs.calling.+calls.Goals as goal

pub add_calls-add_head-requires : goal.add_calls-add_head-requires
add_calls-add_head-requires t c =
    let e : tm c.in_ok-spine.spine.head.now ≡ head (tm c.args.term.now) = c.in_ok-spine.ensures.head in
    let n : ℕ = length (system_data c.args.system.now).fun_names in (
      omega (arith, ap weight e, weight_of_spine (tm c.args.term.now)),
      (subst (SymbolsBelow n) (sym e) (symbols_of_head n (tm c.args.term.now) c.requires), ap head e ∙ head_head (tm c.args.term.now) ∙ sym e),
    )

pub add_calls-add_each-requires : goal.add_calls-add_each-requires
add_calls-add_each-requires t c =
    let e : trees c.as_slice.result.now ≡ spine_arguments (tm c.args.term.now) = ap trees c.as_slice.ensures.value ∙ c.in_ok-spine.ensures.arguments in
    let n : ℕ = length (system_data c.args.system.now).fun_names in (
      omega (arith, ap (λ ts. weights (tms_of ts)) e, weight_of_spine (tm c.args.term.now)),
      subst (λ ts. AllSymbolsBelow n (tms_of ts)) (sym e) (symbols_of_arguments n (tm c.args.term.now) c.requires),
    )

pub add_calls-returns : goal.add_calls-returns
add_calls-returns t c =
    let rs : List RewriteRule = rewrite_rules c.args.system.now.rules.items in
    let cs : List Within = map within c.args.around.now.conditions.now in
    let Γ : List Ty = scope c.args.around.now.binders.now in
    let old : List Call = map call_data c.args.found.now.items in
    let h : tm c.in_ok-spine.spine.head.now ≡ head (tm c.args.term.now) = c.in_ok-spine.ensures.head in
    let a : trees c.in_ok-spine.spine.arguments.items ≡ spine_arguments (tm c.args.term.now) = c.in_ok-spine.ensures.arguments in
    let e : trees c.as_slice.result.now ≡ spine_arguments (tm c.args.term.now) = ap trees c.as_slice.ensures.value ∙ a in
    let first : map call_data c.add_head.new.found.items ≡ old ++ calls rs cs Γ (head (tm c.args.term.now)) (spine_arguments (tm c.args.term.now)) =
    c.in_ok-add_head.ensures ∙ ap₂ (λ t qs. old ++ calls rs cs Γ t qs) h a in
    IfOk-weaker c.add_each.result (λ _. map call_data c.add_each.new.found.items ≡ map call_data c.add_head.new.found.items ++ calls_each rs cs Γ (trees c.as_slice.result.now))
    (λ _. map call_data c.add_each.new.found.items ≡ old ++ calls rs cs Γ (tm c.args.term.now) [])
    (λ _ f. f ∙ ap₂ (λ l ts. l ++ calls_each rs cs Γ ts) first e ∙ append_assoc old _ _ ∙ ap (λ l. old ++ l) (sym (calls_of_spine rs cs Γ (tm c.args.term.now))))
    c.add_each.ensures

pub add_each-add_calls-requires : goal.add_each-add_calls-requires
add_each-add_calls-requires t c =
    let n : ℕ = length (system_data c.args.system.now).fun_names in (
      omega (arith, weight_of_argument c.args.arguments.now c.loop-argument.argument-index c.argument-item.result c.loop-argument-test.true c.argument-item.is),
      symbols_of_argument n c.args.arguments.now c.loop-argument.argument-index c.argument-item.result c.loop-argument-test.true c.argument-item.is c.requires,
    )

pub add_each-loop-argument-preserved : goal.add_each-loop-argument-preserved
add_each-loop-argument-preserved t c =
    each_next (rewrite_rules c.args.system.now.rules.items) (map within c.args.around.now.conditions.now) (scope c.args.around.now.binders.now) c.args.arguments.now c.loop-argument.argument-index c.argument-item.result
    (map call_data c.args.found.now.items) (map call_data c.loop-argument.found.items) (map call_data c.add_calls.new.found.items)
    c.loop-argument.invariant c.in_ok-add_calls.ensures c.loop-argument-test.true c.argument-item.is

pub add_head-add_within-requires : goal.add_head-add_within-requires
add_head-add_within-requires t c =
    let n : ℕ = length (system_data c.args.system.now).fun_names in (
      omega (arith, weight_in_meta c.args.spine.now.head.now c.in-Meta.meta c.in-Meta.items c.in-Meta.is),
      subst (SymbolsBelow n) (tm_of_meta c.args.spine.now.head.now c.in-Meta.meta c.in-Meta.items c.in-Meta.is) c.requires.symbols,
    )

pub add_head-returns-in-Meta : goal.add_head-returns-in-Meta
add_head-returns-in-Meta t c =
    let rs : List RewriteRule = rewrite_rules c.args.system.now.rules.items in
    let cs : List Within = map within c.args.around.now.conditions.now in
    let Γ : List Ty = scope c.args.around.now.binders.now in
    let qs : List Tm = trees c.args.spine.now.arguments.items in
    subst (λ (u : Tm). OnOk c.add_within.result (map call_data c.add_within.new.found.items ≡ map call_data c.args.found.now.items ++ calls rs cs Γ u qs))
    (sym (tm_of_meta c.args.spine.now.head.now c.in-Meta.meta c.in-Meta.items c.in-Meta.is)) c.add_within.ensures

pub add_within-add_calls-requires : goal.add_within-add_calls-requires
add_within-add_calls-requires t c =
    let n : ℕ = length (system_data c.args.system.now).fun_names in
    let xs = c.as_slice-item-items.result.now in (
      omega (arith, weight_in_item c.args.items.now xs c.loop-i.i c.item-item.result c.as_slice-item-items.ensures c.loop-i-test.true c.item-item.is),
      symbols_of_item n xs c.loop-i.i c.item-item.result c.loop-i-test.true c.item-item.is (subst (λ ts. AllSymbolsBelow n (tms ts)) (sym c.as_slice-item-items.ensures) c.requires),
    )

pub add_within-loop-i-preserved : goal.add_within-loop-i-preserved
add_within-loop-i-preserved t c =
    within_next (rewrite_rules c.args.system.now.rules.items) (map within c.args.around.now.conditions.now) (scope c.args.around.now.binders.now) c.args.meta c.as_slice-item-items.result.now c.loop-i.i c.in_ok-sum.field-0 c.item-item.result
    (map within c.as_slice.result.now) (map call_data c.args.found.now.items) (map call_data c.loop-i.found.items) (map call_data c.add_calls.new.found.items)
    c.loop-i.invariant (omega (arith, c.in_ok-sum.ensures, c.in_ok-counted.ensures)) (ap (map within) c.as_slice.ensures.value ∙ c.in_ok-inner.ensures) c.in_ok-add_calls.ensures c.loop-i-test.true c.item-item.is

pub add_head-unreachable-requires : goal.add_head-unreachable-requires
add_head-unreachable-requires t c = no_head _ _ (tm c.args.spine.now.head.now) c.requires.head (ap tm c.in-App.is)
