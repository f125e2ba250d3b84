use Rattle.std.proofs.Common.{List, ℕ, map, ap, sym, subst, ◌∙◌}
use Rattle.wh_system.specs.SystemView.{system_data}
use Rattle.wh_pairs.specs.Views.{pairs_data}
use Rattle.wh_pairs.specs.Marked.{AreMarked}
use Rattle.wh_pairs.specs.Sets.{IsSetOf, IsKept}
use Rattle.wh_reduction_pairs.specs.TaskData.{TaskData, whole_task}
use Rattle.wh_reduction_pairs.specs.ReductionPair.{Evidence}
use Rattle.wh_order_inference.specs.Inferences.{Inference}
use Rattle.wh_order_inference.specs.Said.{inference}
use Rattle.wh_cert.specs.Said.{said_filter}
use Rattle.wh_order_node.specs.FilteringView.{filtering_data}
use Rattle.wh_order_node.specs.Ordering.{IsOrdering}
use Rattle.wh_order_check.specs.OrderingFaults.{IsFirstOrderingFault}
use Rattle.wh_order_check.specs.declared.fault.OrderingFault.{OrderingFault}
use Rattle.wh_proof.specs.Looked.{inferences_of}
use Rattle.wh_proof.proofs.FilterLemmas.{as_many_filters}
use Rattle.wh_checker.proofs.GoLemmas.{because_says, goes_order, whole_is, inferences_are}
use Rattle.wh_checker.proofs.node.oriented_by.Goals as goal

pub check_ordering-requires-clause-filters : goal.check_ordering-requires-clause-filters
check_ordering-requires-clause-filters c =
    let d = system_data c.args.task.now.system.now in
    let D = filtering_data c.args.filters.now in
    record {
      each_symbol = as_many_filters d.fun_names (map said_filter c.args.node.now.funs) D.symbols c.requires.says.0.0
          ∙ c.is_well_made.ensures.symbols_named;
      marked = subst (λ (set : List ℕ). AreMarked (pairs_data c.args.task.now.pairs.now) set (map (λ m. m.symbol) D.marks))
          (sym c.requires.set) c.requires.says.1;
    }

pub returns-in_ok-kept-in-Ok : goal.returns-in_ok-kept-in-Ok
returns-in_ok-kept-in-Ok c =
    let task = c.args.task.now in
    let d = system_data task.system.now in
    let ps = pairs_data task.pairs.now in
    let set = c.args.set.now in
    let node = c.args.node.now in
    let D = filtering_data c.args.filters.now in
    let rest = c.in_ok-kept-in-Ok.field-0 in
    let rules = map inference c.as_slice.result.now in
    let pairs = map inference c.as_slice-2.result.now in
    let drop = c.as_slice-3.result.now in
    let whole = whole_is d.symbols d.rules ps set task.set.now task.covered.now c.requires.set c.requires.whole in
    let lines = inferences_are rules (map inference node.rules) pairs (map inference node.pairs) drop node.drop
    (ap (map inference) c.as_slice.ensures) (ap (map inference) c.as_slice-2.ensures) c.as_slice-3.ensures in
    let ordering = subst (λ (E : Evidence Inference). IsOrdering (whole_task d.symbols d.rules ps set) D E) lines
    (subst (λ (T : TaskData). IsOrdering T D (inferences_of rules pairs drop)) whole c.in-Ok.ensures.ordering) in
    goes_order d ps set (map said_filter node.funs) (map said_filter node.marks) (map inference node.rules) (map inference node.pairs)
    node.drop rest D c.requires.says ordering
    (subst (λ (l : List ℕ). IsSetOf (IsKept set l) rest) c.as_slice-3.ensures c.in_ok-kept-in-Ok.ensures)

pub returns-in-Err-Because : goal.returns-in-Err-Because
returns-in-Err-Because c =
    let task = c.args.task.now in
    let d = system_data task.system.now in
    let ps = pairs_data task.pairs.now in
    let set = c.args.set.now in
    let node = c.args.node.now in
    let D = filtering_data c.args.filters.now in
    let f = c.in-Err-Because.fault in
    let rules = map inference c.as_slice.result.now in
    let pairs = map inference c.as_slice-2.result.now in
    let drop = c.as_slice-3.result.now in
    let whole = whole_is d.symbols d.rules ps set task.set.now task.covered.now c.requires.set c.requires.whole in
    let lines = inferences_are rules (map inference node.rules) pairs (map inference node.pairs) drop node.drop
    (ap (map inference) c.as_slice.ensures) (ap (map inference) c.as_slice-2.ensures) c.as_slice-3.ensures in
    let first = because_says c.in-Err-Because.field-0 f _ c.in-Err-Because.field-0-is c.in-Err-Because.ensures.fault in
    let here = subst (λ (E : Evidence Inference). IsFirstOrderingFault (whole_task d.symbols d.rules ps set) D E f) lines
    (subst (λ (T : TaskData). IsFirstOrderingFault T D (inferences_of rules pairs drop) f) whole first) in (
      D,
      c.requires.says,
      subst (λ (g : OrderingFault). IsFirstOrderingFault (whole_task d.symbols d.rules ps set) D
          (inferences_of (map inference node.rules) (map inference node.pairs) node.drop) g) (sym c.in-Err-Because.fault-is) here,
    )
