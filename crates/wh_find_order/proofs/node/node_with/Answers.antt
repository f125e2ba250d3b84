use Rattle.std.proofs.Common.{◌≡◌, ◌≤◌, ℕ, List, Some, length, map, slice_get, ap, sym, subst, ◌∙◌, refl, arith}
use Rattle.std.proofs.lemmas.List.{length-map}
use Rattle.wh_system.specs.SystemView.{system_data}
use Rattle.wh_pairs.specs.PairData.{pair_data}
use Rattle.wh_pairs.proofs.ListLemmas.{map-map}
use Rattle.wh_reduction_pairs.specs.TaskData.{TaskData, IsTask}
use Rattle.wh_reduction_pairs.specs.TaskView.{task_data}
use Rattle.wh_order_inference.specs.Said.{inference, written_filter}
use Rattle.wh_order_node.specs.FilteringView.{filtering_data}
use Rattle.wh_order_node.specs.declared.filters.MarkFilter.{MarkFilter}
use Rattle.wh_order.specs.TreeSides.{AreFilters}
use Rattle.wh_cert.specs.Said.{said_filter}
use Rattle.wh_cert.specs.declared.order_node.NamedFilter.{NamedFilter}
use Rattle.wh_proof.specs.Looked.{SayFilters, SayMarkFilters}
use Rattle.wh_proof.proofs.FilterLemmas.{filters_read, mark_filters_read}
use Rattle.wh_poly_guesses.proofs.NodeLemmas.{whole_is}
use Rattle.wh_order_lines.specs.OrderWalks.{AreRuleLines, ArePairLines}
use Rattle.wh_find_order.specs.Trials.{IsTried}
use Rattle.wh_find_order.proofs.NodeLemmas.{order_found}
use Rattle.wh_find_order.proofs.node.node_with.Goals as goal

pub returns : goal.returns
returns c =
    let t = c.args.task.now in
    let d = system_data t.system.now in
    let T = task_data t in
    let filters = c.args.filters.now in
    let D = filtering_data filters in
    let funs = c.in_ok-funs.funs in
    let lines = c.in_ok-marks.marks in
    let rules = map inference c.args.rules in
    let pairs = map inference c.args.found.lines in
    let few : length T.pairs ≤ 4096 = omega (arith, c.requires.few, length-map t.pairs.now pair_data) in
    let says : SayFilters d.fun_names (map said_filter funs) D.symbols =
    filters_read d.fun_names funs (map written_filter filters.funs) (c.in_ok-funs.ensures.names ∙ c.fun_names-names.ensures)
    (sym (c.in_ok-funs.ensures.filters ∙ ap (map written_filter) c.as_slice.ensures)) in
    let named = subst (λ (names : List (List ℕ)). map (λ (m : MarkFilter). slice_get names m.symbol) c.as_slice-2.result.now ≡ map (λ (l : NamedFilter). Some l.name) lines) c.fun_names-names.ensures c.in_ok-marks.ensures.names in
    let named' = subst (λ (ms : List MarkFilter). map (λ (m : MarkFilter). slice_get d.fun_names m.symbol) ms ≡ map (λ (l : NamedFilter). Some l.name) lines) c.as_slice-2.ensures named in
    let written = subst (λ (ms : List MarkFilter). map (λ (m : MarkFilter). written_filter m.filter) ms ≡ map (λ (l : NamedFilter). written_filter l.filter) lines) c.as_slice-2.ensures c.in_ok-marks.ensures.filters in
    let says_marks : SayMarkFilters d (map said_filter lines) D.marks =
    mark_filters_read d lines (map (λ (m : MarkFilter). m.symbol) filters.marks) filters.marks
    (map-map (λ n. slice_get d.fun_names n) (λ (m : MarkFilter). m.symbol) filters.marks ∙ named') refl written in
    let whole = whole_is t c.requires.task.whole in
    let tried = c.requires.filters in
    let are : AreFilters d.symbols d.rules D = record { each_symbol = tried.filters.each_symbol; symbols = tried.symbols; marks = tried.marks } in
    order_found d T.pairs T.set D (map said_filter funs) (map said_filter lines) rules pairs c.args.found.drop c.is_well_made.ensures few
    (subst IsTask whole c.requires.task.typed.task)
    (subst (λ (T : TaskData). IsTried T D) whole tried)
    (subst (λ (T : TaskData). AreRuleLines T D rules) whole c.requires.rules)
    (subst (λ (T : TaskData). ArePairLines T D pairs c.args.found.drop) whole c.requires.pairs)
    c.requires.some says says_marks
    (λ r i good within. c.rule_line_fits.ensures d D r i c.is_well_made.ensures are good within)
    (λ p i good within. c.pair_line_fits.ensures d D p i c.is_well_made.ensures are good within)
