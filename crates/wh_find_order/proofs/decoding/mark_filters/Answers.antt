use Rattle.std.proofs.Common.{◌+◌, ◌<◌, ◌≤◌, ◌++◌, ◌∷◌, [], List, length, map, get_or, ap, sym, ◌∙◌, arith}
use Rattle.std.proofs.lemmas.List.{length-map, length_push, take_more, take_all}
use Rattle.wh_order_inference.specs.FilterText.{WrittenFilter}
use Rattle.wh_order_inference.specs.Said.{written_filter}
use Rattle.wh_order_inference.specs.declared.filter.Filter.{Filter}
use Rattle.wh_order_node.specs.declared.filters.MarkFilter.{MarkFilter}
use Rattle.wh_pairs.proofs.ListLemmas.{map_push}
use Rattle.wh_poly_blocking.specs.Sizes.{value_of}
use Rattle.wh_order_lines.proofs.Matched.{matched_some, matched_none}
use Rattle.wh_order_space.specs.Bits.{IsFilterBy}
use Rattle.wh_find_order.specs.Encodings.{task_in, symbols_in, scopes_for}
use Rattle.wh_find_order.proofs.SpaceLemmas.{count_is}
use Rattle.wh_find_order.proofs.DecodingLemmas.{all_symbols, filters_next, no_filters}
use Rattle.wh_find_order.proofs.decoding.mark_filters.Goals as goal

pub loop-i-init : goal.loop-i-init
loop-i-init c =
    let e = c.args.encoding.now in
    let none = c.new-marks.ensures in
    let filters = λ (l : List MarkFilter). map (λ (m : MarkFilter). written_filter m.filter) l in
    record {
      count = ap length none;
      marks = ap (map (λ (m : MarkFilter). m.symbol)) none;
      filters = no_filters e (value_of c.args.values.now) (symbols_in e) (filters c.new-marks.result) (ap filters none);
    }

pub filter_at-requires-clause-within : goal.filter_at-requires-clause-within
filter_at-requires-clause-within c =
    omega (arith, all_symbols c.args.encoding.now c.requires.encoding, c.requires.symbols, c.loop-i-test.true)

pub loop-i-preserved : goal.loop-i-preserved
loop-i-preserved c =
    let e = c.args.encoding.now in
    let v = value_of c.args.values.now in
    let i = c.loop-i.i in
    let n = c.args.symbols + i in
    let before = c.loop-i.invariant in
    let marks = c.loop-i.marks in
    let filter = c.in-Some.filter in
    let mark : MarkFilter = record { symbol = get_or e.marked.now i 0; filter = filter } in
    let made = c.in_ok-push.ensures.ok in
    let is = λ (f : WrittenFilter). IsFilterBy (task_in e) e.marked.now v n f in
    let here = matched_some c.in_ok-filter.field-0 filter ((f : WrittenFilter) → is f → ⊥) (λ (f : Filter). is (written_filter f)) c.in-Some.is c.in_ok-filter.ensures in
    let filters = λ (m : MarkFilter). written_filter m.filter in
    record {
      count = ap length made ∙ length_push marks mark ∙ ap (λ k. k + 1) before.count;
      marks = map_push (λ (m : MarkFilter). m.symbol) marks c.push.new.self mark made
          ∙ ap (λ l. l ++ get_or e.marked.now i 0 ∷ []) before.marks ∙ sym (take_more e.marked.now i 0 c.loop-i-test.true);
      filters = filters_next e v (symbols_in e) (map filters marks) (map filters c.push.new.self) (written_filter filter) n
          (map_push filters marks c.push.new.self mark made) (omega (arith, length-map marks filters, before.count, c.requires.symbols)) before.filters here;
    }

pub returns-in_default : goal.returns-in_default
returns-in_default c =
    let e = c.args.encoding.now in
    let v = value_of c.args.values.now in
    let n = c.args.symbols + c.loop-i.i in
    let is = λ (f : WrittenFilter). IsFilterBy (task_in e) e.marked.now v n f in
    let within : n < length (scopes_for e) = omega (arith, count_is (task_in e) e.marked.now, c.requires.symbols, c.loop-i-test.true) in
    let none = matched_none c.in_ok-filter.field-0 ((f : WrittenFilter) → is f → ⊥) (λ (f : Filter). is (written_filter f)) c.in_default.is c.in_ok-filter.ensures in
    record { marks = (within, none); filters = (within, none) }

pub returns-clause-marks : goal.returns-clause-marks
returns-clause-marks c =
    let all : length c.args.encoding.now.marked.now ≤ c.loop-i.i = omega (arith, c.loop-i-test.false) in
    c.loop-i.invariant.marks ∙ take_all c.loop-i.i c.args.encoding.now.marked.now all
