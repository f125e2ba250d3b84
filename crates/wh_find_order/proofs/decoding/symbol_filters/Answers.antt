use Rattle.std.proofs.Common.{◌+◌, ◌<◌, length, map, ap, ◌∙◌, arith}
use Rattle.std.proofs.lemmas.List.{length-map, length_push}
use Rattle.wh_order_inference.specs.FilterText.{WrittenFilter}
use Rattle.wh_order_inference.specs.Said.{written_filter}
use Rattle.wh_order_inference.specs.declared.filter.Filter.{Filter}
use Rattle.wh_pairs.proofs.ListLemmas.{map_push}
use Rattle.wh_poly_blocking.specs.Sizes.{value_of}
use Rattle.wh_order_lines.proofs.Matched.{matched_some, matched_none}
use Rattle.wh_order_space.specs.Bits.{IsFilterBy}
use Rattle.wh_find_order.specs.Encodings.{task_in, scopes_for}
use Rattle.wh_find_order.proofs.SpaceLemmas.{count_is}
use Rattle.wh_find_order.proofs.DecodingLemmas.{all_symbols, filters_next, no_filters}
use Rattle.wh_find_order.proofs.decoding.symbol_filters.Goals as goal

pub loop-number-init : goal.loop-number-init
loop-number-init c =
    let none = c.new-funs.ensures in
    record {
      count = ap length none;
      filters = no_filters c.args.encoding.now (value_of c.args.values.now) 0 (map written_filter c.new-funs.result) (ap (map written_filter) none);
    }

pub filter_at-requires-clause-within : goal.filter_at-requires-clause-within
filter_at-requires-clause-within c =
    omega (arith, all_symbols c.args.encoding.now c.requires.encoding, c.requires.symbols, c.loop-number-test.true)

pub loop-number-preserved : goal.loop-number-preserved
loop-number-preserved c =
    let e = c.args.encoding.now in
    let v = value_of c.args.values.now in
    let n = c.loop-number.number in
    let before = c.loop-number.invariant in
    let funs = c.loop-number.funs in
    let filter = c.in-Some.filter in
    let made = c.in_ok-push.ensures.ok in
    let is = λ (f : WrittenFilter). IsFilterBy (task_in e) e.marked.now v n f in
    let here = matched_some c.in_ok-filter.field-0 filter ((f : WrittenFilter) → is f → ⊥) (λ (f : Filter). is (written_filter f)) c.in-Some.is c.in_ok-filter.ensures in
    record {
      count = ap length made ∙ length_push funs filter ∙ ap (λ k. k + 1) before.count;
      filters = filters_next e v 0 (map written_filter funs) (map written_filter c.push.new.self) (written_filter filter) n
          (map_push written_filter funs c.push.new.self filter made) (omega (arith, length-map funs written_filter, before.count)) before.filters here;
    }

pub returns-in_default : goal.returns-in_default
returns-in_default c =
    let e = c.args.encoding.now in
    let v = value_of c.args.values.now in
    let n = c.loop-number.number in
    let is = λ (f : WrittenFilter). IsFilterBy (task_in e) e.marked.now v n f in
    let within : n < length (scopes_for e) = omega (arith, count_is (task_in e) e.marked.now, c.requires.symbols, c.loop-number-test.true) in
    let none = matched_none c.in_ok-filter.field-0 ((f : WrittenFilter) → is f → ⊥) (λ (f : Filter). is (written_filter f)) c.in_default.is c.in_ok-filter.ensures in
    record { count = (within, none); filters = (within, none) }
