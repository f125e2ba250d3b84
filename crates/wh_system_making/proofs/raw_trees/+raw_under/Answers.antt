use Rattle.std.proofs.Common.{◌∙◌, ◌≡◌, length, arith, rules, tests}
use Rattle.wh_terms.proofs.TermLemmas.{weight_in_meta, weight_in_item}
use Rattle.wh_text.specs.Erase.{rtms}
use Rattle.wh_text.proofs.RawLemmas.{rtm_meta}
use Rattle.wh_system_making.specs.TermNamesView.{term_names}
use Rattle.wh_system_making.proofs.CanonicalWalk.{each_next, named_item, named_meta, bare_meta, meta_with}
use Rattle.wh_system_making.proofs.raw_trees.+raw_under.Goals as goal

pub raw_each-raw_under-requires : goal.raw_each-raw_under-requires
raw_each-raw_under-requires t c = (
  omega (arith, weight_in_item c.args.items.now c.as_slice-item-items.result.now c.loop-item.item-index c.item-item.result c.as_slice-item-items.ensures c.loop-item-test.true c.item-item.is),
  named_item (term_names c.args.names.now) c.args.depth c.args.items.now c.as_slice-item-items.result.now c.loop-item.item-index c.item-item.result c.as_slice-item-items.ensures c.loop-item-test.true c.item-item.is c.requires,
)

pub raw_each-loop-item-preserved : goal.raw_each-loop-item-preserved
raw_each-loop-item-preserved t c =
    each_next (term_names c.args.names.now) c.args.depth c.as_slice-item-items.result.now c.loop-item.item-index c.item-item.result c.loop-item.raw c.push.new.self c.in_ok-raw_under.field-0 c.loop-item-test.true c.item-item.is c.loop-item.invariant c.in_ok-raw_under.ensures c.in_ok-push.ensures.ok

pub raw_under-returns-then-is_empty : goal.raw_under-returns-then-is_empty
raw_under-returns-then-is_empty t c =
    let n = term_names c.args.names.now in
    let named = named_meta n c.args.depth c.args.term.now c.in-Meta.meta c.in-Meta.items c.in-Meta.is c.requires in
    let empty : length c.as_slice.result.now ≡ 0 = search (rules, tests) in
    bare_meta n c.args.depth c.in-Meta.meta c.args.term.now c.in-Meta.items c.as_slice.result.now c.index-names-meta.result c.in_ok-name-in-Meta.name c.in-Meta.is c.as_slice.ensures empty named.0 c.in_ok-name-in-Meta.ensures

pub raw_under-raw_each-requires : goal.raw_under-raw_each-requires
raw_under-raw_each-requires t c =
    let n = term_names c.args.names.now in (
      omega (arith, weight_in_meta c.args.term.now c.in-Meta.meta c.in-Meta.items c.in-Meta.is),
      (named_meta n c.args.depth c.args.term.now c.in-Meta.meta c.in-Meta.items c.in-Meta.is c.requires).1,
    )

pub raw_under-returns-in_ok-raw_each-in-Meta : goal.raw_under-returns-in_ok-raw_each-in-Meta
raw_under-returns-in_ok-raw_each-in-Meta t c =
    let n = term_names c.args.names.now in
    let raw = c.in_ok-raw_each-in-Meta.field-0 in
    let named = named_meta n c.args.depth c.args.term.now c.in-Meta.meta c.in-Meta.items c.in-Meta.is c.requires in
    let filled : length c.as_slice.result.now ≡ 0 → ⊥ = λ e. search (rules, tests) in
    rtm_meta c.in_ok-name-in-Meta.name raw 0
    ∙ meta_with n c.args.depth c.in-Meta.meta c.args.term.now c.in-Meta.items c.as_slice.result.now c.index-names-meta.result c.in_ok-name-in-Meta.name (rtms raw) c.in-Meta.is c.as_slice.ensures filled named.0 c.in_ok-name-in-Meta.ensures c.in_ok-raw_each-in-Meta.ensures
