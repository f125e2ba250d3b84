use Rattle.std.proofs.Common.{◌≡◌, ◌<◌, ◌++◌, ◌∷◌, [], length, Some, slice_get, ap₂, sym, ◌∙◌, arith}
use Rattle.std.proofs.lemmas.Option.{slice_get-get_or}
use Rattle.wh_order_inference.specs.Said.{written_filter}
use Rattle.wh_pairs.proofs.ListLemmas.{map_push, map_take}
use Rattle.wh_proof.proofs.filters.lines_of_mark_filters.Goals as goal

pub loop-mark-preserved : goal.loop-mark-preserved
loop-mark-preserved c =
    let names = c.args.names.now in
    let marks = c.args.marks.now in
    let i = c.loop-mark.mark-index in
    let x = c.mark-item.result in
    let name = c.in_ok-name.name in
    let within : x.symbol < length names = omega (arith, c.if-mark-names.false) in
    let named : slice_get names x.symbol ≡ Some name =
    (let e = slice_get-get_or names x.symbol c.index-names-mark.result within in
    let k = c.index-names-mark.is in
    let b = c.in_ok-name.ensures ∙ c.bytes.ensures.value in cc) in
    record {
      names = map_take (λ m. slice_get names m.symbol) marks i x c.loop-mark-test.true c.mark-item.is
          ∙ ap₂ (λ l o. l ++ o ∷ []) c.loop-mark.invariant.names named
          ∙ sym (map_push (λ l. Some l.name) c.loop-mark.lines c.push.new.self _ c.in_ok-push.ensures.ok);
      filters = map_take (λ m. written_filter m.filter) marks i x c.loop-mark-test.true c.mark-item.is
          ∙ ap₂ (λ l p. l ++ p ∷ []) c.loop-mark.invariant.filters (sym c.in_ok-filter.ensures)
          ∙ sym (map_push (λ l. written_filter l.filter) c.loop-mark.lines c.push.new.self _ c.in_ok-push.ensures.ok);
    }
