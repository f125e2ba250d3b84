use Rattle.std.proofs.Common.{All, List, subst, sym, arith}
use Rattle.wh_order_node.specs.FilteringView.{filtering_data}
use Rattle.wh_order_known.specs.declared.entry.Entry.{Entry}
use Rattle.wh_order_known.specs.Least.{NotRefuted}
use Rattle.wh_order_known.specs.Entries.{IsExact}
use Rattle.wh_order_known.proofs.EntryLemmas.{looked}
use Rattle.wh_order_known.proofs.known.Known.look.Goals as goal

pub returns-then-is_for : goal.returns-then-is_for
returns-then-is_for c =
    let D = filtering_data c.args.self.now.filters.now in
    looked D c.as_slice-entries.result.now c.args.goal.now c.args.room c.loop-place.place c.index-entries-place.result
    (subst (λ (es : List Entry). NotRefuted (All (IsExact D) es)) (sym c.as_slice-entries.ensures.value) c.args.self.now.exact)
    (omega (arith, c.loop-place-test.true, c.loop-place.invariant)) c.index-entries-place.is (c.is_for.ensures c.if-is_for.true)
