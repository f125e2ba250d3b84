use Rattle.std.proofs.Common.{◌%◌, All, List, ap, subst, sym, ◌∙◌}
use Rattle.std.proofs.lemmas.List.{length-set}
use Rattle.wh_order_node.specs.FilteringView.{filtering_data}
use Rattle.wh_order_known.specs.declared.entry.Entry.{Entry}
use Rattle.wh_order_known.specs.Least.{NotRefuted}
use Rattle.wh_order_known.specs.Plain.{plain}
use Rattle.wh_order_known.specs.Entries.{IsExact}
use Rattle.wh_order_known.proofs.EntryLemmas.{noted}
use Rattle.wh_order_known.proofs.known.Known.note.Goals as goal

pub invariant_of-self : goal.invariant_of-self
invariant_of-self c = record {
  exact = subst (λ (es : List Entry). NotRefuted (All (IsExact (filtering_data c.args.self.now.filters.now)) es)) (sym c.in_err-push.ensures.items) c.args.self.now.exact;
  whole = c.args.self.now.whole;
}

pub invariant_of-self-2-clause-exact : goal.invariant_of-self-2-clause-exact
invariant_of-self-2-clause-exact c =
    noted (filtering_data c.args.self.now.filters.now) c.args.goal.now c.args.room c.args.count c.key_of-key.result c.index.result.now c.in_ok-copy_tree.field-0 c.in_ok-copy_tree-2.field-0
    c.args.self.now.entries.items c.push.new.self.items c.args.self.now.exact c.requires c.in_ok-push.ensures.items
    (c.in_ok-copy_tree.ensures ∙ ap plain c.tree.ensures) (c.in_ok-copy_tree-2.ensures ∙ ap plain c.tree-2.ensures)

pub invariant_of-self-2-clause-whole : goal.invariant_of-self-2-clause-whole
invariant_of-self-2-clause-whole c = length-set c.args.self.now.heads.items (c.key_of-key.result % 128) c.len-place.result ∙ c.args.self.now.whole
