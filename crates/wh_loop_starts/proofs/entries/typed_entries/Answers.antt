-- The table is gone through number by number.
use Rattle.std.proofs.Common.{Some, length, refl, arith}
use Rattle.std.proofs.lemmas.Option.{slice_get_read, slice_get_within}
use Rattle.wh_terms.specs.Erase.{symbols}
use Rattle.wh_no.specs.Entry.{entry_puts}
use Rattle.wh_loop_starts.specs.Meets.{IsPushed, IsUntyped}
use Rattle.wh_loop_starts.proofs.EntryLemmas.{next_so_far, untyped_here, all_put}
use Rattle.wh_loop_starts.proofs.Outcomes.{when_true, when_false}
use Rattle.wh_loop_starts.proofs.entries.typed_entries.Goals as goal

pub returns-then-not-branch : goal.returns-then-not-branch
returns-then-not-branch c =
    let S = symbols c.args.signature.now in
    let table = c.args.table.now in
    let i = c.loop-number.number in
    let o = c.index-table-number.result in
    let at = slice_get_read table (length table) i o refl c.loop-number-test.true c.index-table-number.is in
    untyped_here S table i o at
    (when_false c.in_ok-push_entry.field-0 (IsPushed S i o (entry_puts c.loop-number.entries.items) (entry_puts c.push_entry.new.entries.items)) (IsUntyped S o) c.if-not-branch.true c.in_ok-push_entry.ensures)

pub loop-number-preserved : goal.loop-number-preserved
loop-number-preserved c =
    let S = symbols c.args.signature.now in
    let table = c.args.table.now in
    let i = c.loop-number.number in
    let o = c.index-table-number.result in
    let at = slice_get_read table (length table) i o refl c.loop-number-test.true c.index-table-number.is in
    next_so_far S table i (entry_puts c.loop-number.entries.items) (entry_puts c.push_entry.new.entries.items) o at
    (when_true c.in_ok-push_entry.field-0 (IsPushed S i o (entry_puts c.loop-number.entries.items) (entry_puts c.push_entry.new.entries.items)) (IsUntyped S o) c.if-not-branch.false c.in_ok-push_entry.ensures)
    c.loop-number.invariant

pub returns : goal.returns
returns c =
    let table = c.args.table.now in
    all_put (symbols c.args.signature.now) table c.loop-number.number (entry_puts c.loop-number.entries.items)
    (λ x m at. let within = slice_get_within table x (Some m) at in let past = c.loop-number-test.false in omega arith) c.loop-number.invariant
