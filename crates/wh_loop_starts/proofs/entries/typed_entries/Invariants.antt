-- The entries so far are for what stands at the numbers so far.
use Rattle.wh_terms.specs.Erase.{symbols}
use Rattle.wh_no.specs.Entry.{entry_puts}
use Rattle.wh_loop_starts.proofs.EntryLemmas.{AreSoFar}
use Rattle.wh_loop_starts.proofs.entries.typed_entries.Given as goal

abbrev pub invariant-loop-number : goal.invariant-loop-number
invariant-loop-number l = AreSoFar (symbols l.signature) l.table l.number (entry_puts l.entries.items)
