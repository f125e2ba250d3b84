use Rattle.std.proofs.Common.{take}
use Rattle.wh_terms.specs.Erase.{tm, tms}
use Rattle.wh_terms.proofs.TermLemmas.{weight, weights}
use Rattle.wh_intern.specs.TableTrees.{trees}
use Rattle.wh_intern.proofs.AddLaws.{Gathered}
use Rattle.wh_intern.proofs.table.Table.+insert.Given as goal

abbrev pub decreases-insert : goal.decreases-insert
decreases-insert l = weight (tm l.term.now)

abbrev pub decreases-insert_meta : goal.decreases-insert_meta
decreases-insert_meta l = weights (tms l.items.now)

abbrev pub invariant-insert_meta-loop-item : goal.invariant-insert_meta-loop-item
invariant-insert_meta-loop-item l = Gathered (trees l.initial.self) (trees l.self) l.numbers (tms (take l.item-index l.item-items))
