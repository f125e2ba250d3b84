use Rattle.std.proofs.Common.{List, length, ap, ◌∙◌, eq-eqb}
use Rattle.wh_terms.specs.declared.term.Term.{Term}
use Rattle.wh_poly_flat.proofs.RoomLemmas.{no_trees}
use Rattle.wh_poly_flat.proofs.rooms.after_meta.Goals.{else-is_empty-via-then-is_empty+else-is_nullary, else-is_empty-via-else-is_empty}
use Rattle.wh_poly_flat.proofs.rooms.after_meta.Goals as goal

pub returns-else-is_empty : goal.returns-else-is_empty
returns-else-is_empty c (empty, nullary, some) = elim c.else-is_empty.branch [
  | else-is_empty-via-then-is_empty+else-is_nullary w ↦ let yes = w.is_nullary.ensures.1 nullary in cc (yes, w.if-is_nullary.false)
  | else-is_empty-via-else-is_empty w ↦
      let yes = c.is_empty.ensures ∙ eq-eqb _ _ (ap (λ (l : List Term). length l) c.as_slice.ensures ∙ no_trees c.args.items.now empty) in cc (yes, w.if-is_empty.false)
]
