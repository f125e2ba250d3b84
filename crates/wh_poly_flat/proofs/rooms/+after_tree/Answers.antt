use Rattle.std.proofs.Common.{sym, subst, ◌≤◌}
use Rattle.wh_terms.specs.Budget.{Left}
use Rattle.wh_terms.specs.Erase.{declared_metas, symbols, tms}
use Rattle.wh_terms.specs.Tree.{Tm}
use Rattle.wh_terms.proofs.TermLemmas.{tm_of_meta}
use Rattle.wh_usable_first_order.specs.FirstOrder.{IsFlatTree}
use Rattle.wh_poly_flat.specs.Flat.{occurrences}
use Rattle.wh_poly_flat.proofs.RoomLemmas.{left_meta}
use Rattle.wh_poly_flat.proofs.rooms.+after_tree.Goals as goal

pub returns-in-Meta : goal.returns-in-Meta
returns-in-Meta t c =
    let S = symbols c.args.signature.now in
    let M = declared_metas c.args.metas.now in
    let room = c.args.room in
    let is = tm_of_meta c.args.term.now c.in-Meta.meta c.in-Meta.items c.in-Meta.is in
    subst (λ (u : Tm). Left room (occurrences u) (IsFlatTree S M u × (occurrences u ≤ room)) c.after_meta.result) (sym is)
    (left_meta S M c.in-Meta.meta (tms c.in-Meta.items) room c.after_meta.result c.after_meta.ensures)
