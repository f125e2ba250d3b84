use Rattle.std.proofs.Common.{Option, ℕ, List, None, Some, ◌≤◌, map, sym, subst}
use Rattle.wh_terms.specs.Budget.{Left}
use Rattle.wh_terms.specs.Erase.{declared_metas, symbols, tm}
use Rattle.wh_terms.specs.Tree.{tms_of}
use Rattle.wh_terms.specs.declared.term.Term.{Term}
use Rattle.wh_pairs.proofs.ByPlace.{read}
use Rattle.wh_usable_first_order.specs.FirstOrder.{IsFlatTree, AreFlatTrees}
use Rattle.wh_poly_flat.specs.Flat.{occurrences, occurrences_in}
use Rattle.wh_poly_flat.proofs.RoomLemmas.{walk_next, walk_stops, walk_ends, left_trees}
use Rattle.wh_poly_flat.proofs.rooms.after_trees.Goals as goal

pub loop-term-preserved : goal.loop-term-preserved
loop-term-preserved c =
    let S = symbols c.args.signature.now in
    let M = declared_metas c.args.metas.now in
    let items = c.as_slice-term-items.result.now in
    let i = c.loop-term.term-index in
    let t = c.term-item.result in
    walk_next (λ t. IsFlatTree S M (tm t)) (λ t. occurrences (tm t)) items c.args.room i c.loop-term.rest c.in_ok-rest.rest t (read items i t c.loop-term-test.true c.term-item.is)
    c.loop-term.invariant c.in_ok-rest.ensures

pub returns-in_err-rest : goal.returns-in_err-rest
returns-in_err-rest c =
    let S = symbols c.args.signature.now in
    let M = declared_metas c.args.metas.now in
    let items = c.as_slice-term-items.result.now in
    let i = c.loop-term.term-index in
    let t = c.term-item.result in
    let stops = walk_stops (λ t. IsFlatTree S M (tm t)) (λ t. occurrences (tm t)) items c.args.room i c.loop-term.rest t (read items i t c.loop-term-test.true c.term-item.is)
    c.loop-term.invariant c.in_err-rest.ensures in
    subst (λ (answer : Option ℕ). Left c.args.room (occurrences_in (tms_of (map tm c.args.terms.now))) (AreFlatTrees S M (map tm c.args.terms.now) × (occurrences_in (tms_of (map tm c.args.terms.now)) ≤ c.args.room)) answer)
    (sym c.from_residual.ensures)
    (subst (λ (ts : List Term). Left c.args.room (occurrences_in (tms_of (map tm ts))) (AreFlatTrees S M (map tm ts) × (occurrences_in (tms_of (map tm ts)) ≤ c.args.room)) None)
    c.as_slice-term-items.ensures (left_trees S M items c.args.room None stops))

pub returns : goal.returns
returns c =
    let S = symbols c.args.signature.now in
    let M = declared_metas c.args.metas.now in
    let items = c.as_slice-term-items.result.now in
    let rest = c.loop-term.rest in
    let ends = walk_ends (λ t. IsFlatTree S M (tm t)) (λ t. occurrences (tm t)) items c.args.room c.loop-term.term-index rest c.loop-term-test.false c.loop-term.invariant in
    subst (λ (ts : List Term). Left c.args.room (occurrences_in (tms_of (map tm ts))) (AreFlatTrees S M (map tm ts) × (occurrences_in (tms_of (map tm ts)) ≤ c.args.room)) (Some rest))
    c.as_slice-term-items.ensures (left_trees S M items c.args.room (Some rest) ends)
