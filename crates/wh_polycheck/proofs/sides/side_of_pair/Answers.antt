-- The marked call is a typed expression over the marks, so that its result is a normal form, and a fault's value one on the way.
use Rattle.std.proofs.Common.{true, false, List, IfOk, map, subst}
use Rattle.wh_types.specs.Outcome.{IfBecause}
use Rattle.wh_terms.specs.Erase.{tm}
use Rattle.wh_terms.specs.Tree.{tms_of}
use Rattle.wh_terms.specs.declared.term.Term.{Term}
use Rattle.wh_pairs.specs.PairData.{pair_data}
use Rattle.wh_system.specs.SystemView.{system_data}
use Rattle.wh_hopoly.specs.Evaluation.{evaluate}
use Rattle.wh_hopoly.specs.Outcomes.{ComesTo, IsFaultOf}
use Rattle.wh_hopoly.specs.Erase.{interpretations}
use Rattle.wh_poly.specs.Erase.{poly}
use Rattle.wh_polycheck.specs.Sides.{types_of_metas, marked_expression}
use Rattle.wh_polycheck.specs.Marks.{with_marks, mark_number}
use Rattle.wh_polycheck.specs.SideResults.{marks_of}
use Rattle.wh_polycheck.proofs.SideFacts.{pair_side_normal, pair_side_fault}
use Rattle.wh_polycheck.proofs.sides.side_of_pair.Goals as goal

pub returns-then-right-clause-ok : goal.returns-then-right-clause-ok
returns-then-right-clause-ok c =
    let d = system_data c.args.system.now in
    pair_side_normal d.symbols d.rules (interpretations c.args.readings.now.symbols.now) (marks_of c.args.readings.now.marks.now) (pair_data c.args.pair.now) c.args.right
    true c.if-right.true c.normal_of_marked.result c.requires.proper.interpreted c.requires.sides c.normal_of_marked.ensures.ok

pub returns-then-right-clause-fault : goal.returns-then-right-clause-fault
returns-then-right-clause-fault c =
    let d = system_data c.args.system.now in
    pair_side_fault d.symbols d.rules (interpretations c.args.readings.now.symbols.now) (marks_of c.args.readings.now.marks.now) (pair_data c.args.pair.now) c.args.right
    true c.if-right.true c.normal_of_marked.result c.normal_of_marked.ensures.fault

pub returns-else-right-clause-ok : goal.returns-else-right-clause-ok
returns-else-right-clause-ok c =
    let d = system_data c.args.system.now in
    let symbols = interpretations c.args.readings.now.symbols.now in
    let marks = marks_of c.args.readings.now.marks.now in
    let a = pair_data c.args.pair.now in
    let all = with_marks d.symbols d.rules symbols marks in
    pair_side_normal d.symbols d.rules (interpretations c.args.readings.now.symbols.now) (marks_of c.args.readings.now.marks.now) (pair_data c.args.pair.now) c.args.right
    false c.if-right.false c.normal_of_marked-else-right.result c.requires.proper.interpreted c.requires.sides
    (subst (λ (ts : List Term). IfOk c.normal_of_marked-else-right.result (λ q. ComesTo (evaluate all (types_of_metas a.metas)
    (marked_expression a.metas (mark_number symbols marks a.left_fun) (tms_of (map tm ts)))) (poly q))) c.deref.ensures c.normal_of_marked-else-right.ensures.ok)

pub returns-else-right-clause-fault : goal.returns-else-right-clause-fault
returns-else-right-clause-fault c =
    let d = system_data c.args.system.now in
    let symbols = interpretations c.args.readings.now.symbols.now in
    let marks = marks_of c.args.readings.now.marks.now in
    let a = pair_data c.args.pair.now in
    let all = with_marks d.symbols d.rules symbols marks in
    pair_side_fault d.symbols d.rules (interpretations c.args.readings.now.symbols.now) (marks_of c.args.readings.now.marks.now) (pair_data c.args.pair.now) c.args.right
    false c.if-right.false c.normal_of_marked-else-right.result
    (subst (λ (ts : List Term). IfBecause c.normal_of_marked-else-right.result (IsFaultOf all (types_of_metas a.metas)
    (marked_expression a.metas (mark_number symbols marks a.left_fun) (tms_of (map tm ts))))) c.deref.ensures c.normal_of_marked-else-right.ensures.fault)
