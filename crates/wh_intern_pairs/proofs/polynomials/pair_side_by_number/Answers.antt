-- The marked call is a typed expression in the scope, so that its result is a normal form, and a fault's value one on the way.
use Rattle.std.proofs.Common.{map, true, false}
use Rattle.wh_types.specs.Erase.{ty}
use Rattle.wh_system.specs.SystemView.{system_data}
use Rattle.wh_hopoly.specs.Erase.{interpretations}
use Rattle.wh_polycheck.specs.SideResults.{marks_of}
use Rattle.wh_intern.specs.TableTrees.{trees}
use Rattle.wh_intern_pairs.proofs.MarkedByNumber.{side_within, side_marked, side_typed_in, pair_comes, pair_fault}
use Rattle.wh_intern_pairs.proofs.polynomials.pair_side_by_number.Goals as goal

pub normal_of_marked-requires-clause-numbers : goal.normal_of_marked-requires-clause-numbers
normal_of_marked-requires-clause-numbers c =
    let d = system_data c.args.system.now in
    side_within d.symbols d.rules (marks_of c.args.readings.now.marks.now) (trees c.args.table.now) (map ty c.args.scope.now) c.args.sides.now c.requires.sides true

pub normal_of_marked-requires-clause-marked : goal.normal_of_marked-requires-clause-marked
normal_of_marked-requires-clause-marked c =
    let d = system_data c.args.system.now in
    side_marked d.symbols d.rules (marks_of c.args.readings.now.marks.now) (trees c.args.table.now) (map ty c.args.scope.now) c.args.sides.now c.requires.sides true

pub normal_of_marked-requires-clause-typed : goal.normal_of_marked-requires-clause-typed
normal_of_marked-requires-clause-typed c =
    let d = system_data c.args.system.now in
    side_typed_in d.symbols d.rules (marks_of c.args.readings.now.marks.now) (trees c.args.table.now) (map ty c.args.scope.now) c.args.sides.now c.requires.sides true

pub normal_of_marked-requires-else-right-clause-numbers : goal.normal_of_marked-requires-else-right-clause-numbers
normal_of_marked-requires-else-right-clause-numbers c =
    let d = system_data c.args.system.now in
    side_within d.symbols d.rules (marks_of c.args.readings.now.marks.now) (trees c.args.table.now) (map ty c.args.scope.now) c.args.sides.now c.requires.sides false

pub normal_of_marked-requires-else-right-clause-marked : goal.normal_of_marked-requires-else-right-clause-marked
normal_of_marked-requires-else-right-clause-marked c =
    let d = system_data c.args.system.now in
    side_marked d.symbols d.rules (marks_of c.args.readings.now.marks.now) (trees c.args.table.now) (map ty c.args.scope.now) c.args.sides.now c.requires.sides false

pub normal_of_marked-requires-else-right-clause-typed : goal.normal_of_marked-requires-else-right-clause-typed
normal_of_marked-requires-else-right-clause-typed c =
    let d = system_data c.args.system.now in
    side_typed_in d.symbols d.rules (marks_of c.args.readings.now.marks.now) (trees c.args.table.now) (map ty c.args.scope.now) c.args.sides.now c.requires.sides false

pub returns-then-right-clause-ok : goal.returns-then-right-clause-ok
returns-then-right-clause-ok c = λ p entry in_scope.
    let d = system_data c.args.system.now in
    pair_comes d.symbols d.rules (marks_of c.args.readings.now.marks.now) (trees c.args.table.now) (map ty c.args.scope.now) c.args.sides.now c.requires.sides true
    (interpretations c.args.readings.now.symbols.now) c.requires.proper.interpreted c.args.right c.if-right.true c.normal_of_marked.result p entry in_scope
    c.normal_of_marked.ensures.ok

pub returns-then-right-clause-fault : goal.returns-then-right-clause-fault
returns-then-right-clause-fault c = λ p entry in_scope.
    let d = system_data c.args.system.now in
    pair_fault d.symbols d.rules (marks_of c.args.readings.now.marks.now) (trees c.args.table.now) (map ty c.args.scope.now) c.args.sides.now c.requires.sides true
    (interpretations c.args.readings.now.symbols.now) c.requires.proper.interpreted c.args.right c.if-right.true c.normal_of_marked.result p entry in_scope
    c.normal_of_marked.ensures.fault

pub returns-else-right-clause-ok : goal.returns-else-right-clause-ok
returns-else-right-clause-ok c = λ p entry in_scope.
    let d = system_data c.args.system.now in
    pair_comes d.symbols d.rules (marks_of c.args.readings.now.marks.now) (trees c.args.table.now) (map ty c.args.scope.now) c.args.sides.now c.requires.sides false
    (interpretations c.args.readings.now.symbols.now) c.requires.proper.interpreted c.args.right c.if-right.false c.normal_of_marked-else-right.result p entry in_scope
    c.normal_of_marked-else-right.ensures.ok

pub returns-else-right-clause-fault : goal.returns-else-right-clause-fault
returns-else-right-clause-fault c = λ p entry in_scope.
    let d = system_data c.args.system.now in
    pair_fault d.symbols d.rules (marks_of c.args.readings.now.marks.now) (trees c.args.table.now) (map ty c.args.scope.now) c.args.sides.now c.requires.sides false
    (interpretations c.args.readings.now.symbols.now) c.requires.proper.interpreted c.args.right c.if-right.false c.normal_of_marked-else-right.result p entry in_scope
    c.normal_of_marked-else-right.ensures.fault
