use Rattle.std.proofs.Common.{List, subst}
use Rattle.wh_sat_trail.specs.declared.literal.Literal.{Literal}
use Rattle.wh_sat_trail.specs.Propagation.{Within}
use Rattle.wh_test_method.proofs.Shown.{on_true}
use Rattle.wh_test_method.proofs.solver_rows.solved.Goals as goal

pub solve-requires : goal.solve-requires
solve-requires c =
    let f = c.args.formula.now in
    let within = on_true c.are_within.result (Within f.variables c.as_slice.result.now) c.are_within.ensures c.if-not-are_within.false in
    subst (λ (l : List (List Literal)). Within f.variables l) c.as_slice.ensures within
