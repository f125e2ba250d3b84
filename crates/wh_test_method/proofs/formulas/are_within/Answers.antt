use Rattle.std.proofs.Common.{[], List, get_or, subst, arith}
use Rattle.std.proofs.lemmas.Option.{slice_get-get_or}
use Rattle.wh_sat_trail.specs.declared.literal.Literal.{Literal}
use Rattle.wh_sat_trail.specs.Assignment.{AllBelow}
use Rattle.wh_pairs.proofs.ByPlace.{before_more, read}
use Rattle.wh_test_method.proofs.Shown.{on_true}
use Rattle.wh_test_method.proofs.formulas.are_within.Goals as goal

pub loop-clause-preserved : goal.loop-clause-preserved
loop-clause-preserved c =
    let i = c.loop-clause.clause-index in
    let xs = c.args.clauses.now in
    let below = on_true c.are_below.result (AllBelow c.args.variables c.as_slice.result.now) c.are_below.ensures c.if-not-are_below.false in
    let x = c.clause-item.result in
    before_more (AllBelow c.args.variables) xs i x c.loop-clause.invariant (read xs i x c.loop-clause-test.true c.clause-item.is)
    (subst (λ (l : List Literal). AllBelow c.args.variables l) c.as_slice.ensures below)

pub returns : goal.returns
returns c = λ k here.
    let xs = c.args.clauses.now in
    c.loop-clause.invariant k (get_or xs k []) (omega (arith, here, c.loop-clause-test.false)) (slice_get-get_or xs k [] here)
