use Rattle.std.proofs.Common.{arith, inl, inr, not, ◌<◌, length, get_or}
use Rattle.wh_sat_trail.proofs.Looking.{lit_same, lit_other, true_not_false, open_not_false}
use Rattle.wh_sat_trail.specs.Watch.{nothing}
use Rattle.wh_sat_trail.proofs.Guarding.{member_at, rest_step}
use Rattle.wh_sat_trail.proofs.assignment.Assignment.replacement_in.Goals.{in-Some-true+else-ne, in-Some-false, in-None+else-ne-2}
use Rattle.wh_sat_trail.proofs.assignment.Assignment.replacement_in.Goals as goal

pub returns-then-ne : goal.returns-then-ne
returns-then-ne c =
    let cl = c.args.clause.now in
    let n = c.loop-place.place in
    let w : n < length cl = omega (arith, c.loop-place-test.true, c.requires.within) in
    let h = rw c.in-Some-true.field-0-test at c.in-Some-true.ensures in (
      record {
        in_clause = member_at cl n nothing w;
        below = c.requires.below n nothing w;
        possible = λ f. true_not_false _ (get_or cl n nothing).positive h f;
      },
      lit_other (get_or cl n nothing) c.args.other c.if-ne.ensures,
    )

pub returns-then-ne-2 : goal.returns-then-ne-2
returns-then-ne-2 c =
    let cl = c.args.clause.now in
    let n = c.loop-place.place in
    let w : n < length cl = omega (arith, c.loop-place-test.true, c.requires.within) in (
      record {
        in_clause = member_at cl n nothing w;
        below = c.requires.below n nothing w;
        possible = λ f. open_not_false _ (not (get_or cl n nothing).positive) c.in-None.ensures f;
      },
      lit_other (get_or cl n nothing) c.args.other c.if-ne-2.ensures,
    )

pub loop-place-preserved : goal.loop-place-preserved
loop-place-preserved c =
    let t = c.args.self.now.literals.items in
    let cl = c.args.clause.now in
    let n = c.loop-place.place in
    let x = get_or cl n nothing in
    let w : n < length cl = omega (arith, c.loop-place-test.true, c.requires.within) in
    elim c.match-truth.branch [
      | in-Some-true+else-ne v ↦ rest_step t cl c.args.other c.args.from n nothing c.loop-place.invariant w (inl (lit_same x c.args.other v.if-ne.ensures))
      | in-Some-false v ↦ rest_step t cl c.args.other c.args.from n nothing c.loop-place.invariant w (inr (rw v.in-Some-false.field-0-test at v.in-Some-false.ensures))
      | in-None+else-ne-2 v ↦ rest_step t cl c.args.other c.args.from n nothing c.loop-place.invariant w (inl (lit_same x c.args.other v.if-ne-2.ensures))
    ]
