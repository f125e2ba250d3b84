use Rattle.std.proofs.Common.{subst, Some}
use Rattle.std.proofs.lemmas.List.{get_or_default}
use Rattle.wh_sat_trail.proofs.Looking.{Scan, quiet_two, scan_false, scan_open, scan_same, lit_same, lit_other}
use Rattle.wh_sat_trail.proofs.assignment.Assignment.look.Goals as goal
use Rattle.wh_sat_trail.proofs.assignment.Assignment.look.Goals.{in-Some-false, in-None+in-None-free, in-None+in-Some+else-ne}

pub returns-then-ne : goal.returns-then-ne
returns-then-ne c =
    let t = c.args.self.now.literals.items in
    let cl = c.args.clause.now in
    let n = c.loop-literal.literal-index in
    let i : Scan t cl n (Some c.in-Some.first) = subst (Scan t cl n) c.in-Some.is c.loop-literal.invariant in
    quiet_two t cl n c.in-Some.first _ i c.loop-literal-test.true (get_or_default _ _ _ _ c.loop-literal-test.true) c.in-None.ensures (lit_other _ _ c.if-ne.ensures)

pub loop-literal-preserved : goal.loop-literal-preserved
loop-literal-preserved c =
    let t = c.args.self.now.literals.items in
    let cl = c.args.clause.now in
    let n = c.loop-literal.literal-index in
    let w0 = c.loop-literal-test.true in
    elim c.match-truth.branch [
      | in-Some-false w ↦ rw w.free-is (scan_false t cl n _ _ c.loop-literal.invariant w0 (get_or_default _ _ _ _ w0) (rw w.in-Some-false.field-0-test at w.in-Some-false.ensures))
      | in-None+in-None-free w ↦ rw w.free-is (scan_open t cl n _ (subst (Scan t cl n) w.in-None-free.is c.loop-literal.invariant) w0 (get_or_default _ _ _ _ w0) w.in-None.ensures)
      | in-None+in-Some+else-ne w ↦ rw w.free-is (scan_same t cl n _ _ (subst (Scan t cl n) w.in-Some.is c.loop-literal.invariant) (lit_same _ _ w.if-ne.ensures) w0 (get_or_default _ _ _ _ w0))
    ]
