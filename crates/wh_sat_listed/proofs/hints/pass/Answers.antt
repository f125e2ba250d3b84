use Rattle.std.proofs.Common.{◌+◌, ◌≤◌, List, ℕ, ◌++◌, length, sym, subst, arith}
use Rattle.wh_sat_trail.specs.Assignment.{AllBelow}
use Rattle.wh_refute.specs.Refuting.{IsFalse, IsLeft, Leads}
use Rattle.wh_refute.specs.RefuteFaults.{IsStuck}
use Rattle.wh_refute.proofs.Members.{member_below}
use Rattle.wh_sat_listed.proofs.Passing.{looked, one_hint, one_stuck, passed_all}
use Rattle.wh_sat_listed.proofs.Reaching.{reaches_end}
use Rattle.wh_sat_listed.proofs.hints.pass.Goals as goal
use Rattle.wh_sat_listed.proofs.hints.pass.Goals.{in-Leaves+in_ok-push-in-Leaves, in-Stuck}

pub look_at-requires-clause-below : goal.look_at-requires-clause-below
look_at-requires-clause-below c =
    let is = looked c.args.clauses.now c.loop-number.number c.index-clauses-number.result c.as_slice.result.now c.loop-number-test.true
    c.index-clauses-number.is c.as_slice.ensures in
    subst (AllBelow c.args.variables) (sym is) (c.requires.within c.loop-number.number c.loop-number-test.true)

pub returns-in-False-clause-found : goal.returns-in-False-clause-found
returns-in-False-clause-found c = λ start at refutes.
    let is = looked c.args.clauses.now c.loop-number.number c.index-clauses-number.result c.as_slice.result.now c.loop-number-test.true
    c.index-clauses-number.is c.as_slice.ensures in
    let now = c.loop-number.invariant.1 start at in
    subst (λ (hs : List ℕ). Leads c.args.clauses.now start hs × (length hs ≤ c.args.variables + 1)) (sym c.in_ok-push-in-False.ensures.ok)
    (reaches_end c.args.variables c.args.clauses.now start c.loop-number.hints now.made c.loop-number.number c.loop-number-test.true
    (subst (IsFalse (start ++ now.made)) is (c.in-False.ensures (start ++ now.made) now.tells)) now.reaches)

pub assume-requires-clause-told : goal.assume-requires-clause-told
assume-requires-clause-told c =
    let is = looked c.args.clauses.now c.loop-number.number c.index-clauses-number.result c.as_slice.result.now c.loop-number-test.true
    c.index-clauses-number.is c.as_slice.ensures in
    let told = c.loop-number.invariant.0 in
    let left = c.in-Leaves.ensures told.0 told.1 in
    let low = subst (AllBelow c.args.variables) (sym is) (c.requires.within c.loop-number.number c.loop-number-test.true) in
    omega (arith, told.1.wide, member_below c.args.variables c.as_slice.result.now c.in-Leaves.literal low left.0.in_clause)

pub assume-requires-clause-denied : goal.assume-requires-clause-denied
assume-requires-clause-denied c =
    let is = looked c.args.clauses.now c.loop-number.number c.index-clauses-number.result c.as_slice.result.now c.loop-number-test.true
    c.index-clauses-number.is c.as_slice.ensures in
    let told = c.loop-number.invariant.0 in
    let left = c.in-Leaves.ensures told.0 told.1 in
    let low = subst (AllBelow c.args.variables) (sym is) (c.requires.within c.loop-number.number c.loop-number-test.true) in
    omega (arith, told.1.as_wide, member_below c.args.variables c.as_slice.result.now c.in-Leaves.literal low left.0.in_clause)

pub loop-number-preserved : goal.loop-number-preserved
loop-number-preserved c =
    let n = c.args.variables in
    let k = c.loop-number.number in
    let is = looked c.args.clauses.now k c.index-clauses-number.result c.as_slice.result.now c.loop-number-test.true
    c.index-clauses-number.is c.as_slice.ensures in
    elim c.match-look_at.branch [
      | in-Leaves+in_ok-push-in-Leaves w ↦
          let l = w.in-Leaves.literal in
          let all = one_hint n c.args.clauses.now c.args.truth.now c.args.hints.now c.loop-number.truth w.assume.new.self c.loop-number.hints k l
          c.requires.within c.loop-number-test.true
          (λ t now. let left = w.in-Leaves.ensures t now in (subst (λ d. IsLeft t d l) is left.0, left.1))
          (w.assume.ensures.tells n) w.assume.ensures.round c.loop-number.invariant in
          rw (w.truth-is, w.hints-is, w.in_ok-push-in-Leaves.ensures.ok) all
      | in-Stuck w ↦
          let all = one_stuck n c.args.clauses.now c.args.truth.now c.args.hints.now c.loop-number.truth c.loop-number.hints k
          (λ t now. subst (IsStuck t) is (w.in-Stuck.ensures t now)) c.loop-number.invariant in
          rw (w.truth-is, w.hints-is) all
    ]

pub returns-clause-found : goal.returns-clause-found
returns-clause-found c =
    passed_all c.args.variables c.args.clauses.now c.args.truth.now c.args.hints.now c.loop-number.truth c.loop-number.hints c.loop-number.number
    (omega (arith, c.loop-number-test.false)) c.loop-number.invariant
