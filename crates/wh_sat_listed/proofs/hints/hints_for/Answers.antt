use Rattle.std.proofs.Common.{◌≤◌, length, map, refl}
use Rattle.wh_sat_trail.specs.Assignment.{negated}
use Rattle.wh_sat_listed.proofs.Passing.{at_start, smaller}
use Rattle.wh_sat_listed.proofs.Reaching.{reaches_short}
use Rattle.wh_sat_listed.proofs.hints.hints_for.Goals as goal

pub loop-hints-init : goal.loop-hints-init
loop-hints-init c = (
  at_start c.args.variables c.args.clauses.now (map negated c.args.clause.now) c.suppose.new.truth c.new-hints.result c.new-hints.ensures
      c.suppose.ensures.tells,
  refl,
)

pub returns-then-branch-clause-leads : goal.returns-then-branch-clause-leads
returns-then-branch-clause-leads c =
    let found = c.in_ok-pass.ensures.found (map negated c.args.clause.now) c.loop-hints.invariant.0 c.requires.refuted in
    let is = rw c.if-branch.true at found in is.0

pub returns-then-branch-clause-count : goal.returns-then-branch-clause-count
returns-then-branch-clause-count c =
    let found = c.in_ok-pass.ensures.found (map negated c.args.clause.now) c.loop-hints.invariant.0 c.requires.refuted in
    let is = rw c.if-branch.true at found in is.1

pub loop-hints-smaller : goal.loop-hints-smaller
loop-hints-smaller c =
    let start = map negated c.args.clause.now in
    let found = c.in_ok-pass.ensures.found start c.loop-hints.invariant.0 c.requires.refuted in
    let is = rw c.if-branch.false at found in
    let few : length c.pass.new.hints ≤ c.args.variables =
    reaches_short c.args.variables c.args.clauses.now start c.pass.new.hints is.0.made is.0.reaches in
    smaller c.args.variables (length c.loop-hints.hints) (length c.pass.new.hints) is.1 few
