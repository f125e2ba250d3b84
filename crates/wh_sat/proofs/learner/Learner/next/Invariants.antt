use Rattle.std.proofs.Common.{◌+◌, ◌*◌, length, ◌-◌}
use Rattle.wh_sat_trail.specs.State.{assigned, marks_of}
use Rattle.wh_sat.specs.Solving.{Known, Levels}
use Rattle.wh_sat.specs.State.{Extends, clauses_of, variables_of}
use Rattle.wh_sat.proofs.Searching.{turns}
use Rattle.wh_sat.proofs.learner.Learner.next.Given as goal

abbrev pub invariant-loop-self : goal.invariant-loop-self
invariant-loop-self l = record {
  known : Known (variables_of l.self) (clauses_of l.self) l.self.learnt.items;
  levels : Levels (clauses_of l.self) (assigned l.self.trail) (marks_of l.self.trail);
  extends : Extends l.initial.self l.self;
}

abbrev pub decreases-loop-self : goal.decreases-loop-self
decreases-loop-self l = (variables_of l.self + 1) * turns l.self.left l.is_planned + (variables_of l.self - length (assigned l.self.trail))
