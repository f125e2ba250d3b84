use Rattle.wh_sat_trail.specs.State.{assigned, marks_of}
use Rattle.std.proofs.Common.{◌≡◌, take}
use Rattle.wh_sat.specs.Learning.{Assumed}
use Rattle.wh_sat.proofs.Supposing.{Back}
use Rattle.wh_sat.proofs.halving.suppose.Given as goal

abbrev pub invariant-loop-literal : goal.invariant-loop-literal
invariant-loop-literal l = record {
  same : l.trail.formula ≡ l.initial.trail.formula;
  back : Back (marks_of l.initial.trail) (assigned l.initial.trail) (marks_of l.trail) (assigned l.trail);
  assumed : Assumed l.initial.trail.formula.clauses (assigned l.initial.trail) (take l.literal-index l.literals) (assigned l.trail);
}
