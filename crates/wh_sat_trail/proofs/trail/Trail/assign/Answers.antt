use Rattle.std.proofs.Common.{rules, ◌≡◌, [], ◌∷◌, ◌++◌}
use Rattle.wh_sat_trail.proofs.Guarding.{ordered_push, guarded_push}
use Rattle.wh_sat_trail.proofs.Settling.{settled_push}
use Rattle.wh_sat_trail.proofs.trail.Trail.assign.Goals as goal

pub invariant_of-self : goal.invariant_of-self
invariant_of-self c =
    let s = c.args.self.now in
    let t = s.assignment.literals.items in
    let l = c.args.literal in
    let is : c.assign.new.self.literals.items ≡ t ++ l ∷ [] = c.assign.ensures.literals in
    record {
      width = search rules;
      within = s.within;
      coded = s.coded;
      paired = s.paired;
      ordered = rw is (ordered_push s.stops.items s.head t l s.ordered);
      guarded = rw is (guarded_push s.formula.clauses t s.stops.items s.head s.lists.items s.pairs.items s.short.items l s.ordered s.guarded);
      settling = rw is (settled_push s.formula.clauses t s.stops.items s.head s.short.items s.settled l s.ordered s.settling);
    }
