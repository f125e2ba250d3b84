use Rattle.std.proofs.Common.{sym, ap, subst, refl, ◌∙◌}
use Rattle.wh_sat_trail.proofs.Looking.{grows_same, grows_on}
use Rattle.wh_sat_trail.specs.Watch.{Turn}
use Rattle.wh_sat_trail.proofs.Watching.{turn_kept}
use Rattle.wh_sat_trail.proofs.Visiting.{pending_start}
use Rattle.wh_sat_trail.proofs.trail.Trail.visit_all.Goals as goal

pub loop-at-init : goal.loop-at-init
loop-at-init c =
    let s = c.args.self.now in
    record {
      same = refl;
      stops = refl;
      head = refl;
      grows = grows_same s.formula.clauses s.assignment.literals.items;
      turn = c.requires.turn;
      pending = pending_start s.formula.clauses s.assignment.literals.items s.stops.items s.head s.lists.items s.pairs.items s.short.items c.args.falsified c.requires.turn s.guarded;
    }

pub returns-in_err-visit-clause-grows : goal.returns-in_err-visit-clause-grows
returns-in_err-visit-clause-grows c =
    let i = c.loop-at.invariant in
    grows_on c.args.self.now.formula.clauses c.loop-at.self.formula.clauses c.args.self.now.assignment.literals.items c.loop-at.self.assignment.literals.items c.visit.new.self.assignment.literals.items (ap (λ f. f.clauses) i.same) i.grows c.visit.ensures.grows

pub returns-in-Refuted-clause-grows : goal.returns-in-Refuted-clause-grows
returns-in-Refuted-clause-grows c =
    let i = c.loop-at.invariant in
    grows_on c.args.self.now.formula.clauses c.loop-at.self.formula.clauses c.args.self.now.assignment.literals.items c.loop-at.self.assignment.literals.items c.visit.new.self.assignment.literals.items (ap (λ f. f.clauses) i.same) i.grows c.visit.ensures.grows

pub loop-at-preserved-in-Stays : goal.loop-at-preserved-in-Stays
loop-at-preserved-in-Stays c =
    let i = c.loop-at.invariant in
    let n = c.visit.new.self in
    record {
      same = c.visit.ensures.same ∙ i.same;
      stops = c.visit.ensures.stops ∙ i.stops;
      head = c.visit.ensures.head ∙ i.head;
      grows = grows_on c.args.self.now.formula.clauses c.loop-at.self.formula.clauses c.args.self.now.assignment.literals.items c.loop-at.self.assignment.literals.items n.assignment.literals.items (ap (λ f. f.clauses) i.same) i.grows c.visit.ensures.grows;
      turn = subst (λ h. Turn n.assignment.literals.items h c.args.falsified) (sym c.visit.ensures.head) (turn_kept c.loop-at.self.assignment.literals.items n.assignment.literals.items c.loop-at.self.head c.args.falsified c.visit.ensures.grows.kept i.turn);
      pending = (rw c.in-Stays.is at c.in_ok-visit.ensures.answer).0;
    }

pub loop-at-preserved : goal.loop-at-preserved
loop-at-preserved c =
    let i = c.loop-at.invariant in
    let n = c.visit.new.self in
    record {
      same = c.visit.ensures.same ∙ i.same;
      stops = c.visit.ensures.stops ∙ i.stops;
      head = c.visit.ensures.head ∙ i.head;
      grows = grows_on c.args.self.now.formula.clauses c.loop-at.self.formula.clauses c.args.self.now.assignment.literals.items c.loop-at.self.assignment.literals.items n.assignment.literals.items (ap (λ f. f.clauses) i.same) i.grows c.visit.ensures.grows;
      turn = subst (λ h. Turn n.assignment.literals.items h c.args.falsified) (sym c.visit.ensures.head) (turn_kept c.loop-at.self.assignment.literals.items n.assignment.literals.items c.loop-at.self.head c.args.falsified c.visit.ensures.grows.kept i.turn);
      pending = (rw c.in-Moved.is at c.in_ok-visit.ensures.answer).0;
    }
