use Rattle.std.proofs.Common.{sym, ap, subst, ◌∙◌}
use Rattle.wh_sat_trail.specs.Propagation.{Grows}
use Rattle.wh_sat_trail.proofs.Looking.{grows_on}
use Rattle.wh_sat_trail.proofs.trail.Trail.empty_queue.Goals as goal

pub returns-in_err-number-clause-grows : goal.returns-in_err-number-clause-grows
returns-in_err-number-clause-grows c =
    let i = c.loop-self.invariant in
    grows_on _ c.loop-self.self.formula.clauses _ c.loop-self.self.assignment.literals.items _ (ap (λ f. f.clauses) i.same) i.grows c.visit_all.ensures.grows

pub returns-in-Some-clause-grows : goal.returns-in-Some-clause-grows
returns-in-Some-clause-grows c =
    let i = c.loop-self.invariant in
    grows_on _ c.loop-self.self.formula.clauses _ c.loop-self.self.assignment.literals.items _ (ap (λ f. f.clauses) i.same) i.grows c.visit_all.ensures.grows

pub loop-self-preserved : goal.loop-self-preserved
loop-self-preserved c =
    let i = c.loop-self.invariant in
    let s = c.args.self.now in
    let g = grows_on s.formula.clauses c.loop-self.self.formula.clauses s.assignment.literals.items c.loop-self.self.assignment.literals.items c.visit_all.new.self.assignment.literals.items (ap (λ f. f.clauses) i.same) i.grows c.visit_all.ensures.grows in
    record {
      same = c.advance.ensures.same ∙ c.visit_all.ensures.same ∙ i.same;
      stops = c.advance.ensures.stops ∙ c.visit_all.ensures.stops ∙ i.stops;
      grows = subst (Grows s.formula.clauses s.assignment.literals.items) (sym c.advance.ensures.literals) g;
    }
