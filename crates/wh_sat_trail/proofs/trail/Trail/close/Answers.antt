use Rattle.std.proofs.Common.{ap, sym, subst, ◌∙◌, ◌≡◌}
use Rattle.wh_sat_trail.specs.Propagation.{Grows, IsForced}
use Rattle.wh_sat_trail.specs.declared.assignment.Assignment.{Assignment}
use Rattle.wh_sat_trail.proofs.Looking.{grows_push, grows_longer, grows_on, forced_below}
use Rattle.wh_sat_trail.proofs.trail.Trail.close.Goals as goal

pub returns-in_err-number-clause-grows : goal.returns-in_err-number-clause-grows
returns-in_err-number-clause-grows c =
    let i = c.loop-number.invariant in
    grows_on _ c.loop-number.self.formula.clauses _ c.loop-number.self.assignment.literals.items _ (ap (λ f. f.clauses) i.same) i.grows c.empty_queue.ensures.grows

pub returns-in-Some-clause-grows : goal.returns-in-Some-clause-grows
returns-in-Some-clause-grows c =
    let i = c.loop-number.invariant in
    grows_on _ c.loop-number.self.formula.clauses _ c.loop-number.self.assignment.literals.items _ (ap (λ f. f.clauses) i.same) i.grows c.empty_queue.ensures.grows

pub returns-in-Nothing-clause-grows : goal.returns-in-Nothing-clause-grows
returns-in-Nothing-clause-grows c =
    let i = c.loop-number.invariant in
    let g = grows_on c.args.self.now.formula.clauses c.loop-number.self.formula.clauses c.args.self.now.assignment.literals.items c.loop-number.self.assignment.literals.items c.empty_queue.new.self.assignment.literals.items (ap (λ f. f.clauses) i.same) i.grows c.empty_queue.ensures.grows in
    subst (λ (a : Assignment). Grows c.args.self.now.formula.clauses c.args.self.now.assignment.literals.items a.literals.items) (sym c.settle.ensures.assignment) g

pub returns-in-Refuted-clause-grows : goal.returns-in-Refuted-clause-grows
returns-in-Refuted-clause-grows c =
    let i = c.loop-number.invariant in
    let g = grows_on c.args.self.now.formula.clauses c.loop-number.self.formula.clauses c.args.self.now.assignment.literals.items c.loop-number.self.assignment.literals.items c.empty_queue.new.self.assignment.literals.items (ap (λ f. f.clauses) i.same) i.grows c.empty_queue.ensures.grows in
    subst (λ (a : Assignment). Grows c.args.self.now.formula.clauses c.args.self.now.assignment.literals.items a.literals.items) (sym c.settle.ensures.assignment) g

pub assign-requires-clause-below : goal.assign-requires-clause-below
assign-requires-clause-below c =
    let s = c.settle.new.self in
    forced_below s.formula.variables s.formula.clauses s.assignment.literals.items c.in-Forces.literal s.within c.in-Forces.ensures

pub loop-number-preserved : goal.loop-number-preserved
loop-number-preserved c =
    let i = c.loop-number.invariant in
    let s = c.args.self.now in
    let q = c.empty_queue.new.self in
    let n = c.settle.new.self in
    let l = c.in-Forces.literal in
    let e : n.formula.clauses ≡ s.formula.clauses = ap (λ f. f.clauses) (c.settle.ensures.same ∙ c.empty_queue.ensures.same ∙ i.same) in
    let before = grows_on s.formula.clauses c.loop-number.self.formula.clauses s.assignment.literals.items c.loop-number.self.assignment.literals.items q.assignment.literals.items (ap (λ f. f.clauses) i.same) i.grows c.empty_queue.ensures.grows in
    let g : Grows s.formula.clauses s.assignment.literals.items n.assignment.literals.items = subst (λ (a : Assignment). Grows s.formula.clauses s.assignment.literals.items a.literals.items) (sym c.settle.ensures.assignment) before in
    let f : IsForced s.formula.clauses n.assignment.literals.items l = subst (λ x. IsForced x n.assignment.literals.items l) e c.in-Forces.ensures in
    record {
      same = c.assign.ensures.same ∙ c.settle.ensures.same ∙ c.empty_queue.ensures.same ∙ i.same;
      stops = ap (λ v. v.items) (c.assign.ensures.stops ∙ c.settle.ensures.stops) ∙ c.empty_queue.ensures.stops ∙ i.stops;
      grows = rw c.assign.ensures.literals (grows_push s.formula.clauses s.assignment.literals.items n.assignment.literals.items l g (grows_longer s.formula.clauses s.assignment.literals.items n.assignment.literals.items g) f);
    }
