use Rattle.wh_sat_trail.specs.State.{assigned, marks_of}
use Rattle.std.proofs.Common.{sym, subst, refl, ◌∙◌, Some, ◌≡◌, [], ◌∷◌, ◌++◌, ◌<◌, length, get_or}
use Rattle.wh_sat_trail.specs.Assignment.{value_in}
use Rattle.wh_sat_trail.specs.Propagation.{IsRefuted, Grows, IsClosed}
use Rattle.wh_sat_trail.specs.Watch.{nothing}
use Rattle.wh_sat.proofs.Supposing.{back_start, back_decide, assumed_start, assumed_true, assumed_decided, clash_false, clash_refuted, fails_by, holds_by}
use Rattle.wh_sat.proofs.halving.suppose.Goals.{in-Some+else-value-literal, in-None+in_ok-decide-in-None+in_ok-propagate-in-None+in-None-2}
use Rattle.wh_sat.proofs.halving.suppose.Goals as goal

pub loop-literal-init : goal.loop-literal-init
loop-literal-init c = record {
  same = refl;
  back = back_start (marks_of c.args.trail.now) (assigned c.args.trail.now);
  assumed = assumed_start c.args.trail.now.formula.clauses (assigned c.args.trail.now) c.args.literals.now c.requires.closed;
}

pub returns-then-value-literal-clause-answer : goal.returns-then-value-literal-clause-answer
returns-then-value-literal-clause-answer c =
    let e : value_in (assigned c.loop-literal.trail) (get_or c.args.literals.now c.loop-literal.literal-index nothing).variable ≡ Some c.in-Some.value = sym (sym c.in-Some.is ∙ c.value.ensures) in
    clash_false c.args.trail.now.formula.clauses (assigned c.args.trail.now) c.args.literals.now (assigned c.loop-literal.trail) c.loop-literal.literal-index nothing c.loop-literal.invariant.assumed c.loop-literal-test.true
    (fails_by _ c.in-Some.value _ e c.if-value-literal.true)

pub returns-in-Some-2-clause-marks : goal.returns-in-Some-2-clause-marks
returns-in-Some-2-clause-marks c =
    let x = get_or c.args.literals.now c.loop-literal.literal-index nothing in
    let tr : (assigned c.decide.new.self) ≡ (assigned c.loop-literal.trail) ++ x ∷ [] = c.in_ok-decide-in-None.ensures.assigned in
    let mk : (marks_of c.propagate.new.self) ≡ (marks_of c.loop-literal.trail) ++ length (assigned c.loop-literal.trail) ∷ [] = c.propagate.ensures.marks ∙ c.in_ok-decide-in-None.ensures.marks in
    let g2 = subst (λ y. Grows c.decide.new.self.formula.clauses y (assigned c.propagate.new.self)) tr c.propagate.ensures.grows in
    rw mk (back_decide c.decide.new.self.formula.clauses (marks_of c.args.trail.now) (assigned c.args.trail.now) (marks_of c.loop-literal.trail) (assigned c.loop-literal.trail) (assigned c.propagate.new.self) x c.loop-literal.invariant.back g2).marks_front

pub returns-in-Some-2-clause-stop : goal.returns-in-Some-2-clause-stop
returns-in-Some-2-clause-stop c =
    let x = get_or c.args.literals.now c.loop-literal.literal-index nothing in
    let tr : (assigned c.decide.new.self) ≡ (assigned c.loop-literal.trail) ++ x ∷ [] = c.in_ok-decide-in-None.ensures.assigned in
    let mk : (marks_of c.propagate.new.self) ≡ (marks_of c.loop-literal.trail) ++ length (assigned c.loop-literal.trail) ∷ [] = c.propagate.ensures.marks ∙ c.in_ok-decide-in-None.ensures.marks in
    let g2 = subst (λ y. Grows c.decide.new.self.formula.clauses y (assigned c.propagate.new.self)) tr c.propagate.ensures.grows in
    rw mk (back_decide c.decide.new.self.formula.clauses (marks_of c.args.trail.now) (assigned c.args.trail.now) (marks_of c.loop-literal.trail) (assigned c.loop-literal.trail) (assigned c.propagate.new.self) x c.loop-literal.invariant.back g2).stop

pub returns-in-Some-2-clause-front : goal.returns-in-Some-2-clause-front
returns-in-Some-2-clause-front c =
    let x = get_or c.args.literals.now c.loop-literal.literal-index nothing in
    let tr : (assigned c.decide.new.self) ≡ (assigned c.loop-literal.trail) ++ x ∷ [] = c.in_ok-decide-in-None.ensures.assigned in
    let g2 = subst (λ y. Grows c.decide.new.self.formula.clauses y (assigned c.propagate.new.self)) tr c.propagate.ensures.grows in
    (back_decide c.decide.new.self.formula.clauses (marks_of c.args.trail.now) (assigned c.args.trail.now) (marks_of c.loop-literal.trail) (assigned c.loop-literal.trail) (assigned c.propagate.new.self) x c.loop-literal.invariant.back g2).front

pub returns-in-Some-2-clause-answer : goal.returns-in-Some-2-clause-answer
returns-in-Some-2-clause-answer c =
    let x = get_or c.args.literals.now c.loop-literal.literal-index nothing in
    let f : c.decide.new.self.formula ≡ c.args.trail.now.formula = c.decide.ensures.same ∙ c.loop-literal.invariant.same in
    let tr : (assigned c.decide.new.self) ≡ (assigned c.loop-literal.trail) ++ x ∷ [] = c.in_ok-decide-in-None.ensures.assigned in
    let g1 = subst (λ y. Grows y.clauses (assigned c.decide.new.self) (assigned c.propagate.new.self)) f c.propagate.ensures.grows in
    let g2 = subst (λ y. Grows c.args.trail.now.formula.clauses y (assigned c.propagate.new.self)) tr g1 in
    let a = rw c.in-Some-2.is at c.in_ok-propagate-in-None.ensures.answer in
    let k = c.in-Some-2.field-0 in
    let kw = subst (λ y. k < length y.clauses) f a.0 in
    let kr = subst (λ y. IsRefuted (assigned c.propagate.new.self) (get_or y.clauses k [])) f a.1 in
    clash_refuted c.args.trail.now.formula.clauses (assigned c.args.trail.now) c.args.literals.now (assigned c.loop-literal.trail) (assigned c.propagate.new.self) c.loop-literal.literal-index k nothing c.loop-literal.invariant.assumed c.loop-literal-test.true g2 kw kr

pub loop-literal-preserved : goal.loop-literal-preserved
loop-literal-preserved c = elim c.match-value.branch [
  | in-Some+else-value-literal w ↦
      let e : value_in (assigned c.loop-literal.trail) (get_or c.args.literals.now c.loop-literal.literal-index nothing).variable ≡ Some w.in-Some.value = sym (sym w.in-Some.is ∙ c.value.ensures) in
      rw w.trail-is (record {
        same = c.loop-literal.invariant.same;
        back = c.loop-literal.invariant.back;
        assumed = assumed_true c.args.trail.now.formula.clauses (assigned c.args.trail.now) c.args.literals.now (assigned c.loop-literal.trail) c.loop-literal.literal-index nothing c.loop-literal.invariant.assumed c.loop-literal-test.true
            (holds_by _ w.in-Some.value _ e w.if-value-literal.false);
      })
  | in-None+in_ok-decide-in-None+in_ok-propagate-in-None+in-None-2 w ↦
      let x = get_or c.args.literals.now c.loop-literal.literal-index nothing in
      let f : w.decide.new.self.formula ≡ c.args.trail.now.formula = w.decide.ensures.same ∙ c.loop-literal.invariant.same in
      let tr : (assigned w.decide.new.self) ≡ (assigned c.loop-literal.trail) ++ x ∷ [] = w.in_ok-decide-in-None.ensures.assigned in
      let mk : (marks_of w.propagate.new.self) ≡ (marks_of c.loop-literal.trail) ++ length (assigned c.loop-literal.trail) ∷ [] = w.propagate.ensures.marks ∙ w.in_ok-decide-in-None.ensures.marks in
      let g1 = subst (λ y. Grows y.clauses (assigned w.decide.new.self) (assigned w.propagate.new.self)) f w.propagate.ensures.grows in
      let g2 = subst (λ y. Grows c.args.trail.now.formula.clauses y (assigned w.propagate.new.self)) tr g1 in
      let a = rw w.in-None-2.is at w.in_ok-propagate-in-None.ensures.answer in
      let cl = subst (λ y. IsClosed y.clauses (assigned w.propagate.new.self)) f a in
      rw w.trail-is (record {
        same = w.propagate.ensures.same ∙ f;
        back = rw mk (back_decide c.args.trail.now.formula.clauses (marks_of c.args.trail.now) (assigned c.args.trail.now) (marks_of c.loop-literal.trail) (assigned c.loop-literal.trail) (assigned w.propagate.new.self) x c.loop-literal.invariant.back g2);
        assumed = assumed_decided c.args.trail.now.formula.clauses (assigned c.args.trail.now) c.args.literals.now (assigned c.loop-literal.trail) (assigned w.propagate.new.self) c.loop-literal.literal-index nothing c.loop-literal.invariant.assumed c.loop-literal-test.true g2 cl;
      })
]
