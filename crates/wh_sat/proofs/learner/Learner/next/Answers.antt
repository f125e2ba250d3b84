use Rattle.std.proofs.Common.{arith, sym, ap, subst, ◌∙◌, ◌≡◌, ℕ, ◌+◌, ◌<◌, ◌≤◌, None, false, [], length, get_or}
use Rattle.std.proofs.lemmas.List.{length_push}
use Rattle.wh_sat_trail.proofs.Looking.{grows_longer}
use Rattle.wh_sat_trail.specs.Assignment.{value_in}
use Rattle.wh_sat_trail.specs.Propagation.{IsRefuted, IsClosed}
use Rattle.wh_sat_trail.specs.State.{assigned, formula_of, marks_of}
use Rattle.wh_sat.specs.Solving.{Known, Levels, Solves, decisions}
use Rattle.wh_sat.specs.Learning.{Refutes}
use Rattle.wh_sat.specs.State.{clauses_of, variables_of}
use Rattle.wh_sat.proofs.Leveling.{levels_start, conflict_refutes}
use Rattle.wh_sat_trail.specs.declared.formula.Formula.{Formula}
use Rattle.wh_sat.proofs.Searching.{extends_trans, extends_as, known_trail, sound_back, sound_ground, ground_conflict, ground_refutes, closed_solves, levels_after, levels_decided, trail_short, turns, turns_planned, turns_learnt, measure_turned, measure_decided}
use Rattle.wh_sat.specs.declared.learner.Learner.{Learner}
use Rattle.wh_sat.proofs.learner.Learner.next.Goals as goal

pub returns-then-levels-eq0-clause-sound : goal.returns-then-levels-eq0-clause-sound
returns-then-levels-eq0-clause-sound c =
    let s = c.loop-self.self in
    let i = c.loop-self.invariant in
    let u = c.propagate.new.self in
    let e = c.propagate.ensures in
    let b : Learner = record s { trail = u } in
    let q = known_trail s u e.same i.known in
    let lv = levels_after s.trail u e.same e.marks e.grows i.levels in
    sound_ground b (omega (arith, c.levels.ensures, c.if-levels-eq0.true)) q lv

pub returns-then-levels-eq0-clause-answer : goal.returns-then-levels-eq0-clause-answer
returns-then-levels-eq0-clause-answer c =
    let s = c.loop-self.self in
    let i = c.loop-self.invariant in
    let u = c.propagate.new.self in
    let e = c.propagate.ensures in
    let b : Learner = record s { trail = u } in
    let q = known_trail s u e.same i.known in
    let lv = levels_after s.trail u e.same e.marks e.grows i.levels in
    let a = rw c.in-Some.is at c.in_ok-clause.ensures.answer in
    let k = c.in-Some.clause in
    let kw : k < length (clauses_of b) = subst (λ (f : Formula). k < length f.clauses) (sym e.same) a.0 in
    let kr : IsRefuted (assigned u) (get_or (clauses_of b) k []) = subst (λ (f : Formula). IsRefuted (assigned u) (get_or f.clauses k [])) (sym e.same) a.1 in
    (omega (arith, c.if-self-eq0.false), ground_conflict b k (omega (arith, c.levels.ensures, c.if-levels-eq0.true)) q lv kw kr)

pub returns-then-levels-eq0-clause-refuted : goal.returns-then-levels-eq0-clause-refuted
returns-then-levels-eq0-clause-refuted c =
    let s = c.loop-self.self in
    let i = c.loop-self.invariant in
    let u = c.propagate.new.self in
    let e = c.propagate.ensures in
    let b : Learner = record s { trail = u } in
    let lv = levels_after s.trail u e.same e.marks e.grows i.levels in
    let a = rw c.in-Some.is at c.in_ok-clause.ensures.answer in
    let k = c.in-Some.clause in
    let kw : k < length (clauses_of b) = subst (λ (f : Formula). k < length f.clauses) (sym e.same) a.0 in
    let kr : IsRefuted (assigned u) (get_or (clauses_of b) k []) = subst (λ (f : Formula). IsRefuted (assigned u) (get_or f.clauses k [])) (sym e.same) a.1 in
    ground_refutes b k (omega (arith, c.levels.ensures, c.if-levels-eq0.true)) lv kw kr

pub learn-requires-clause-known : goal.learn-requires-clause-known
learn-requires-clause-known c =
    let s = c.loop-self.self in
    let u = c.propagate.new.self in
    subst (λ (x : Learner). Known (variables_of x) (clauses_of x) x.learnt.items) (sym c.plan.ensures.same) (known_trail s u c.propagate.ensures.same c.loop-self.invariant.known)

pub learn-requires-clause-levels : goal.learn-requires-clause-levels
learn-requires-clause-levels c =
    let e = c.propagate.ensures in
    subst (λ (x : Learner). Levels (clauses_of x) (assigned x.trail) (marks_of x.trail)) (sym c.plan.ensures.same)
    (levels_after c.loop-self.self.trail c.propagate.new.self e.same e.marks e.grows c.loop-self.invariant.levels)

pub learn-requires-clause-conflict : goal.learn-requires-clause-conflict
learn-requires-clause-conflict c =
    let s = c.loop-self.self in
    let i = c.loop-self.invariant in
    let u = c.propagate.new.self in
    let e = c.propagate.ensures in
    let b : Learner = record s { trail = u } in
    let lv = levels_after s.trail u e.same e.marks e.grows i.levels in
    let a = rw c.in-Some.is at c.in_ok-clause.ensures.answer in
    let k = c.in-Some.clause in
    let kw : k < length (clauses_of b) = subst (λ (f : Formula). k < length f.clauses) (sym e.same) a.0 in
    let kr : IsRefuted (assigned u) (get_or (clauses_of b) k []) = subst (λ (f : Formula). IsRefuted (assigned u) (get_or f.clauses k [])) (sym e.same) a.1 in
    subst (λ (x : Learner). Refutes (clauses_of x) (decisions (assigned x.trail) (marks_of x.trail))) (sym c.plan.ensures.same) (conflict_refutes (clauses_of b) (assigned u) (marks_of u) k lv kw kr)

pub loop-self-preserved-then-is_planned : goal.loop-self-preserved-then-is_planned
loop-self-preserved-then-is_planned c =
    let s = c.loop-self.self in
    let i = c.loop-self.invariant in
    let u = c.propagate.new.self in
    let e = c.propagate.ensures in
    let b : Learner = record s { trail = u } in
    let q = known_trail s u e.same i.known in
    let lv = levels_after s.trail u e.same e.marks e.grows i.levels in
    let n = c.plan.new.self in
    let m = c.plan.ensures.same in
    let w = c.undo-then-is_planned in
    let d : Learner = record n { trail = w.new.self } in
    let g = sound_back b d n.trail (ap (λ (x : Learner). x.trail) m) (ap (λ (x : Learner). x.learnt.items) m) w.ensures.same w.ensures.marks w.ensures.assigned q lv in
    record {
      known = g.known;
      levels = subst (Levels (clauses_of d) (assigned d.trail)) (sym g.ground) (levels_start (clauses_of d) (assigned d.trail) g.derived);
      extends = extends_as c.args.self.now s d (w.ensures.same ∙ ap (λ (x : Learner). formula_of x.trail) m ∙ e.same) (ap (λ (x : Learner). x.learnt.items) m) (ap (λ (x : Learner). x.left) m) i.extends;
    }

pub loop-self-smaller-then-is_planned : goal.loop-self-smaller-then-is_planned
loop-self-smaller-then-is_planned c =
    let s = c.loop-self.self in
    let n = c.plan.new.self in
    let m = c.plan.ensures.same in
    let w = c.undo-then-is_planned in
    let ev = ap (λ (f : Formula). f.variables) (w.ensures.same ∙ ap (λ (x : Learner). formula_of x.trail) m ∙ c.propagate.ensures.same) in
    let was : c.loop-self.is_planned ≡ false = (rw c.if-is_planned.true at c.in_ok-is_planned-in-Some.ensures.once) in
    measure_turned (variables_of s) _ _ _ _ _ ev (turns_planned n.left s.left c.loop-self.is_planned c.in_ok-is_planned-in-Some.is_planned (ap (λ (x : Learner). x.left) m) was c.if-is_planned.true)

pub loop-self-preserved-in-Continue-branch-4 : goal.loop-self-preserved-in-Continue-branch-4
loop-self-preserved-in-Continue-branch-4 c =
    let s = c.loop-self.self in
    let p = c.plan.new.self in
    let e = c.plan.ensures.same in
    let n = c.learn.new.self in
    let m = c.in_ok-learn-in-Some.ensures in
    record {
      known = m.sound.known;
      levels = subst (Levels (clauses_of n) (assigned n.trail)) (sym m.sound.ground) (levels_start (clauses_of n) (assigned n.trail) m.sound.derived);
      extends = extends_trans c.args.self.now p n
          (extends_as c.args.self.now s p (ap (λ (x : Learner). formula_of x.trail) e ∙ c.propagate.ensures.same) (ap (λ (x : Learner). x.learnt.items) e) (ap (λ (x : Learner). x.left) e) c.loop-self.invariant.extends) m.extends;
    }

pub loop-self-smaller-in-Continue-branch-4 : goal.loop-self-smaller-in-Continue-branch-4
loop-self-smaller-in-Continue-branch-4 c =
    let s = c.loop-self.self in
    let p = c.plan.new.self in
    let e = c.plan.ensures.same in
    let n = c.learn.new.self in
    let m = c.in_ok-learn-in-Some.ensures in
    let ev : variables_of n ≡ variables_of s = m.extends.variables ∙ ap (λ (f : Formula). f.variables) (ap (λ (x : Learner). formula_of x.trail) e ∙ c.propagate.ensures.same) in
    let less : n.left < s.left = omega (arith, m.fewer, ap (λ (x : Learner). x.left) e) in
    measure_turned (variables_of s) (variables_of n) _ _ _ _ ev (turns_learnt n.left s.left c.loop-self.is_planned c.in_ok-is_planned-in-Some.is_planned less)

pub returns-in-None-choose-clause-sound : goal.returns-in-None-choose-clause-sound
returns-in-None-choose-clause-sound c =
    let s = c.loop-self.self in
    let i = c.loop-self.invariant in
    let u = c.propagate.new.self in
    let e = c.propagate.ensures in
    let b : Learner = record s { trail = u } in
    let q = known_trail s u e.same i.known in
    let lv = levels_after s.trail u e.same e.marks e.grows i.levels in
    let w = c.undo-in-None-choose in
    let n = c.choose.new.self in
    let m = c.choose.ensures.same in
    let d : Learner = record n { trail = w.new.self; guide = c.note.new.self } in
    sound_back b d n.trail (ap (λ (x : Learner). x.trail) m) (ap (λ (x : Learner). x.learnt.items) m) w.ensures.same w.ensures.marks w.ensures.assigned q lv

pub returns-in-None-choose-clause-extends : goal.returns-in-None-choose-clause-extends
returns-in-None-choose-clause-extends c =
    let n = c.choose.new.self in
    let m = c.choose.ensures.same in
    let w = c.undo-in-None-choose in
    let d : Learner = record n { trail = w.new.self; guide = c.note.new.self } in
    extends_as c.args.self.now c.loop-self.self d (w.ensures.same ∙ ap (λ (x : Learner). formula_of x.trail) m ∙ c.propagate.ensures.same) (ap (λ (x : Learner). x.learnt.items) m) (ap (λ (x : Learner). x.left) m) c.loop-self.invariant.extends

pub returns-in-None-choose-clause-answer : goal.returns-in-None-choose-clause-answer
returns-in-None-choose-clause-answer c =
    let u = c.propagate.new.self in
    let e = c.propagate.ensures in
    let n = c.choose.new.self in
    let m = c.choose.ensures.same in
    let closed : IsClosed (formula_of u).clauses (assigned u) = subst (λ (f : Formula). IsClosed f.clauses (assigned u)) (sym e.same) (rw c.in-None.is at c.in_ok-clause.ensures.answer) in
    let cl : IsClosed (clauses_of n) (assigned n.trail) = subst (λ (x : Learner). IsClosed (clauses_of x) (assigned x.trail)) (sym m) closed in
    let full = subst (λ (x : Learner). (v : ℕ) → v < variables_of x → value_in (assigned x.trail) v ≡ None → ⊥) (sym m) c.in-None-choose.ensures.answer in
    let w = c.undo-in-None-choose in
    let vals = c.in_ok-values-in-None-choose.values.items in
    let r = c.in_ok-values-in-None-choose.ensures in (
      omega (arith, c.if-self-eq0.false, ap (λ (x : Learner). x.left) m),
      r.0 ∙ sym (ap (λ (f : Formula). f.variables) w.ensures.same),
      subst (λ (f : Formula). Solves (λ v. get_or vals v false) f.clauses) (sym w.ensures.same) (closed_solves (variables_of n) (clauses_of n) (assigned n.trail) vals n.trail.within cl full r.1),
    )

pub loop-self-preserved : goal.loop-self-preserved
loop-self-preserved c =
    let s = c.loop-self.self in
    let i = c.loop-self.invariant in
    let u = c.propagate.new.self in
    let e = c.propagate.ensures in
    let b : Learner = record s { trail = u } in
    let q = known_trail s u e.same i.known in
    let lv = levels_after s.trail u e.same e.marks e.grows i.levels in
    let closed : IsClosed (clauses_of b) (assigned u) = subst (λ (f : Formula). IsClosed f.clauses (assigned u)) (sym e.same) (rw c.in-None.is at c.in_ok-clause.ensures.answer) in
    let n = c.choose.new.self in
    let m = c.choose.ensures.same in
    let cl = subst (λ (x : Learner). IsClosed (clauses_of x) (assigned x.trail)) (sym m) closed in
    let lvn = subst (λ (x : Learner). Levels (clauses_of x) (assigned x.trail) (marks_of x.trail)) (sym m) lv in
    let qn = subst (λ (x : Learner). Known (variables_of x) (clauses_of x) x.learnt.items) (sym m) q in
    let w = c.decide.new.self in
    let d = c.in_ok-decide-in-Some-choose.ensures in
    record {
      known = known_trail n w d.same qn;
      levels = levels_decided n.trail w _ d.same d.marks d.assigned cl lvn;
      extends = extends_as c.args.self.now s (record n { trail = w }) (d.same ∙ ap (λ (x : Learner). formula_of x.trail) m ∙ e.same) (ap (λ (x : Learner). x.learnt.items) m) (ap (λ (x : Learner). x.left) m) i.extends;
    }

pub loop-self-smaller : goal.loop-self-smaller
loop-self-smaller c =
    let s = c.loop-self.self in
    let u = c.propagate.new.self in
    let n = c.choose.new.self in
    let m = c.choose.ensures.same in
    let w = c.decide.new.self in
    let d = c.in_ok-decide-in-Some-choose.ensures in
    let ev : (formula_of w).variables ≡ variables_of s = ap (λ (f : Formula). f.variables) (d.same ∙ ap (λ (x : Learner). formula_of x.trail) m ∙ c.propagate.ensures.same) in
    let more : length (assigned w) ≡ length (assigned n.trail) + 1 = ap length d.assigned ∙ length_push (assigned n.trail) c.in-Some-choose.literal in
    let same : length (assigned n.trail) ≡ length (assigned u) = ap (λ (x : Learner). length (assigned x.trail)) m in
    let longer : length (assigned s.trail) ≤ length (assigned u) = grows_longer _ _ _ c.propagate.ensures.grows in
    measure_decided (variables_of s) (formula_of w).variables _ _ (length (assigned s.trail)) (length (assigned w)) ev (ap (λ (x : Learner). turns x.left c.loop-self.is_planned) m)
    (omega (arith, more, same, longer)) (omega (arith, trail_short w, ev))
