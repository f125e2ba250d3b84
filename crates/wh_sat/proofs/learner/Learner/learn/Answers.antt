use Rattle.std.proofs.Common.{arith, sym, ap, subst, refl, ◌∙◌, true, false, ◌≡◌, [], ◌∷◌, ◌++◌, length, get_or, take, map}
use Rattle.std.proofs.lemmas.List.{length_push, get_or_push, take_at}
use Rattle.wh_sat_trail.specs.Assignment.{negated, AllBelow}
use Rattle.wh_sat_trail.specs.Propagation.{IsClosed}
use Rattle.wh_sat_trail.specs.State.{assigned, formula_of, marks_of}
use Rattle.wh_sat.specs.Learning.{Clash, Derives, Has, by_clause, given}
use Rattle.wh_sat.specs.Solving.{decisions}
use Rattle.wh_sat.specs.State.{clauses_of, variables_of}
use Rattle.wh_sat.proofs.Leveling.{rising_marks, derives_more, known_learnt, known_as, front_closed}
use Rattle.wh_sat.proofs.Learnable.{decisions_has}
use Rattle.wh_sat.proofs.Clashing.{cut_refutes, has_right}
use Rattle.wh_sat.proofs.Combining.{below_within}
use Rattle.wh_sat_trail.specs.declared.formula.Formula.{Formula}
use Rattle.wh_sat.proofs.Searching.{trail_below, learnt_after}
use Rattle.wh_sat.proofs.learner.Learner.learn.Goals as goal

pub halve-requires-clause-below : goal.halve-requires-clause-below
halve-requires-clause-below c =
    let s = c.args.self.now in
    let t = assigned s.trail in
    let v : c.deref.result.now ≡ decisions t (marks_of s.trail) = c.deref.ensures.value ∙ c.in_ok-literals.ensures in
    let b : AllBelow (variables_of s) t = trail_below s.trail in
    subst (λ x. AllBelow x.variables c.deref.result.now) (sym c.undo.ensures.same) (subst (AllBelow (variables_of s)) (sym v)
    (below_within (variables_of s) t (decisions t (marks_of s.trail)) b (λ m q. decisions_has t (marks_of s.trail) m (rising_marks s.trail) q)))

pub halve-requires-clause-closed : goal.halve-requires-clause-closed
halve-requires-clause-closed c =
    let s = c.args.self.now in
    let u = c.undo.new.self in
    subst (λ x. IsClosed x.clauses (assigned u)) (sym c.undo.ensures.same) (subst (IsClosed (clauses_of s)) (sym c.undo.ensures.assigned)
    (front_closed (clauses_of s) (assigned s.trail) (marks_of s.trail) c.requires.some c.requires.levels))

pub halve-requires-clause-clash : goal.halve-requires-clause-clash
halve-requires-clause-clash c =
    let s = c.args.self.now in
    let u = c.undo.new.self in
    let ds = decisions (assigned s.trail) (marks_of s.trail) in
    let v : c.deref.result.now ≡ ds = c.deref.ensures.value ∙ c.in_ok-literals.ensures in
    let k : Clash (clauses_of s) (assigned u ++ ds) = by_clause (cut_refutes (clauses_of s) ds (assigned u ++ ds) (λ m h. given m (has_right (assigned u) ds m h)) c.requires.conflict) in
    subst (λ x. Clash x.clauses (assigned u ++ c.deref.result.now)) (sym c.undo.ensures.same) (subst (λ xs. Clash (clauses_of s) (assigned u ++ xs)) (sym v) k)

pub join-requires-clause-below : goal.join-requires-clause-below
join-requires-clause-below c =
    let s = c.args.self.now in
    let v = c.deref.ensures.value ∙ c.in_ok-literals.ensures in
    let kept = c.in_ok-kept.kept.items in
    let e : c.in_ok-clause.clause ≡ map negated kept = c.in_ok-clause.ensures ∙ ap (map negated) c.deref-2.ensures.value in
    let l = learnt_after s.trail c.undo.new.self c.deref.result.now kept c.in_ok-clause.clause c.requires.some c.requires.levels c.undo.ensures.same c.undo.ensures.assigned v c.in_ok-kept.ensures.answer e in
    subst (λ (f : Formula). AllBelow f.variables c.in_ok-clause.clause) (sym (c.halve.ensures.same ∙ c.undo.ensures.same)) l.below

pub returns : goal.returns
returns c =
    let s = c.args.self.now in
    let b = c.join.new.self in
    let n = variables_of s in
    let cs = clauses_of s in
    let cl = c.in_ok-clause.clause in
    let v = c.deref.ensures.value ∙ c.in_ok-literals.ensures in
    let kept = c.in_ok-kept.kept.items in
    let e : cl ≡ map negated kept = c.in_ok-clause.ensures ∙ ap (map negated) c.deref-2.ensures.value in
    let l = learnt_after s.trail c.undo.new.self c.deref.result.now kept cl c.requires.some c.requires.levels c.undo.ensures.same c.undo.ensures.assigned v c.in_ok-kept.ensures.answer e in
    let j = c.in_ok-join.ensures in
    let f : formula_of c.halve.new.trail ≡ formula_of s.trail = c.halve.ensures.same ∙ c.undo.ensures.same in
    let ev : variables_of b ≡ n = j.variables ∙ ap (λ (x : Formula). x.variables) f in
    let ec : clauses_of b ≡ cs ++ cl ∷ [] = j.clauses ∙ ap (λ (x : Formula). x.clauses ++ cl ∷ []) f in
    let ea : assigned b.trail ≡ take (get_or (marks_of s.trail) 0 (length (assigned s.trail))) (assigned s.trail) = j.assigned ∙ c.in_ok-kept.ensures.assigned ∙ c.undo.ensures.assigned in
    record {
      sound = record {
        known = known_as n (variables_of b) (cs ++ cl ∷ []) (clauses_of b) (s.learnt.items ++ true ∷ []) b.learnt.items ev ec j.learnt (known_learnt n cs s.learnt.items cl c.requires.known l);
        ground = j.marks ∙ c.in_ok-kept.ensures.marks ∙ c.undo.ensures.marks;
        derived = λ m h. subst (λ x. Derives x [] m) (sym ec) (derives_more cs cl [] m (c.requires.levels.ground m (subst (λ x. Has x m) ea h)));
      };
      extends = record {
        variables = ev;
        clauses = ap (take (length cs)) ec ∙ take_at cs (cl ∷ []) (length cs) refl;
        earlier = ap (take (length s.learnt.items)) j.learnt ∙ take_at s.learnt.items (true ∷ []) (length s.learnt.items) refl;
        later = λ k w u. ap (λ xs. get_or xs k false) j.learnt ∙ get_or_push s.learnt.items true false k (omega (arith, w, u, ap length j.learnt, length_push s.learnt.items true));
        count = omega (arith, ap length ec, length_push cs cl, j.left);
      };
      fewer = omega (arith, j.left);
    }
