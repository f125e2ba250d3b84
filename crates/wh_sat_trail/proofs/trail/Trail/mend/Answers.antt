use Rattle.std.proofs.Common.{arith, ap, subst, refl, ◌∙◌, inl, ◌≡◌, ◌≢◌, ℕ, [], ◌∷◌, ◌++◌, ◌<◌, ◌+◌, length, get_or, set}
use Rattle.wh_sat_trail.specs.declared.literal.Literal.{Literal}
use Rattle.wh_sat_trail.specs.Assignment.{Holds, Fails}
use Rattle.wh_sat_trail.proofs.Looking.{grows_push, grows_same}
use Rattle.wh_sat_trail.proofs.Assigning.{push_same}
use Rattle.wh_sat_trail.specs.Code.{code_of}
use Rattle.wh_sat_trail.specs.Watch.{Guard, no_pair, pair}
use Rattle.wh_sat_trail.proofs.Guarding.{forced_by}
use Rattle.wh_sat_trail.proofs.Watching.{turn_fails}
use Rattle.wh_sat_trail.proofs.Rooms.{length-items}
use Rattle.wh_sat_trail.proofs.Visiting.{length-swap_remove, pending_pass, pending_push, safe_either, pending_move, pending_as}
use Rattle.wh_sat_trail.proofs.trail.Trail.mend.Goals as goal

pub rewatch-requires-clause-fails : goal.rewatch-requires-clause-fails
rewatch-requires-clause-fails c = turn_fails _ _ c.args.falsified c.requires.turn

pub returns-in_ok-rewatch-in-Some-clause-answer : goal.returns-in_ok-rewatch-in-Some-clause-answer
returns-in_ok-rewatch-in-Some-clause-answer c =
    let s = c.args.self.now in
    let n = c.rewatch.new.self in
    let q = c.requires in
    let a = c.args in
    let e = c.in_ok-rewatch-in-Some.ensures in
    let cl = get_or s.formula.clauses a.number [] in
    let t = s.assignment.literals.items in
    let far : a.number < length s.pairs.items = omega (arith, length-items s.pairs, s.paired, q.number_in) in
    let g : Guard t s.stops.items s.head s.lists.items cl a.number (pair a.falsified a.other) = subst (Guard t s.stops.items s.head s.lists.items cl a.number) q.both (s.guarded.watched a.number q.number_in (ap (λ p. p.watched) q.both)) in
    let p = pending_move s.formula.clauses t s.stops.items s.head s.lists.items n.lists.items s.pairs.items cl a.falsified a.other c.in-Some.new a.at a.number far q.at_in q.is q.turn c.in-Some.ensures.0.possible g e.list q.pending in (
      pending_as s.formula.clauses n.formula.clauses t n.assignment.literals.items s.head n.head n.lists.items n.lists.items (set s.pairs.items a.number (pair c.in-Some.new a.other)) n.pairs.items a.falsified a.at
          (ap (λ f. f.clauses) e.same) e.literals e.head refl e.pairs p,
      ap (λ xs. length xs + 1) e.list ∙ length-swap_remove (get_or s.lists.items (code_of a.falsified) []) a.at a.number q.at_in,
    )

pub returns-in-Some-true-clause-answer : goal.returns-in-Some-true-clause-answer
returns-in-Some-true-clause-answer c =
    let s = c.args.self.now in
    let q = c.requires in
    let a = c.args in
    let t = s.assignment.literals.items in
    let h : Holds t a.other = rw c.in-Some-true.field-0-test at c.in-Some-true.ensures in (
      pending_pass s.formula.clauses t s.head s.lists.items s.pairs.items a.falsified a.at a.number q.at_in q.is
          (λ _ _. safe_either t (get_or s.pairs.items a.number no_pair) a.falsified a.other (s.head + 1) (inl q.both) h) q.pending,
      refl,
    )

pub returns-in-None-truth-clause-grows : goal.returns-in-None-truth-clause-grows
returns-in-None-truth-clause-grows c =
    let s = c.args.self.now in
    let q = c.requires in
    let a = c.args in
    let t = s.assignment.literals.items in
    let cl = get_or s.formula.clauses a.number [] in
    let g : Guard t s.stops.items s.head s.lists.items cl a.number (pair a.falsified a.other) = subst (Guard t s.stops.items s.head s.lists.items cl a.number) q.both (s.guarded.watched a.number q.number_in (ap (λ p. p.watched) q.both)) in
    let rest = subst (λ xs. (i : ℕ) (d : Literal) → i < length xs → get_or xs i d ≢ a.other → Fails t (get_or xs i d)) c.clause.ensures c.in-None.ensures in
    rw c.assign.ensures.literals (grows_push s.formula.clauses t t a.other (grows_same s.formula.clauses t) (omega arith) (forced_by s.formula.clauses t a.number a.other q.number_in c.in-None-truth.ensures g.second_in rest))

pub returns-in-None-truth-clause-answer : goal.returns-in-None-truth-clause-answer
returns-in-None-truth-clause-answer c =
    let s = c.args.self.now in
    let n = c.assign.new.self in
    let q = c.requires in
    let a = c.args in
    let t = s.assignment.literals.items in
    let u = t ++ a.other ∷ [] in
    let e = c.assign.ensures in
    let h : Holds u a.other = push_same t a.other c.in-None-truth.ensures in
    let p = pending_pass s.formula.clauses u s.head s.lists.items s.pairs.items a.falsified a.at a.number q.at_in q.is
    (λ _ _. safe_either u (get_or s.pairs.items a.number no_pair) a.falsified a.other (s.head + 1) (inl q.both) h)
    (pending_push s.formula.clauses t s.head s.lists.items s.pairs.items a.falsified a.other a.at q.turn.within q.pending) in
    let el : n.lists.items ≡ s.lists.items = ap (λ v. v.items) e.lists in (
      pending_as s.formula.clauses n.formula.clauses u n.assignment.literals.items s.head n.head s.lists.items n.lists.items s.pairs.items n.pairs.items a.falsified (a.at + 1)
          (ap (λ f. f.clauses) e.same) e.literals e.head el (ap (λ v. v.items) e.pairs) p,
      ap (λ ls. length (get_or ls (code_of a.falsified) [])) el,
    )
