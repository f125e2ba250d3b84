use Rattle.std.proofs.Common.{arith, sym, ap, refl, [], ◌<◌, ◌+◌, length, get_or, set}
use Rattle.wh_sat_trail.specs.Watch.{no_pair, pair}
use Rattle.wh_sat_trail.proofs.Rooms.{length-items}
use Rattle.wh_sat_trail.proofs.Visiting.{other_safe, pending_pass, safe_either, pending_turn, pending_as}
use Rattle.wh_sat_trail.proofs.trail.Trail.visit.Goals as goal

pub returns-then-is_true-clause-answer : goal.returns-then-is_true-clause-answer
returns-then-is_true-clause-answer c =
    let s = c.args.self.now in
    let q = c.requires in
    let a = c.args in
    let t = s.assignment.literals.items in (
      pending_pass s.formula.clauses t s.head s.lists.items s.pairs.items a.falsified a.at c.entry-number.result q.at_in (sym c.entry-number.ensures)
          (λ _ _. safe_either t (get_or s.pairs.items c.entry-number.result no_pair) a.falsified c.in-Some.other (s.head + 1) c.in-Some.ensures.1 c.if-is_true.ensures) q.pending,
      refl,
    )

pub mend-requires-clause-pending : goal.mend-requires-clause-pending
mend-requires-clause-pending c =
    let s = c.args.self.now in
    let n = c.turn_pair.new.self in
    let q = c.requires in
    let a = c.args in
    let e = c.turn_pair.ensures in
    let t = s.assignment.literals.items in
    let far : c.entry-number.result < length s.pairs.items = omega (arith, length-items s.pairs, c.in-Some.ensures.0) in
    let p = pending_turn s.formula.clauses t s.head s.lists.items s.pairs.items a.falsified c.in-Some.other a.at c.entry-number.result far c.in-Some.ensures.1 q.pending in
    pending_as s.formula.clauses n.formula.clauses t n.assignment.literals.items s.head n.head s.lists.items n.lists.items (set s.pairs.items c.entry-number.result (pair a.falsified c.in-Some.other)) n.pairs.items a.falsified a.at
    (ap (λ f. f.clauses) e.same) (ap (λ x. x.literals.items) e.assignment) e.head (ap (λ v. v.items) e.lists) e.pairs p

pub returns-in-None-clause-answer : goal.returns-in-None-clause-answer
returns-in-None-clause-answer c =
    let s = c.args.self.now in
    let q = c.requires in
    let a = c.args in
    let t = s.assignment.literals.items in
    let k = c.entry-number.result in (
      pending_pass s.formula.clauses t s.head s.lists.items s.pairs.items a.falsified a.at k q.at_in (sym c.entry-number.ensures)
          (λ w e. let u = c.in-None.ensures (omega (arith, s.paired, w)) e in
          other_safe t s.stops.items s.head s.lists.items (get_or s.formula.clauses k []) k (get_or s.pairs.items k no_pair) a.falsified q.turn u.0 u.1 (s.guarded.watched k w e)) q.pending,
      refl,
    )
