use Rattle.std.proofs.Common.{sym, ap, subst, ◌∙◌, true, ◌≡◌, length}
use Rattle.wh_sat_trail.specs.Assignment.{Fails}
use Rattle.wh_sat_trail.specs.Member.{member}
use Rattle.wh_sat_trail.specs.Watch.{Guard, Listed, pair}
use Rattle.wh_sat_trail.proofs.Guarding.{guard_new}
use Rattle.wh_sat_trail.proofs.Settling.{settled_try}
use Rattle.wh_sat_trail.proofs.trail.Trail.add.Goals as goal

pub join-requires-clause-guard : goal.join-requires-clause-guard
join-requires-clause-guard c _ =
    let s = c.args.self.now in
    let a = c.enlist.new.self in
    let b = c.enlist-in-Some.new.self in
    let first = c.in-Some.first in
    let second = c.in-Some.second in
    let u = c.in-Some.ensures in
    let k : c.len-number.result ≡ length b.formula.clauses = c.len-number.ensures ∙ s.paired ∙ sym (ap (λ f. length f.clauses) (c.enlist-in-Some.ensures.same ∙ c.enlist.ensures.same)) in
    let t : b.assignment ≡ s.assignment = c.enlist-in-Some.ensures.assignment ∙ c.enlist.ensures.assignment in
    let l1 : Listed b.lists.items first c.len-number.result = c.enlist-in-Some.ensures.kept first c.len-number.result c.in_ok-enlist-in-Some.ensures.listed in
    let l2 : Listed b.lists.items second c.len-number.result = c.in_ok-enlist-in-Some-2.ensures.listed in
    let m1 = subst (λ xs. member first xs ≡ true) c.as_slice.ensures u.0.in_clause in
    let m2 = subst (λ xs. member second xs ≡ true) c.as_slice.ensures u.1.in_clause in
    let f1 : Fails b.assignment.literals.items first → ⊥ = λ f. u.0.possible (subst (λ x. Fails x.literals.items first) t f) in
    let f2 : Fails b.assignment.literals.items second → ⊥ = λ f. u.1.possible (subst (λ x. Fails x.literals.items second) t f) in
    subst (λ n. Guard b.assignment.literals.items b.stops.items b.head b.lists.items c.args.clause n (pair first second)) k
    (guard_new b.assignment.literals.items b.stops.items b.head b.lists.items c.args.clause c.len-number.result first second m1 m2 (λ e. u.2 (sym e)) f1 f2 l1 l2)

pub invariant_of-self-in-None-clause-settling : goal.invariant_of-self-in-None-clause-settling
invariant_of-self-in-None-clause-settling c =
    let s = c.args.self.now in
    settled_try s.formula.clauses _ s.short.items c.push.new.self.items s.settled c.len-number.result c.push.result c.push.ensures.items s.settling
