use Rattle.wh_sat_trail.specs.State.{assigned}
use Rattle.std.proofs.Common.{arith, sym, subst, ◌≡◌, ◌++◌}
use Rattle.wh_sat_trail.specs.Assignment.{AllBelow}
use Rattle.wh_sat_trail.specs.Propagation.{IsClosed}
use Rattle.wh_sat_trail.specs.declared.literal.Literal.{Literal}
use Rattle.wh_sat.specs.Learning.{Clash, Reduced, Has}
use Rattle.std.proofs.lemmas.Grind.{common_steps}
use Rattle.wh_sat.proofs.Clashing.{has_left, has_right}
use Rattle.wh_sat.proofs.Combining.{more_clash, turn_round, split_clash, beside_empty, after_clash, beside_kept, below_within, both_halves, short_answer}
use Rattle.wh_sat.proofs.halving.+halve.Goals as goal

pub halve-returns-then-literals-lt2-clause-answer : goal.halve-returns-then-literals-lt2-clause-answer
halve-returns-then-literals-lt2-clause-answer t c =
    let s = c.args.trail.now in
    short_answer s.formula.clauses (assigned s) c.args.literals.now c.from_slice.result c.from_slice.ensures.items c.if-literals-lt2.true s.assignment.fresh c.requires.closed c.requires.clash

pub halve-needed_beside-requires : goal.halve-needed_beside-requires
halve-needed_beside-requires t c =
    let s = c.args.trail.now in
    let xs = c.args.literals.now in
    let a = c.split_at.result.0.now in
    let b = c.split_at.result.1.now in
    let e : xs ≡ a ++ b = sym (grind (arith, common_steps)) in
    let ia : (m : Literal) → Has a m → Has xs m = λ m h. subst (λ y. Has y m) (sym e) (has_left a b m h) in
    let ib : (m : Literal) → Has b m → Has xs m = λ m h. subst (λ y. Has y m) (sym e) (has_right a b m h) in (
      omega (arith, c.split_at.ensures.back_len, c.if-literals-lt2.false),
      (
        below_within s.formula.variables xs b c.requires.below ib,
        (
          below_within s.formula.variables xs a c.requires.below ia,
          (c.requires.closed, split_clash s.formula.clauses (assigned s) xs a b e c.requires.clash),
        ),
      ),
    )

pub halve-needed_beside-requires-2 : goal.halve-needed_beside-requires-2
halve-needed_beside-requires-2 t c =
    let s = c.args.trail.now in
    let n = c.needed_beside.new.trail in
    let xs = c.args.literals.now in
    let a = c.split_at.result.0.now in
    let b = c.split_at.result.1.now in
    let k2 = c.in_ok-second.second.items in
    let e : xs ≡ a ++ b = sym (grind (arith, common_steps)) in
    let ia : (m : Literal) → Has a m → Has xs m = λ m h. subst (λ y. Has y m) (sym e) (has_left a b m h) in
    let ib : (m : Literal) → Has b m → Has xs m = λ m h. subst (λ y. Has y m) (sym e) (has_right a b m h) in
    let f : n.formula ≡ s.formula = c.needed_beside.ensures.same in
    let tr : (assigned n) ≡ (assigned s) = c.in_ok-second.ensures.assigned in
    let r2 : Reduced s.formula.clauses ((assigned s) ++ a) b k2 = c.in_ok-second.ensures.answer in
    let v : c.deref.result.now ≡ k2 = c.deref.ensures.value in
    let cl : Clash s.formula.clauses (((assigned s) ++ k2) ++ a) = more_clash s.formula.clauses (((assigned s) ++ a) ++ k2) (((assigned s) ++ k2) ++ a) (turn_round (assigned s) a k2) r2.refuted in
    let cl2 = subst (λ y. Clash y.clauses (((assigned s) ++ k2) ++ a)) (sym f) cl in
    let cl3 = subst (λ y. Clash n.formula.clauses ((y ++ k2) ++ a)) (sym tr) cl2 in (
      omega (arith, c.split_at.ensures.front_len, c.if-literals-lt2.false),
      (
        subst (λ y. AllBelow y.variables a) (sym f) (below_within s.formula.variables xs a c.requires.below ia),
        (
          subst (λ y. AllBelow n.formula.variables y) (sym v) (subst (λ y. AllBelow y.variables k2) (sym f) (below_within s.formula.variables xs k2 c.requires.below (λ m h. ib m (r2.within m h)))),
          (
            subst (λ y. IsClosed y.clauses (assigned n)) (sym f) (subst (IsClosed s.formula.clauses) (sym tr) c.requires.closed),
            subst (λ y. Clash n.formula.clauses (((assigned n) ++ y) ++ a)) (sym v) cl3,
          ),
        ),
      ),
    )

pub halve-returns-clause-answer : goal.halve-returns-clause-answer
halve-returns-clause-answer t c =
    let s = c.args.trail.now in
    let n = c.needed_beside.new.trail in
    let xs = c.args.literals.now in
    let a = c.split_at.result.0.now in
    let b = c.split_at.result.1.now in
    let k2 = c.in_ok-second.second.items in
    let e : xs ≡ a ++ b = sym (grind (arith, common_steps)) in
    let ia : (m : Literal) → Has a m → Has xs m = λ m h. subst (λ y. Has y m) (sym e) (has_left a b m h) in
    let ib : (m : Literal) → Has b m → Has xs m = λ m h. subst (λ y. Has y m) (sym e) (has_right a b m h) in
    let f : n.formula ≡ s.formula = c.needed_beside.ensures.same in
    let tr : (assigned n) ≡ (assigned s) = c.in_ok-second.ensures.assigned in
    let r2 : Reduced s.formula.clauses ((assigned s) ++ a) b k2 = c.in_ok-second.ensures.answer in
    let v : c.deref.result.now ≡ k2 = c.deref.ensures.value in
    let k1 = c.in_ok-first.first.items in
    let q1 = subst (λ y. Reduced n.formula.clauses ((assigned n) ++ y) a k1) v c.in_ok-first.ensures.answer in
    let q2 = subst (λ y. Reduced n.formula.clauses (y ++ k2) a k1) tr q1 in
    let r1 = subst (λ y. Reduced y.clauses ((assigned s) ++ k2) a k1) f q2 in
    let ek : c.extend_from_slice.new.self.items ≡ k1 ++ k2 = grind (arith, common_steps) in
    both_halves s.formula.clauses (assigned s) xs a b k1 k2 c.extend_from_slice.new.self.items e ek r2 r1

pub needed_beside-returns-then-branch-clause-answer : goal.needed_beside-returns-then-branch-clause-answer
needed_beside-returns-then-branch-clause-answer t c =
    let s = c.args.trail.now in
    let a = rw c.if-branch.true at c.in_ok-suppose.ensures.answer in
    beside_empty s.formula.clauses ((assigned s) ++ c.args.given.now) c.args.rest.now c.new.result.items c.new.ensures.items a

pub needed_beside-halve-requires : goal.needed_beside-halve-requires
needed_beside-halve-requires t c =
    let s = c.args.trail.now in
    let f : c.suppose.new.trail.formula ≡ s.formula = c.suppose.ensures.same in
    let a = rw c.if-branch.false at c.in_ok-suppose.ensures.answer in
    let k = after_clash s.formula.clauses (assigned s) c.args.given.now (assigned c.suppose.new.trail) c.args.rest.now a c.requires.clash in (
      omega arith,
      (
        subst (λ y. AllBelow y.variables c.args.rest.now) (sym f) c.requires.below,
        (
          subst (λ y. IsClosed y.clauses (assigned c.suppose.new.trail)) (sym f) a.closed,
          subst (λ y. Clash y.clauses ((assigned c.suppose.new.trail) ++ c.args.rest.now)) (sym f) k,
        ),
      ),
    )

pub needed_beside-returns-clause-answer : goal.needed_beside-returns-clause-answer
needed_beside-returns-clause-answer t c =
    let s = c.args.trail.now in
    let f : c.suppose.new.trail.formula ≡ s.formula = c.suppose.ensures.same in
    let a = rw c.if-branch.false at c.in_ok-suppose.ensures.answer in
    beside_kept s.formula.clauses (assigned s) c.args.given.now (assigned c.suppose.new.trail) c.args.rest.now c.in_ok-kept.kept.items a
    (subst (λ y. Reduced y.clauses (assigned c.suppose.new.trail) c.args.rest.now c.in_ok-kept.kept.items) f c.in_ok-kept.ensures.answer)
