use Rattle.std.proofs.Common.{◌≡◌, ◌∙◌, ◌<◌, ◌+◌, ℕ, suc, sym, subst, [], ◌∷◌, ◌++◌, List, length, get_or, arith}
use Rattle.std.proofs.lemmas.List.{get_or_default}
use Rattle.wh_sat_trail.specs.declared.literal.Literal.{Literal}
use Rattle.wh_sat_trail.specs.Assignment.{AllBelow}
use Rattle.wh_sat_trail.specs.Propagation.{Within}
use Rattle.wh_refute.specs.Refuting.{IsFalse, IsLeft}
use Rattle.wh_refute.specs.RefuteFaults.{IsStuck}
use Rattle.wh_refute.specs.Told.{with_entries}
use Rattle.wh_refute.proofs.Members.{member_below}
use Rattle.wh_refute.proofs.Following.{Reaches, reaches_next, reaches_unknown, reaches_stuck, reaches_early, reaches_false, reaches_end}
use Rattle.wh_refute.proofs.check.follow.Goals as goal

-- a hint is read at any default
read : (hints : List ℕ) (i : ℕ) → i < length hints → get_or hints i 0 ≡ get_or hints i (get_or hints i 0)
read hints i w = get_or_default hints i 0 (get_or hints i 0) w

pub returns-in_default-clause-found : goal.returns-in_default-clause-found
returns-in_default-clause-found c = λ t h.
    let (u, now, r) = c.loop-place.invariant.1 t h in
    reaches_unknown _ t u c.args.hints.now c.loop-place.place (get_or c.args.hints.now c.loop-place.place 0) c.loop-place-test.true
    (read c.args.hints.now c.loop-place.place c.loop-place-test.true) c.in_default.ensures r

-- the literal that a clause leaves is one of the formula's
left_below : (n : ℕ) (clauses : List (List Literal)) (k : ℕ) (d t : List Literal) (l : Literal) → Within n clauses → k < length clauses
    → d ≡ get_or clauses k [] → IsLeft t d l → l.variable < n
left_below n clauses k d t l within known is left = member_below n d l (subst (AllBelow n) (sym is) (within k known)) left.in_clause

pub assume-requires-clause-told : goal.assume-requires-clause-told
assume-requires-clause-told c =
    let (s, now) = c.loop-place.invariant.0 in
    let e = c.in-Some.ensures in
    let left = c.in-Leaves.ensures s now in
    omega (
      arith,
      now.wide,
      left_below c.args.variables _ (get_or c.args.hints.now c.loop-place.place 0) c.in-Some.clause.now s c.in-Leaves.literal
          c.requires.within e.0 e.1 left.0,
    )

pub assume-requires-clause-denied : goal.assume-requires-clause-denied
assume-requires-clause-denied c =
    let (s, now) = c.loop-place.invariant.0 in
    let e = c.in-Some.ensures in
    let left = c.in-Leaves.ensures s now in
    omega (
      arith,
      now.as_wide,
      left_below c.args.variables _ (get_or c.args.hints.now c.loop-place.place 0) c.in-Some.clause.now s c.in-Leaves.literal
          c.requires.within e.0 e.1 left.0,
    )

pub returns-in-False-clause-found : goal.returns-in-False-clause-found
returns-in-False-clause-found c = λ t h.
    let (u, now, r) = c.loop-place.invariant.1 t h in
    reaches_false _ t u c.args.hints.now c.loop-place.place (get_or c.args.hints.now c.loop-place.place 0)
    (omega (arith, c.if-place-hints.true)) (read c.args.hints.now c.loop-place.place c.loop-place-test.true)
    (let e = c.in-Some.ensures in e.0)
    (subst (IsFalse u) (let e = c.in-Some.ensures in e.1) (c.in-False.ensures u now)) r

pub returns-in-False-2-clause-found : goal.returns-in-False-2-clause-found
returns-in-False-2-clause-found c = λ t h.
    let (u, now, r) = c.loop-place.invariant.1 t h in
    let e = c.in-Some.ensures in
    reaches_early _ t u c.args.hints.now c.loop-place.place (get_or c.args.hints.now c.loop-place.place 0)
    (omega (arith, c.loop-place-test.true, c.if-place-hints.false))
    (read c.args.hints.now c.loop-place.place c.loop-place-test.true) e.0 (subst (IsFalse u) e.1 (c.in-False-2.ensures u now)) r

pub returns-in-Stuck-clause-found : goal.returns-in-Stuck-clause-found
returns-in-Stuck-clause-found c = λ t h.
    let (u, now, r) = c.loop-place.invariant.1 t h in
    let e = c.in-Some.ensures in
    reaches_stuck _ t u c.args.hints.now c.loop-place.place (get_or c.args.hints.now c.loop-place.place 0) c.loop-place-test.true
    (read c.args.hints.now c.loop-place.place c.loop-place-test.true) e.0 (subst (IsStuck u) e.1 (c.in-Stuck.ensures u now)) r

pub loop-place-preserved : goal.loop-place-preserved
loop-place-preserved c = (
  (let (s, now) = c.loop-place.invariant.0 in (s ++ c.in-Leaves.literal ∷ [], c.assume.ensures.tells c.args.variables s now)),
  λ t h.
      let (u, now, r) = c.loop-place.invariant.1 t h in
      let e = c.in-Some.ensures in
      let left = c.in-Leaves.ensures u now in
      let one : suc c.loop-place.place ≡ c.loop-place.place + 1 = omega arith in (
        u ++ c.in-Leaves.literal ∷ [],
        c.assume.ensures.tells c.args.variables u now,
        subst (λ n. Reaches (with_entries c.args.before.given.now c.args.before.entries.now) t c.args.hints.now n (u ++ c.in-Leaves.literal ∷ [])) one
            (reaches_next _ t u c.args.hints.now c.loop-place.place (get_or c.args.hints.now c.loop-place.place 0) c.in-Leaves.literal
            c.loop-place-test.true (read c.args.hints.now c.loop-place.place c.loop-place-test.true) e.0
            (subst (λ d. IsLeft u d c.in-Leaves.literal) e.1 left.0) left.1 r),
      ),
  c.assume.ensures.round ∙ c.loop-place.invariant.2,
)

pub returns-clause-found : goal.returns-clause-found
returns-clause-found c = λ t h.
    let (u, now, r) = c.loop-place.invariant.1 t h in
    reaches_end _ t u c.args.hints.now c.loop-place.place c.loop-place-test.false r
