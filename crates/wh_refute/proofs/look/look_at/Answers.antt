use Rattle.std.proofs.Common.{◌≡◌, ◌∙◌, ap, sym, subst, Bool, List, length, get_or, take, Option, Some, None, ℕ, ◌≤◌, arith}
use Rattle.std.proofs.lemmas.List.{take_all}
use Rattle.wh_sat_trail.specs.declared.literal.Literal.{Literal}
use Rattle.wh_sat_trail.specs.Assignment.{negated}
use Rattle.wh_sat_trail.specs.Member.{member}
use Rattle.wh_sat_trail.specs.Watch.{nothing}
use Rattle.wh_sat_trail.proofs.Looking.{lit_same, lit_other}
use Rattle.wh_refute.specs.Refuting.{IsLeft}
use Rattle.wh_refute.specs.RefuteFaults.{true_already}
use Rattle.wh_refute.specs.Told.{Scanned}
use Rattle.wh_refute.proofs.Members.{member_below}
use Rattle.wh_refute.proofs.Scanning.{next_false, next_open, next_again, next_two}
use Rattle.wh_refute.proofs.look.look_at.Goals.{in-None, in-Some+else-ne}
use Rattle.wh_refute.proofs.look.look_at.Goals as goal

-- whether the negation of the item is true
told : (n x : Literal) (t : List Literal) (r b : Bool) → n ≡ negated x → r ≡ member n t → r ≡ b → member (negated x) t ≡ b
told n x t r b is e f = ap (λ y. member y t) (sym is) ∙ sym e ∙ f

whole : (t c : List Literal) (i : ℕ) (left : Option Literal) → length c ≤ i → Scanned t (take i c) left → Scanned t c left
whole t c i left over s = subst (λ d. Scanned t d left) (take_all i c over) s

pub loop-literal-preserved-then-holds : goal.loop-literal-preserved-then-holds
loop-literal-preserved-then-holds c = λ t h.
    next_false t c.args.clause.now c.loop-literal.literal-index c.loop-literal.left c.loop-literal-test.true
    (told _ (get_or c.args.clause.now c.loop-literal.literal-index nothing) t c.holds.result _ c.negation.ensures
    (c.holds.ensures c.args.variables t h) c.if-holds.true) (c.loop-literal.invariant t h)

pub returns-then-ne : goal.returns-then-ne
returns-then-ne c = λ t h.
    next_two t c.args.clause.now c.loop-literal.literal-index c.in-Some.other c.loop-literal-test.true (lit_other _ _ c.if-ne.ensures)
    (told _ (get_or c.args.clause.now c.loop-literal.literal-index nothing) t c.holds.result _ c.negation.ensures
    (c.holds.ensures c.args.variables t h) c.if-holds.false)
    (subst (Scanned t (take c.loop-literal.literal-index c.args.clause.now)) c.in-Some.is (c.loop-literal.invariant t h))

pub loop-literal-preserved : goal.loop-literal-preserved
loop-literal-preserved c = λ t h.
    elim c.match-left.branch [
      | in-None w ↦ rw w.left-is (next_open t c.args.clause.now c.loop-literal.literal-index c.loop-literal-test.true
          (told _ (get_or c.args.clause.now c.loop-literal.literal-index nothing) t c.holds.result _ c.negation.ensures
          (c.holds.ensures c.args.variables t h) c.if-holds.false)
          (subst (Scanned t (take c.loop-literal.literal-index c.args.clause.now)) w.in-None.is (c.loop-literal.invariant t h)))
      | in-Some+else-ne w ↦ rw w.left-is (next_again t c.args.clause.now c.loop-literal.literal-index w.in-Some.other
          c.loop-literal-test.true (lit_same _ _ w.if-ne.ensures)
          (subst (Scanned t (take c.loop-literal.literal-index c.args.clause.now)) w.in-Some.is (c.loop-literal.invariant t h)))
    ]

pub holds-requires-in-Some-left-clause-told : goal.holds-requires-in-Some-left-clause-told
holds-requires-in-Some-left-clause-told c =
    let (t, h) = c.requires.tells in
    let s : IsLeft t c.args.clause.now c.in-Some-left.literal = whole t c.args.clause.now c.loop-literal.literal-index (Some c.in-Some-left.literal) c.loop-literal-test.false
    (subst (Scanned t (take c.loop-literal.literal-index c.args.clause.now)) c.in-Some-left.is (c.loop-literal.invariant t h)) in
    omega (arith, h.wide, member_below c.args.variables c.args.clause.now c.in-Some-left.literal c.requires.below s.in_clause)

pub holds-requires-in-Some-left-clause-denied : goal.holds-requires-in-Some-left-clause-denied
holds-requires-in-Some-left-clause-denied c =
    let (t, h) = c.requires.tells in
    let s : IsLeft t c.args.clause.now c.in-Some-left.literal = whole t c.args.clause.now c.loop-literal.literal-index (Some c.in-Some-left.literal) c.loop-literal-test.false
    (subst (Scanned t (take c.loop-literal.literal-index c.args.clause.now)) c.in-Some-left.is (c.loop-literal.invariant t h)) in
    omega (arith, h.as_wide, member_below c.args.variables c.args.clause.now c.in-Some-left.literal c.requires.below s.in_clause)

pub returns-in-None-left : goal.returns-in-None-left
returns-in-None-left c = λ t h.
    whole t c.args.clause.now c.loop-literal.literal-index None c.loop-literal-test.false
    (subst (Scanned t (take c.loop-literal.literal-index c.args.clause.now)) c.in-None-left.is (c.loop-literal.invariant t h))

pub returns-then-holds-2 : goal.returns-then-holds-2
returns-then-holds-2 c = λ t h.
    true_already c.in-Some-left.literal
    (whole t c.args.clause.now c.loop-literal.literal-index (Some c.in-Some-left.literal) c.loop-literal-test.false
    (subst (Scanned t (take c.loop-literal.literal-index c.args.clause.now)) c.in-Some-left.is (c.loop-literal.invariant t h)))
    (sym (c.holds-in-Some-left.ensures c.args.variables t h) ∙ c.if-holds-2.true)

pub returns-else-holds-2 : goal.returns-else-holds-2
returns-else-holds-2 c = λ t h. (
  whole t c.args.clause.now c.loop-literal.literal-index (Some c.in-Some-left.literal) c.loop-literal-test.false
      (subst (Scanned t (take c.loop-literal.literal-index c.args.clause.now)) c.in-Some-left.is (c.loop-literal.invariant t h)),
  sym (c.holds-in-Some-left.ensures c.args.variables t h) ∙ c.if-holds-2.false,
)
