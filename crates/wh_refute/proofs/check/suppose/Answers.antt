use Rattle.std.proofs.Common.{◌∙◌, ◌<◌, ◌++◌, ◌∷◌, [], ℕ, List, ap, sym, subst, refl, length, length-append, get_or, map, take, inl, inr, arith}
use Rattle.std.proofs.lemmas.Bool.{cases_lt}
use Rattle.std.proofs.lemmas.List.{get_or_append_left, map-append}
use Rattle.std.proofs.Math.Seq.{get_or-append_seam}
use Rattle.wh_sat_trail.specs.declared.literal.Literal.{Literal}
use Rattle.wh_sat_trail.specs.Assignment.{AllBelow, negated}
use Rattle.wh_sat_trail.specs.Watch.{nothing}
use Rattle.wh_sat_trail.proofs.Guarding.{member_at}
use Rattle.wh_refute.specs.Told.{Tells}
use Rattle.wh_refute.proofs.Members.{next}
use Rattle.wh_refute.proofs.check.suppose.Goals as goal

below_push : (n : ℕ) (xs : List Literal) (x : Literal) → AllBelow n xs → x.variable < n → AllBelow n (xs ++ x ∷ [])
below_push n xs x b w i d h = elim (cases_lt i (length xs)) [
  | inl before ↦ subst (λ (y : Literal). y.variable < n) (sym (get_or_append_left xs (x ∷ []) d i before)) (b i d before)
  | inr behind ↦ subst (λ (y : Literal). y.variable < n)
      (sym (ap (λ k. get_or (xs ++ x ∷ []) k d) (omega (arith, h, behind, length-append xs (x ∷ []))) ∙ get_or-append_seam xs x [] d)) w
]

pub returns-then-literal-variables-clause-found : goal.returns-then-literal-variables-clause-found
returns-then-literal-variables-clause-found c = (
  refl,
  (
    get_or c.args.clause.now c.loop-literal.literal-index nothing,
    member_at c.args.clause.now c.loop-literal.literal-index nothing c.loop-literal-test.true,
    c.if-literal-variables.true,
  ),
)

pub loop-literal-preserved : goal.loop-literal-preserved
loop-literal-preserved c =
    let xs = take c.loop-literal.literal-index c.args.clause.now in
    let x = get_or c.args.clause.now c.loop-literal.literal-index nothing in
    let one = next c.args.clause.now c.loop-literal.literal-index nothing c.loop-literal-test.true in (
      subst (AllBelow c.args.variables) (sym one)
          (below_push c.args.variables xs x c.loop-literal.invariant.0 c.if-literal-variables.false),
      subst (Tells c.args.variables c.assume.new.self)
          (ap (λ y. map negated xs ++ y ∷ []) c.negation.ensures ∙ sym (ap (map negated) one ∙ map-append negated xs (x ∷ [])))
          (c.assume.ensures.tells c.args.variables (map negated xs) c.loop-literal.invariant.1),
      c.assume.ensures.round ∙ c.loop-literal.invariant.2,
    )
