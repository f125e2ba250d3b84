use Rattle.std.proofs.Common.{zero, Contains, refl, ap, sym, subst, ◌∙◌, inl, inr, arith}
use Rattle.wh_subterm.proofs.PartLemmas.{part_from_argument, argument_from_part}
use Rattle.wh_intern.specs.Parts.{part_tree}
use Rattle.wh_intern.specs.TableTrees.{trees}
use Rattle.wh_intern.specs.Trees.{numbers, tree_at}
use Rattle.wh_intern_pairs.proofs.PartsByNumber.{app_has, app_cases, part_below}
use Rattle.wh_intern_pairs.proofs.parts.+parts.Goals as goal
use Rattle.wh_intern_pairs.proofs.parts.+parts.Goals.{some_argument_has-then-is_same, some_argument_has-else-is_same}

pub has_part-returns-then-whole-part : goal.has_part-returns-then-whole-part
has_part-returns-then-whole-part t c = (
  λ no_way. cc,
  λ part.
      let low = c.has_parts.ensures.low c.args.whole c.args.part c.requires.whole c.requires.part in
      absurd (omega (arith, part_below (trees c.args.table.now) c.args.whole c.args.part low part, c.if-whole-part.true)),
)

pub has_part-returns-then-is_headed_by_symbol : goal.has_part-returns-then-is_headed_by_symbol
has_part-returns-then-is_headed_by_symbol t c =
    let u = tree_at (trees c.args.table.now) c.args.part in
    let v = tree_at (trees c.args.table.now) c.args.whole in (
      λ is. part_from_argument u v (c.is_headed_by_symbol.ensures.0 c.if-is_headed_by_symbol.true) (c.some_argument_has.ensures.0 is),
      λ part. c.some_argument_has.ensures.1 (argument_from_part u v part).1,
    )

pub some_argument_has-is_same-requires-clause-left : goal.some_argument_has-is_same-requires-clause-left
some_argument_has-is_same-requires-clause-left t c =
    let low = c.part.ensures.below c.in-App.argument
    (subst (λ p. Contains (numbers (part_tree p)) c.in-App.argument) (sym c.in-App.is) (1, omega arith, refl)) in
    omega (arith, low, c.requires.whole)

pub some_argument_has-has_part-requires : goal.some_argument_has-has_part-requires
some_argument_has-has_part-requires t c =
    let low = c.part.ensures.below c.in-App.argument
    (subst (λ p. Contains (numbers (part_tree p)) c.in-App.argument) (sym c.in-App.is) (1, omega arith, refl)) in
    (omega (arith, low), (omega (arith, low, c.requires.whole), c.requires.part))

pub some_argument_has-some_argument_has-requires : goal.some_argument_has-some_argument_has-requires
some_argument_has-some_argument_has-requires t c =
    let low = c.part.ensures.below c.in-App.function
    (subst (λ p. Contains (numbers (part_tree p)) c.in-App.function) (sym c.in-App.is) (zero, omega arith, refl)) in
    (omega (arith, low), (omega (arith, low, c.requires.whole), c.requires.part))

pub some_argument_has-returns-then-has_part : goal.some_argument_has-returns-then-has_part
some_argument_has-returns-then-has_part t c =
    let ts = trees c.args.table.now in
    let u = tree_at ts c.args.part in (
      λ _. app_has ts c.args.whole (part_tree c.part.result.now) c.part.ensures.tree c.in-App.function c.in-App.argument (ap part_tree c.in-App.is) u
          (inl (elim c.if-is_same.branch [
            | some_argument_has-then-is_same w ↦ inl (c.is_same.ensures.0 w.if-is_same.true)
            | some_argument_has-else-is_same w ↦ inr (w.has_part.ensures.0 (sym w.value-is ∙ c.if-has_part.true))
          ])),
      λ _. c.if-has_part.true,
    )

pub some_argument_has-returns-else-has_part : goal.some_argument_has-returns-else-has_part
some_argument_has-returns-else-has_part t c =
    let ts = trees c.args.table.now in
    let u = tree_at ts c.args.part in
    let p = part_tree c.part.result.now in
    let is = ap part_tree c.in-App.is in (
      λ has. app_has ts c.args.whole p c.part.ensures.tree c.in-App.function c.in-App.argument is u (inr (c.some_argument_has.ensures.0 has)),
      λ has. elim (app_cases ts c.args.whole p c.part.ensures.tree c.in-App.function c.in-App.argument is u has) [
        | inl here ↦ elim c.if-is_same.branch [
          | some_argument_has-then-is_same w ↦ cc (w.value-is, c.if-has_part.false)
          | some_argument_has-else-is_same w ↦ elim here [
            | inl same ↦ cc (c.is_same.ensures.1 same, w.if-is_same.false)
            | inr part ↦ cc (w.has_part.ensures.1 part, w.value-is, c.if-has_part.false)
          ]
        ]
        | inr there ↦ c.some_argument_has.ensures.1 there
      ],
    )
