use Rattle.std.proofs.Common.{map, inl, inr, refl, not, ap}
use Rattle.wh_subterm.specs.SubtermRows.{chosen}
use Rattle.wh_subterm.proofs.ProjectionLemmas.{unprojected, decreasing_part, decreasing_same, decreasing_cases}
use Rattle.wh_intern.specs.TableTrees.{trees}
use Rattle.wh_intern.specs.Trees.{tree_at}
use Rattle.wh_intern_pairs.specs.SidesAsPairs.{as_pair}
use Rattle.wh_intern_pairs.proofs.ChosenNumbers.{tree_projected, no_tree_projected, chosen_below}
use Rattle.wh_intern_pairs.proofs.decrease.is_decreasing.Goals as goal

pub has_part_as_asked-requires-clause-whole : goal.has_part_as_asked-requires-clause-whole
has_part_as_asked-requires-clause-whole c =
    chosen_below (map chosen c.args.args.now) c.args.pair.now.left_fun c.args.pair.now.left c.in-Some.left _ c.in-Some.ensures c.requires.pair.left

pub has_part_as_asked-requires-clause-part : goal.has_part_as_asked-requires-clause-part
has_part_as_asked-requires-clause-part c =
    chosen_below (map chosen c.args.args.now) c.args.pair.now.right_fun c.args.pair.now.right c.in-Some-projected.right _ c.in-Some-projected.ensures
    c.requires.pair.right

pub is_same-requires-clause-left : goal.is_same-requires-clause-left
is_same-requires-clause-left c =
    chosen_below (map chosen c.args.args.now) c.args.pair.now.left_fun c.args.pair.now.left c.in-Some.left _ c.in-Some.ensures c.requires.pair.left

pub is_same-requires-clause-right : goal.is_same-requires-clause-right
is_same-requires-clause-right c =
    chosen_below (map chosen c.args.args.now) c.args.pair.now.right_fun c.args.pair.now.right c.in-Some-projected.right _ c.in-Some-projected.ensures
    c.requires.pair.right

pub returns-in_default-clause-decreasing : goal.returns-in_default-clause-decreasing
returns-in_default-clause-decreasing c =
    let ts = trees c.args.table.now in
    let args = map chosen c.args.args.now in
    let pair = c.args.pair.now in (
      λ no_way. cc,
      λ decreasing. absurd (unprojected args (as_pair ts pair) c.args.dropped
          (λ t u left right. no_tree_projected args pair.left_fun pair.left ts c.in_default.ensures t left) decreasing),
    )

pub returns-in_default-projected-clause-decreasing : goal.returns-in_default-projected-clause-decreasing
returns-in_default-projected-clause-decreasing c =
    let ts = trees c.args.table.now in
    let args = map chosen c.args.args.now in
    let pair = c.args.pair.now in (
      λ no_way. cc,
      λ decreasing. absurd (unprojected args (as_pair ts pair) c.args.dropped
          (λ t u left right. no_tree_projected args pair.right_fun pair.right ts c.in_default-projected.ensures u right) decreasing),
    )

pub returns-then-has_part_as_asked-clause-decreasing : goal.returns-then-has_part_as_asked-clause-decreasing
returns-then-has_part_as_asked-clause-decreasing c =
    let ts = trees c.args.table.now in
    let args = map chosen c.args.args.now in
    let pair = c.args.pair.now in
    let left = tree_projected args pair.left_fun pair.left c.in-Some.left ts c.in-Some.ensures in
    let right = tree_projected args pair.right_fun pair.right c.in-Some-projected.right ts c.in-Some-projected.ensures in (
      λ _. decreasing_part args (as_pair ts pair) (tree_at ts c.in-Some.left) (tree_at ts c.in-Some-projected.right) c.args.dropped left right
          (c.has_part_as_asked.ensures.part.0 c.if-has_part_as_asked.true),
      λ _. refl,
    )

pub returns-then-not-dropped-clause-decreasing : goal.returns-then-not-dropped-clause-decreasing
returns-then-not-dropped-clause-decreasing c =
    let ts = trees c.args.table.now in
    let args = map chosen c.args.args.now in
    let pair = c.args.pair.now in
    let a = as_pair ts pair in
    let t = tree_at ts c.in-Some.left in
    let u = tree_at ts c.in-Some-projected.right in
    let left = tree_projected args pair.left_fun pair.left c.in-Some.left ts c.in-Some.ensures in
    let right = tree_projected args pair.right_fun pair.right c.in-Some-projected.right ts c.in-Some-projected.ensures in (
      λ is. decreasing_same args a t u c.args.dropped c.if-not-dropped.true left right (c.is_same.ensures.0 is),
      λ decreasing. elim (decreasing_cases args a t u c.args.dropped c.requires.args left right decreasing) [
        | inl part ↦ cc (c.has_part_as_asked.ensures.part.1 part, c.if-has_part_as_asked.false)
        | inr equal ↦ c.is_same.ensures.1 equal.1
      ],
    )

pub returns-else-not-dropped-clause-decreasing : goal.returns-else-not-dropped-clause-decreasing
returns-else-not-dropped-clause-decreasing c =
    let ts = trees c.args.table.now in
    let args = map chosen c.args.args.now in
    let pair = c.args.pair.now in
    let a = as_pair ts pair in
    let t = tree_at ts c.in-Some.left in
    let u = tree_at ts c.in-Some-projected.right in
    let left = tree_projected args pair.left_fun pair.left c.in-Some.left ts c.in-Some.ensures in
    let right = tree_projected args pair.right_fun pair.right c.in-Some-projected.right ts c.in-Some-projected.ensures in (
      λ is. cc (ap not c.if-not-dropped.false, is),
      λ decreasing. elim (decreasing_cases args a t u c.args.dropped c.requires.args left right decreasing) [
        | inl part ↦ cc (c.has_part_as_asked.ensures.part.1 part, c.if-has_part_as_asked.false)
        | inr equal ↦ cc (equal.0, c.if-not-dropped.false)
      ],
    )
