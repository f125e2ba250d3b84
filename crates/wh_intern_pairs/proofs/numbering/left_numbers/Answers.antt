-- The numbers of the pair before, or new ones.
use Rattle.std.proofs.Common.{◌≡◌, map, Some, slice_get, ap, sym, subst, ◌∙◌}
use Rattle.std.proofs.lemmas.Result.{IfOk-weaker}
use Rattle.wh_terms.specs.Erase.{tm}
use Rattle.wh_pairs.specs.PairData.{PairData, pair_data}
use Rattle.wh_pairs.specs.declared.pair.Pair.{Pair}
use Rattle.wh_intern.specs.declared.sides.Sides.{Sides}
use Rattle.wh_intern.specs.TableTrees.{trees}
use Rattle.wh_intern_pairs.specs.NumberedSides.{AreNumbersOf, IsPartOfOne, IsPartOfSides}
use Rattle.wh_intern_pairs.proofs.JoinLaws.{joins_as}
use Rattle.wh_intern_pairs.proofs.EntryLaws.{left_parts, left_made, left_taken, place_before}
use Rattle.wh_intern_pairs.proofs.numbering.left_numbers.Goals as goal

pub returns-then-follows_its_rule-clause-numbers : goal.returns-then-follows_its_rule-clause-numbers
returns-then-follows_its_rule-clause-numbers c =
    let a = trees c.args.table.now in
    let xs = c.args.pairs.now in
    let i = c.args.place in
    let done = c.args.before.now in
    let s = c.index-before-place.result in
    let (d, has) = c.requires.pairs in
    let some = c.follows_its_rule.ensures.some c.if-follows_its_rule.true in
    IfOk-weaker c.copied.result (λ ns. ns ≡ c.as_slice.result.now)
    (λ ns. (p : PairData) → slice_get (map pair_data xs) i ≡ Some p → AreNumbersOf a ns p.left)
    (λ ns e p at. subst (λ ms. AreNumbersOf a ms p.left) (sym (e ∙ c.as_slice.ensures ∙ ap (λ (z : Sides). z.left) (sym c.index-before-place.is)))
    (left_taken d a xs i done s p has c.requires.before some (place_before a xs i done c.requires.before c.requires.within some)
    c.index-before-place.is (c.follows_its_rule.ensures.one c.if-follows_its_rule.true) at)) c.copied.ensures

pub returns-else-follows_its_rule-clause-numbers : goal.returns-else-follows_its_rule-clause-numbers
returns-else-follows_its_rule-clause-numbers c =
    let b = trees c.numbers_of.new.table in
    let xs = c.args.pairs.now in
    let us = c.as_slice-else-follows_its_rule.result.now in
    IfOk-weaker c.numbers_of.result (λ ns. AreNumbersOf b ns (map tm us))
    (λ ns. (p : PairData) → slice_get (map pair_data xs) c.args.place ≡ Some p → AreNumbersOf b ns p.left)
    (λ ns e p at. left_made b xs c.args.place c.index-pairs-place.result c.requires.within c.index-pairs-place.is us
    (c.as_slice-else-follows_its_rule.ensures ∙ c.deref.ensures ∙ ap (λ (z : Pair). z.left.value) (sym c.index-pairs-place.is)) ns
    e p at) c.numbers_of.ensures.numbers

pub returns-else-follows_its_rule-clause-joins : goal.returns-else-follows_its_rule-clause-joins
returns-else-follows_its_rule-clause-joins c =
    let xs = c.args.pairs.now in
    let us = c.as_slice-else-follows_its_rule.result.now in
    joins_as (trees c.args.table.now) (trees c.numbers_of.new.table) (IsPartOfOne (map tm us)) (IsPartOfSides (map pair_data xs)) c.numbers_of.ensures.joins
    (left_parts xs c.args.place c.index-pairs-place.result c.requires.within c.index-pairs-place.is us
    (c.as_slice-else-follows_its_rule.ensures ∙ c.deref.ensures ∙ ap (λ (z : Pair). z.left.value) (sym c.index-pairs-place.is)))
