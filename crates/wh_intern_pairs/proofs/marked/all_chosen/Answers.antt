use Rattle.std.proofs.Common.{ℕ, map, get_or, Contains, refl, subst}
use Rattle.wh_intern_pairs.specs.SidesAsPairs.{heads_of}
use Rattle.wh_pairs.specs.Marked.{Heads, HeadsASide}
use Rattle.wh_subterm.specs.SubtermRows.{chosen, chosen_symbols}
use Rattle.wh_pairs.proofs.ByPlace.{some_one, read_map, number_at, contains_number, before_more, before_all}
use Rattle.wh_intern_pairs.proofs.marked.all_chosen.Goals as goal

pub returns-then-not-has_choices : goal.returns-then-not-has_choices
returns-then-not-has_choices c =
    let set = c.args.set.now in
    let i = c.loop-number.number-index in
    let n = get_or set i 0 in
    let at = read_map heads_of c.args.sides.now n c.index-sides-number.result (c.requires.set i 0 c.loop-number-test.true) c.index-sides-number.is in (
      λ no_way. cc,
      λ all. cc (c.has_choices.ensures.1 (λ f heads. all f (n, contains_number set i c.loop-number-test.true, (heads_of c.index-sides-number.result, at, heads))), c.if-not-has_choices.true),
    )

pub loop-number-preserved : goal.loop-number-preserved
loop-number-preserved c =
    let set = c.args.set.now in
    let i = c.loop-number.number-index in
    let n = get_or set i 0 in
    let ps = map heads_of c.args.sides.now in
    let at = read_map heads_of c.args.sides.now n c.index-sides-number.result (c.requires.set i 0 c.loop-number-test.true) c.index-sides-number.is in
    before_more (λ m. (f : ℕ) → Heads ps f m → Contains (chosen_symbols (map chosen c.args.args.now)) f) set i n c.loop-number.invariant (number_at set i c.loop-number-test.true)
    (λ f (a, here, heads). c.has_choices.ensures.0 c.if-not-has_choices.false f (subst (HeadsASide f) (some_one here at) heads))

pub returns : goal.returns
returns c =
    let ps = map heads_of c.args.sides.now in (
      λ _ f (n, found, heads). before_all (λ m. (g : ℕ) → Heads ps g m → Contains (chosen_symbols (map chosen c.args.args.now)) g) c.args.set.now c.loop-number.number-index n c.loop-number.invariant c.loop-number-test.false found f heads,
      λ _. refl,
    )
