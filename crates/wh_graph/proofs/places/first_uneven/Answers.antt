use Rattle.std.proofs.Common.{length, get_or, inl, inr, subst}
use Rattle.std.proofs.lemmas.Bool.{cases_lt}
use Rattle.wh_graph.specs.Times.{IsUneven, TimesListed}
use Rattle.wh_graph.specs.declared.places.Times.{Times}
use Rattle.wh_pairs.proofs.ByPlace.{number_at, contains_number, place_of, before_more, before_all}
use Rattle.wh_pairs.proofs.Increasing.{smaller_earlier}
use Rattle.wh_graph.proofs.CountLemmas.{times_at}
use Rattle.wh_graph.proofs.TimesLemmas.{never_uneven, often_uneven, once_even}
use Rattle.wh_graph.proofs.places.first_uneven.Goals as goal

pub returns-in-Never : goal.returns-in-Never
returns-in-Never c =
    let set = c.args.set.now in
    let blocks = c.args.blocks.now in
    let i = c.loop-place.place in
    let n = get_or set i 0 in
    let at = number_at set i c.loop-place-test.true in
    let found = contains_number set i c.loop-place-test.true in
    let listed = times_at set blocks (length blocks) i n c.count-times.result c.count-times.ensures at in
    let times = λ (t : Times). TimesListed blocks n (length blocks) t in (
      elim c.in-Never.is [
        | inl is ↦ never_uneven set blocks n found (subst times is listed)
        | inr is ↦ often_uneven set blocks n found (subst times is listed)
      ],
      λ m uneven. elim (cases_lt m n) [
        | inl less ↦
            let there = place_of set m uneven.0 in
            absurd (c.loop-place.invariant there.0 m (smaller_earlier set there.0 i m n c.requires.increasing there.1 at less) there.1 uneven)
        | inr le ↦ le
      ],
    )

pub loop-place-preserved : goal.loop-place-preserved
loop-place-preserved c =
    let set = c.args.set.now in
    let blocks = c.args.blocks.now in
    let i = c.loop-place.place in
    let n = get_or set i 0 in
    let at = number_at set i c.loop-place-test.true in
    let listed = times_at set blocks (length blocks) i n c.count-times.result c.count-times.ensures at in
    before_more (λ m. IsUneven set blocks m → ⊥) set i n c.loop-place.invariant at
    (once_even set blocks n (subst (λ (t : Times). TimesListed blocks n (length blocks) t) c.in-Once.is listed))

pub returns : goal.returns
returns c =
    λ n uneven. before_all (λ m. IsUneven c.args.set.now c.args.blocks.now m → ⊥) c.args.set.now c.loop-place.place n c.loop-place.invariant c.loop-place-test.false uneven.0 uneven
