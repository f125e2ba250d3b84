use Rattle.std.proofs.Common.{◌<◌, Some, false, inl, inr, length, get_or, slice_get, sym, ap, subst, ◌∙◌, arith}
use Rattle.std.proofs.lemmas.List.Elements.{All-get_or}
use Rattle.std.proofs.lemmas.Option.{slice_get_within, slice_get-get_or}
use Rattle.wh_pairs.proofs.ByPlace.{number_at, same_or_below, some_one}
use Rattle.wh_graph.specs.Walks.{IsSeen}
use Rattle.wh_graph.proofs.walk.first_unseen.Goals as goal

pub loop-place-preserved : goal.loop-place-preserved
loop-place-preserved c =
    let row = c.args.row.now in
    let seen = c.args.seen.now in
    let place = c.loop-place.place in
    let v = get_or row place 0 in
    let within : v < length seen = All-get_or (λ w. w < length seen) row place 0 c.loop-place-test.true c.requires in
    let has : IsSeen seen v = slice_get-get_or seen v false within ∙ ap Some c.if-not-seen-row.false in
    λ k w from below at. elim (same_or_below k place below) [
      | inl same ↦ subst (IsSeen seen) (some_one (number_at row place c.loop-place-test.true) (ap (slice_get row) (sym same) ∙ at)) has
      | inr less ↦ c.loop-place.invariant k w from less at
    ]

pub returns-clause-found : goal.returns-clause-found
returns-clause-found c = λ w at. let within = slice_get_within c.args.row.now (length c.args.row.now) w at in absurd (omega arith)
