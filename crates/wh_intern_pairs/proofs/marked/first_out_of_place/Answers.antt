use Rattle.std.proofs.Common.{map, get_or, refl}
use Rattle.std.proofs.lemmas.List.Elements.{Contains-get_or}
use Rattle.wh_system.specs.SystemView.{system_data}
use Rattle.wh_subterm.specs.SubtermRows.{IsPlace, chosen}
use Rattle.wh_pairs.proofs.ByPlace.{before_more, before_all, map_length}
use Rattle.wh_subterm.proofs.ChoiceLemmas.{choice, chosen_at}
use Rattle.wh_intern_pairs.proofs.marked.first_out_of_place.Goals as goal

pub returns-then-not-is_place : goal.returns-then-not-is_place
returns-then-not-is_place c =
    let args = c.args.args.now in
    let i = c.loop-choice.choice-index in
    (i, chosen (choice args i), chosen_at args i c.loop-choice-test.true, refl, λ is. cc (c.is_place.ensures.1 is, c.if-not-is_place.true), λ j d less at wrong. wrong (c.loop-choice.invariant j d less at))

pub loop-choice-preserved : goal.loop-choice-preserved
loop-choice-preserved c =
    let args = c.args.args.now in
    let i = c.loop-choice.choice-index in
    before_more (IsPlace (system_data c.args.system.now).rules) (map chosen args) i (chosen (choice args i)) c.loop-choice.invariant (chosen_at args i c.loop-choice-test.true)
    (c.is_place.ensures.0 c.if-not-is_place.false)

pub returns : goal.returns
returns c =
    λ k d within. before_all (IsPlace (system_data c.args.system.now).rules) (map chosen c.args.args.now) c.loop-choice.choice-index (get_or (map chosen c.args.args.now) k d) c.loop-choice.invariant
    (map_length chosen c.args.args.now c.loop-choice.choice-index c.loop-choice-test.false) (Contains-get_or (map chosen c.args.args.now) k d within)
