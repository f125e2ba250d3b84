use Rattle.std.proofs.Common.{map, refl}
use Rattle.wh_system.specs.SystemView.{system_data}
use Rattle.wh_subterm.specs.SubtermRows.{HasNone, chosen}
use Rattle.wh_pairs.proofs.ByPlace.{before_more, before_all, map_length}
use Rattle.wh_subterm.proofs.ChoiceLemmas.{choice, chosen_at}
use Rattle.wh_intern_pairs.proofs.marked.first_without_argument.Goals as goal

pub returns-then-needs_none : goal.returns-then-needs_none
returns-then-needs_none c =
    let args = c.args.args.now in
    let i = c.loop-choice.choice-index in
    (i, chosen (choice args i), chosen_at args i c.loop-choice-test.true, refl, c.needs_none.ensures.0 c.if-needs_none.true, λ j d less at. c.loop-choice.invariant j d less at)

pub loop-choice-preserved : goal.loop-choice-preserved
loop-choice-preserved c =
    let args = c.args.args.now in
    let i = c.loop-choice.choice-index in
    before_more (λ d. HasNone (system_data c.args.system.now).rules d → ⊥) (map chosen args) i (chosen (choice args i)) c.loop-choice.invariant (chosen_at args i c.loop-choice-test.true)
    (λ none. cc (c.needs_none.ensures.1 none, c.if-needs_none.false))

pub returns : goal.returns
returns c =
    λ d found. before_all (λ e. HasNone (system_data c.args.system.now).rules e → ⊥) (map chosen c.args.args.now) c.loop-choice.choice-index d c.loop-choice.invariant
    (map_length chosen c.args.args.now c.loop-choice.choice-index c.loop-choice-test.false) found
