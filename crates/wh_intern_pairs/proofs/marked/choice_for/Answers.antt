use Rattle.std.proofs.Common.{rules}
use Rattle.std.proofs.lemmas.List.Sorted.{answers_always}
use Rattle.wh_intern_pairs.proofs.ChosenAt.{choice_there, choice_missing}
use Rattle.wh_intern_pairs.proofs.marked.choice_for.Goals as goal

-- the closure gives the symbol of a choice
pub returns-in-Ok : goal.returns-in-Ok
returns-in-Ok c =
    choice_there c.args.args.now c.args.symbol c.in-Ok.place c.requires c.in-Ok.ensures.bound
    (c.in-Ok.ensures.position (λ choice. choice.symbol) (answers_always _ _ _ (λ f a r g called. search rules)))

pub returns-in-Err : goal.returns-in-Err
returns-in-Err c =
    choice_missing c.args.args.now c.args.symbol c.in-Err.field-0 c.requires c.in-Err.ensures.bound
    (c.in-Err.ensures.position (λ choice. choice.symbol) (answers_always _ _ _ (λ f a r g called. search rules)))
