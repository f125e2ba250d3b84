use Rattle.wh_checker.proofs.GoLemmas.{because_says}
use Rattle.wh_tell_nodes.proofs.values.are_normal.Goals as goal

pub returns-in-Ok : goal.returns-in-Ok
returns-in-Ok c = λ _. c.in-Ok.ensures.covering.normal

pub returns-in-Err-Because : goal.returns-in-Err-Because
returns-in-Err-Because c = λ yes.
    c.comes_later.ensures yes _ _ _
    (because_says c.in-Err-Because.field-0 c.in-Err-Because.fault _ c.in-Err-Because.field-0-is c.in-Err-Because.ensures.fault)
