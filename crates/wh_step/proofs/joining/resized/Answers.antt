use Rattle.std.proofs.Common.{◌+◌, ◌-◌, ◌∙◌, arith}
use Rattle.wh_step.proofs.ContextLemmas.{resized_size, resized_within, resized_past, resized_none}
use Rattle.wh_step.proofs.joining.resized.Goals as goal

pub returns-then-whole-from : goal.returns-then-whole-from
returns-then-whole-from c path v t r known =
    let a = c.args in
    let sum = resized_size path v t r a.total a.old a.part a.joint known c.from.result (c.from.ensures ∙ known.part.sized) in
    resized_past path v t r a.total a.old a.part a.joint known (a.total - a.old + c.from.result) sum
    (omega (arith, c.if-whole-from.true, c.from-in-Some.ensures))

pub returns-else-whole-from : goal.returns-else-whole-from
returns-else-whole-from c path v t r known =
    let a = c.args in
    let sum = resized_size path v t r a.total a.old a.part a.joint known c.from.result (c.from.ensures ∙ known.part.sized) in
    resized_within path v t r a.total a.old a.part a.joint known (a.total - a.old + c.from.result) sum c.in-Some.field-0 c.in-Some.is
    (omega (arith, c.if-whole-from.false, c.from-in-Some.ensures))

pub returns-in-None : goal.returns-in-None
returns-in-None c path v t r known = resized_none path v t r c.args.total c.args.old c.args.part c.args.joint known c.in-None.is
