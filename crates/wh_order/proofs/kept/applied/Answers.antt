use Rattle.std.proofs.Common.{arith, sym, ◌∙◌, ◌≢◌}
use Rattle.std.proofs.lemmas.Bool.{eqb-true, eqb-false}
use Rattle.wh_order.proofs.KeptLemmas.{alone_spine, apply_spine}
use Rattle.wh_order.proofs.kept.applied.Goals as goal

pub returns-then-is_empty : goal.returns-then-is_empty
returns-then-is_empty c =
    alone_spine c.args.head c.args.behind.items (omega (arith, eqb-true c.args.behind.len 0 (sym c.is_empty.ensures ∙ c.if-is_empty.true), c.args.behind.ok.0))

pub returns : goal.returns
returns c =
    let some : c.args.behind.len ≢ 0 = eqb-false c.args.behind.len 0 (sym c.is_empty.ensures ∙ c.if-is_empty.false) in
    apply_spine c.args.head c.args.behind.items c.in_ok-items.items c.in_ok-new.field-0 c.in_ok-new.ensures.ok c.in_ok-items.ensures (omega (arith, some, c.args.behind.ok.0))
