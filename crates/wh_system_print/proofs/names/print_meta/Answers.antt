use Rattle.std.proofs.Common.{refl, ◌-◌, length}
use Rattle.wh_text.proofs.PrintLemmas.{on_ok}
use Rattle.wh_system_print.proofs.FreshNames.{fresh_pushed}
use Rattle.wh_system_print.proofs.names.print_meta.Goals as goal

pub returns : goal.returns
returns c =
    let names = c.args.names.now in
    on_ok c.print_number.result _ _
    (fresh_pushed names.own.now names.fresh c.args.meta (c.args.meta - length names.own.now)
    c.args.out.now c.push.new.self c.print_number.new.out c.if-meta-own.false c.requires refl c.in_ok-push.ensures.ok)
    c.print_number.ensures
