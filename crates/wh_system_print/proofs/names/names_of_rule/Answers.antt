use Rattle.std.proofs.Common.{◌≡◌, ◌++◌, [], get_or, sym, ◌∙◌}
use Rattle.std.proofs.lemmas.List.{append-nil}
use Rattle.std.proofs.lemmas.Option.{get_or_from_slice_get}
use Rattle.wh_system.specs.SystemView.{system_data}
use Rattle.wh_system_print.proofs.names.names_of_rule.Goals as goal

pub returns : goal.returns
returns c =
    let d = system_data c.args.system.now in
    let own : c.meta_names.result.now ++ [] ≡ get_or d.meta_names c.args.rule [] =
    append-nil c.meta_names.result.now ∙ sym (get_or_from_slice_get d.meta_names c.args.rule c.meta_names.result.now [] c.meta_names.ensures) in
    cc
