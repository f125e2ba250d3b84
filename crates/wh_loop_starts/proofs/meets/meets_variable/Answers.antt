-- What stands in the place of a variable joins the table.
use Rattle.std.proofs.Common.{length, refl, ap, ◌∙◌}
use Rattle.std.proofs.lemmas.Option.{slice_get_read}
use Rattle.wh_types.specs.Erase.{ty}
use Rattle.wh_terms.specs.Erase.{tm}
use Rattle.std.proofs.Common.{Some}
use Rattle.wh_loop_starts.proofs.MeetLemmas.{variable_new, variable_from}
use Rattle.wh_loop_starts.proofs.meets.meets_variable.Goals as goal

pub returns-in-None-clause-told : goal.returns-in-None-clause-told
returns-in-None-clause-told c =
    let old = c.args.table.now.items in
    let empty = slice_get_read old (length old) c.args.number c.index.result.now refl c.requires c.index.ensures ∙ ap Some c.in-None.is in
    variable_new old _ c.args.number (ty c.args.kind.now) (record { kind = c.args.kind; value = c.args.part }) (tm c.args.part.now) c.requires empty refl refl

pub returns-in-None-clause-from : goal.returns-in-None-clause-from
returns-in-None-clause-from c =
    variable_from c.args.table.now.items _ c.args.number (ty c.args.kind.now) (record { kind = c.args.kind; value = c.args.part }) c.requires refl refl
