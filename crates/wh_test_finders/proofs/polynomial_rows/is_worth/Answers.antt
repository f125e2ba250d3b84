use Rattle.std.proofs.Common.{map, length, refl, ap, sym, ◌∙◌}
use Rattle.std.proofs.lemmas.Option.{slice_get_read, slice_get_within}
use Rattle.wh_types.specs.Erase.{ty}
use Rattle.wh_terms.specs.Erase.{tm}
use Rattle.wh_system.specs.SystemView.{system_data}
use Rattle.wh_intern.specs.TableTrees.{trees}
use Rattle.wh_test_finders.proofs.ReadAndTyped.{left_typed}
use Rattle.wh_test_finders.proofs.polynomial_rows.is_worth.Goals as goal

pub side_by_number-worth-requires-clause-proper : goal.side_by_number-worth-requires-clause-proper
side_by_number-worth-requires-clause-proper c = c.requires

pub side_by_number-worth-requires-clause-number : goal.side_by_number-worth-requires-clause-number
side_by_number-worth-requires-clause-number c =
    slice_get_within (trees c.add.new.self) c.in_ok-number.number (tm c.in-Some.item.now.left) c.in_ok-number.ensures.number

pub side_by_number-worth-requires-clause-typed : goal.side_by_number-worth-requires-clause-typed
side_by_number-worth-requires-clause-typed c =
    let rules = c.rules.result.now in
    let rule = c.in-Some.item.now in
    left_typed (system_data c.args.system.now) c.is_well_made.ensures rules c.args.rule rule c.rules.ensures
    (slice_get_read rules (length rules) c.args.rule rule refl c.in-Some.ensures.lookup.3.0 c.in-Some.ensures.lookup.1) (trees c.add.new.self)
    c.in_ok-number.number c.in_ok-number.ensures.number (map ty c.as_slice.result.now)
    (c.in_ok-scope.ensures ∙ ap (map ty) (sym c.as_slice.ensures.value))
