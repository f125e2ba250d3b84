use Rattle.wh_system.specs.SystemView.{system_data}
use Rattle.wh_test_finders.proofs.ReadAndTyped.{proper}
use Rattle.wh_test_finders.proofs.polynomial_rows.is_worth_under.Goals as goal

pub is_worth-requires : goal.is_worth-requires
is_worth-requires c =
    proper (system_data c.args.system.now) c.in_ok-symbols.symbols.items c.as_slice.result.now c.as_slice-2.result.now c.as_slice.ensures.value
    c.as_slice-2.ensures.value c.interpretations_in_order_interpret.ensures c.in_ok-symbols.ensures c.in_ok-demand_normal.ensures
