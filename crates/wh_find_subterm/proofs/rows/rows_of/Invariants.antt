use Rattle.std.proofs.Common.{◌≡◌, ◌++◌, drop}
use Rattle.wh_system.specs.SystemView.{system_data}
use Rattle.wh_find_subterm.specs.Rows.{end_from, rows_from}
use Rattle.wh_find_subterm.proofs.rows.rows_of.Given as goal

abbrev pub invariant-loop-symbol : goal.invariant-loop-symbol
invariant-loop-symbol l = record {
  items : l.items.items ++ rows_from (system_data l.system).rules l.end (drop l.symbol-index l.symbols) ≡ rows_from (system_data l.system).rules 0 l.symbols;
  end : end_from (system_data l.system).rules l.end (drop l.symbol-index l.symbols) ≡ end_from (system_data l.system).rules 0 l.symbols;
}
