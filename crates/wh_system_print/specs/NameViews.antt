-- The names that the printer of a rule or a pair holds.
use Rattle.std.specs.Prelude.{◌++◌}
use Rattle.wh_system.specs.Canonical.{Names}
use Rattle.wh_system_print.specs.declared.names.PrintedNames.{PrintedNames}
use Rattle.wh_system_print.specs.PairText.{fresh_names}

-- what a `PrintedNames` stands for
abbrev pub printed_names : PrintedNames → Names
printed_names n = record { sorts = n.sorts.now; funs = n.funs.now; metas = n.own.now ++ fresh_names 0 n.fresh }
