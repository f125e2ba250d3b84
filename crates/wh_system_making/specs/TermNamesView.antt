-- The names that a `TermNames` of the program holds.
use Rattle.wh_system_making.specs.declared.raw_trees.TermNames.{TermNames}
use Rattle.wh_system.specs.Canonical.{Names}

abbrev pub term_names : TermNames → Names
term_names n = record { sorts = n.sorts.now; funs = n.funs.now; metas = n.metas.now }
