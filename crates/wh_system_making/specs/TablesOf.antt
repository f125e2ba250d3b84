-- Tables of names that number the sorts and symbols of a system.
use Rattle.std.specs.Prelude.{◌≡◌}
use Rattle.wh_system.specs.Systems.{SystemData}
use Rattle.wh_system_making.specs.declared.resolving.NameTables.{NameTables}

pub record AreTablesOf (d : SystemData) (tables : NameTables) : Type 0 where
  -- the names of its sorts
  pub sorts : tables.sorts ≡ d.sort_names
  -- the names of its symbols
  pub funs : tables.funs ≡ d.fun_names
