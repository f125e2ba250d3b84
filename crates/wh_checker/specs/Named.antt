-- That the symbols and meta-variables that a rejection names are there.
use Rattle.std.specs.Prelude.{ℕ, ◌<◌, length, get_or, []}
use Rattle.wh_system.specs.Systems.{SystemData}
use Rattle.wh_checker.specs.declared.rejected.Rejected.{Rejected}
use Rattle.wh_checker.specs.declared.rejected.Rejected.TheVariants as row

-- the symbol has a name
abbrev pub HasSymbol : SystemData → ℕ → Type 0
HasSymbol d f = f < length d.fun_names

-- the rule is there, and the meta-variable of it has a name
abbrev pub HasMeta : SystemData → ℕ → ℕ → Type 0
HasMeta d r z = (r < length d.rules) × (z < length (get_or d.meta_names r []))

-- what the rejection names is there
abbrev pub NamesAreThere : SystemData → Rejected → Type 0
NamesAreThere d (row.Inaccessible r z) = HasMeta d r z
NamesAreThere d (row.NoProjection k f) = HasSymbol d f
NamesAreThere d (row.BadArgument k f) = HasSymbol d f
NamesAreThere d (row.BadPolynomial k f marked) = HasSymbol d f
NamesAreThere d (row.BadFilter k f marked) = HasSymbol d f
NamesAreThere d _ = Unit {0}
