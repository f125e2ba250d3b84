-- What parts may declare (ours): each declared name is a name and no keyword, and types nest no deeper than a text of a
-- system may.
use Rattle.std.specs.Prelude.{◌≤◌, All}
use Rattle.wh_types.specs.Limits.{deepest_type}
use Rattle.wh_text.specs.Words.{IsName}
use Rattle.wh_system_parts.specs.Parts.{RParts}
use Rattle.wh_system.specs.Nesting.{raw_nesting, RawTypesNestEach, RawTypesNestWithin}

pub record AreProper (p : RParts) : Type 0 where
  -- each sort has a name
  pub sorts : All (λ s. IsName s.name) p.sorts
  -- each symbol has a name
  pub funs : All (λ f. IsName f.name.name) p.funs
  -- each meta-variable of each rule has a name
  pub metas : All (λ r. All (λ m. IsName m.name.name) r.metas) p.rules
  -- the type of each symbol nests at most 16 deep
  pub fun_types : All (λ f. raw_nesting f.kind ≤ deepest_type) p.funs
  -- types of meta-variables nest no deeper, in their brackets and behind them
  pub meta_types : All (λ r. All (λ m. RawTypesNestEach deepest_type m.args × (raw_nesting m.out ≤ deepest_type)) r.metas) p.rules
  -- types in sides nest no deeper, where they are parts
  pub side_types : All (λ r. RawTypesNestWithin deepest_type r.left × RawTypesNestWithin deepest_type r.right) p.rules
