-- A system as data: its names, its signature and its rules.
use Rattle.std.specs.Prelude.{ℕ, List}
use Rattle.wh_terms.specs.Typing.{Symbols}
use Rattle.wh_terms.specs.Rules.{RewriteRule}

-- a system: the names of its sorts and symbols, what terms are built over, and its rules with the names of their
-- meta-variables (Fuhs and Kop 2019; the names are part of it)
pub record SystemData : Type 0 where
  pub sort_names : List (List ℕ)
  pub fun_names : List (List ℕ)
  pub symbols : Symbols
  pub rules : List RewriteRule
  pub meta_names : List (List (List ℕ))
