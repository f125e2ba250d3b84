-- `Says`: the parts of a text say this system.
use Rattle.std.specs.Prelude.{◌≡◌, List, [], ◌∷◌, Some, length, map}
use Rattle.wh_terms.specs.Rules.{RewriteRule}
use Rattle.wh_system_parts.specs.Parts.{RParts, RRule}
use Rattle.wh_system_parts.specs.Naming.{meant}
use Rattle.wh_system_parts.specs.RuleTests.{scope_of}
use Rattle.wh_system.specs.Systems.{SystemData}

-- the rule that a raw rule says: its sides are what their names stand for
pub record SaysRule (p : RParts) (r : RRule) (rule : RewriteRule) : Type 0 where
  pub metas : rule.metas ≡ (scope_of p r).declared
  pub left : meant (scope_of p r) [] r.left ≡ Some rule.left
  pub right : meant (scope_of p r) [] r.right ≡ Some rule.right

abbrev pub SayRules : RParts → List RRule → List RewriteRule → Type 0
SayRules p [] [] = Unit {0}
SayRules p (r ∷ rs) (u ∷ us) = SaysRule p r u × SayRules p rs us
SayRules p _ _ = ⊥

-- the system that parts say
pub record Says (p : RParts) (s : SystemData) : Type 0 where
  pub sort_names : s.sort_names ≡ map (λ n. n.name) p.sorts
  pub fun_names : s.fun_names ≡ map (λ f. f.name.name) p.funs
  pub sorts : s.symbols.sorts ≡ length p.sorts
  pub funs : (r : RRule) → s.symbols.funs ≡ (scope_of p r).kinds
  pub rules : SayRules p p.rules s.rules
  pub meta_names : s.meta_names ≡ map (λ r. map (λ m. m.name.name) r.metas) p.rules
