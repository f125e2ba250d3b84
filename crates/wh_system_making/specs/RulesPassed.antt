-- The rules and tables to which parts are resolved that pass all tests (ours).
use Rattle.std.specs.Prelude.{ℕ, ◌≡◌, Option, Some, length, map, slice_get}
use Rattle.wh_types.specs.Erase.{tys}
use Rattle.wh_terms.specs.Erase.{rewrite_rules}
use Rattle.wh_system_parts.specs.Parts.{RParts}
use Rattle.wh_system_parts.specs.Tests.{sort_names, fun_names}
use Rattle.wh_system_parts.specs.RuleTests.{type_of_raw}
use Rattle.wh_system_making.specs.declared.rules.ResolvedRules.{ResolvedRules}
use Rattle.wh_system_making.specs.declared.resolution.Resolution.{Resolution}
use Rattle.wh_system.specs.Needs.{need_of}
use Rattle.wh_system_making.specs.Says.{SayRules}

-- the rules that the parts say, the names of their meta-variables, and what each symbol needs
pub record AreResolvedRules (p : RParts) (done : ResolvedRules) : Type 0 where
  pub rules : SayRules p p.rules (rewrite_rules done.rules.items)
  pub names : done.meta_names.items ≡ map (λ r. map (λ m. m.name.name) r.metas) p.rules
  pub each_need : length done.needs.items ≡ length p.funs
  pub needs : (f : ℕ) (n : Option ℕ) → slice_get done.needs.items f ≡ Some n → n ≡ need_of (rewrite_rules done.rules.items) f

-- the sorts, the symbols with their types, and the rules of the parts
pub record IsResolution (p : RParts) (done : Resolution) : Type 0 where
  pub sorts : done.sorts ≡ sort_names p
  pub funs : done.funs.names ≡ fun_names p
  pub kinds : tys done.funs.kinds ≡ map (λ f. type_of_raw (sort_names p) f.kind) p.funs
  pub rules : AreResolvedRules p done.rules
