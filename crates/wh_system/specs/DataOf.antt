-- The system, as data, that names, a signature and rules make.
use Rattle.std.specs.Prelude.{List}
use Rattle.wh_terms.specs.Erase.{symbols, rewrite_rules}
use Rattle.wh_terms.specs.declared.rule.Rule.{Rule}
use Rattle.wh_terms.specs.declared.rule.Signature.{Signature}
use Rattle.wh_system.specs.declared.names.SystemNames.{SystemNames}
use Rattle.wh_system.specs.Systems.{SystemData}

abbrev pub data_of : SystemNames → Signature → List Rule → SystemData
data_of names signature rules = record {
  sort_names = names.sorts;
  fun_names = names.funs;
  symbols = symbols signature;
  rules = rewrite_rules rules;
  meta_names = names.metas.items;
}
