-- The tests of declarations: of sorts, symbols and meta-variables one by one, and of their numbers (ours).
use Rattle.std.specs.Prelude.{ℕ, ◌||◌, List, ◌∷◌, ◌++◌, map}
use Rattle.wh_types.specs.Limits.{most_sorts, most_symbols, most_rules, most_metas}
use Rattle.wh_system_parts.specs.Parts.{RName, RFun, RMeta, RRule}
use Rattle.wh_system_parts.specs.declared.fault.SystemFault.TheVariants.{Twice}
use Rattle.wh_system_parts.specs.Faults.{Test}
use Rattle.wh_system_parts.specs.Naming.{is_declared}
use Rattle.wh_system_parts.specs.Tests.{test, type_tests, types_tests, count_of_types, count_test}

-- of a symbol, where the names `before` come before it
abbrev pub tests_of_fun : List (List ℕ) → List (List ℕ) → RFun → List Test
tests_of_fun sorts before f = test (is_declared before f.name.name) (Twice f.name.at) ∷ type_tests sorts f.kind

-- of a meta-variable, where the names `before` come before it
abbrev pub tests_of_meta : List (List ℕ) → List (List ℕ) → List (List ℕ) → RMeta → List Test
tests_of_meta sorts funs before m =
    test (is_declared before m.name.name || is_declared funs m.name.name) (Twice m.name.at)
    ∷ (count_of_types 0 m.args ++ types_tests sorts m.args ++ type_tests sorts m.out)

-- the number of sorts, of symbols, of a rule's meta-variables and of rules
abbrev pub sort_count : List RName → List Test
sort_count sorts = count_test most_sorts (map (λ s. s.at) sorts)

abbrev pub fun_count : List RFun → List Test
fun_count funs = count_test most_symbols (map (λ f. f.name.at) funs)

abbrev pub meta_count : List RMeta → List Test
meta_count metas = count_test most_metas (map (λ m. m.name.at) metas)

abbrev pub rule_count : List RRule → List Test
rule_count rules = count_test most_rules (map (λ r. r.at) rules)
