-- The tests and the names of parts, as passes over slices have them.
use Rattle.std.proofs.Common.{◌≡◌, ℕ, List, [], ◌++◌, map, ap, ap₂, sym, ◌∙◌}
use Rattle.wh_types.specs.Ty.{Ty}
use Rattle.wh_system_parts.specs.declared.parts.RawName.{RawName}
use Rattle.wh_system_parts.specs.declared.parts.RawFun.{RawFun}
use Rattle.wh_system_parts.specs.declared.parts.RawRule.{RawRule}
use Rattle.wh_system_parts.specs.Parts.{RName, RFun}
use Rattle.wh_system_parts.specs.Erase.{rname, rfun, rrule}
use Rattle.wh_system_parts.specs.Faults.{first_fault}
use Rattle.wh_system_parts.specs.Declarations.{sort_count, fun_count, rule_count}
use Rattle.wh_system_parts.specs.Tests.{names_tests, fun_tests}
use Rattle.wh_system_parts.specs.RuleTests.{type_of_raw}

pub sorts_along : (xs ys : List RawName) → xs ≡ ys
    → first_fault (sort_count (map rname ys) ++ names_tests [] [] (map rname ys)) ≡ first_fault (sort_count (map rname xs) ++ names_tests [] [] (map rname xs))
sorts_along xs ys e = ap (λ ns. first_fault (sort_count (map rname ns) ++ names_tests [] [] (map rname ns))) (sym e)

pub sort_names_along : (xs ys : List RawName) (names : List (List ℕ)) → xs ≡ ys → names ≡ map (λ s. s.name) (map rname xs) → names ≡ map (λ s. s.name) (map rname ys)
sort_names_along xs ys names e is = is ∙ ap (λ ns. map (λ (s : RName). s.name) (map rname ns)) e

pub funs_along : (sorts names : List (List ℕ)) (xs ys : List RawFun) → sorts ≡ names → xs ≡ ys
    → first_fault (fun_count (map rfun ys) ++ fun_tests names [] (map rfun ys)) ≡ first_fault (fun_count (map rfun xs) ++ fun_tests sorts [] (map rfun xs))
funs_along sorts names xs ys e f = ap₂ (λ ns fs. first_fault (fun_count (map rfun fs) ++ fun_tests ns [] (map rfun fs))) (sym e) (sym f)

pub fun_names_along : (xs ys : List RawFun) (names : List (List ℕ)) → xs ≡ ys → names ≡ map (λ f. f.name.name) (map rfun xs) → names ≡ map (λ f. f.name.name) (map rfun ys)
fun_names_along xs ys names e is = is ∙ ap (λ fs. map (λ (f : RFun). f.name.name) (map rfun fs)) e

pub kinds_along : (sorts names : List (List ℕ)) (xs ys : List RawFun) (kinds : List Ty) → sorts ≡ names → xs ≡ ys → kinds ≡ map (λ f. type_of_raw sorts f.kind) (map rfun xs)
    → kinds ≡ map (λ f. type_of_raw names f.kind) (map rfun ys)
kinds_along sorts names xs ys kinds e f is = is ∙ ap₂ (λ ns fs. map (λ (f : RFun). type_of_raw ns f.kind) (map rfun fs)) e f

pub rules_along : (xs ys : List RawRule) → xs ≡ ys → first_fault (rule_count (map rrule ys)) ≡ first_fault (rule_count (map rrule xs))
rules_along xs ys e = ap (λ rs. first_fault (rule_count (map rrule rs))) (sym e)
