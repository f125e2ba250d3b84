-- What names stand for in a rule, as the pass over rules has it.
use Rattle.std.proofs.Common.{◌≡◌, ℕ, ◌≤◌, List, [], ◌∷◌, ◌++◌, map, None, ap, sym, ltb-false}
use Rattle.std.specs.Prelude.{nat_lt}
use Rattle.wh_types.specs.Ty.{Ty}
use Rattle.wh_terms.specs.Typing.{Declared}
use Rattle.wh_text.specs.RawTree.{RTm}
use Rattle.wh_system_parts.specs.declared.fault.SystemFault.TheVariants.{TooMany}
use Rattle.wh_system_parts.specs.declared.parts.RawMeta.{RawMeta}
use Rattle.wh_system_parts.specs.Parts.{RRule}
use Rattle.wh_system_parts.specs.Erase.{rmeta}
use Rattle.wh_system_parts.specs.Faults.{first_fault}
use Rattle.wh_system_parts.specs.Declarations.{meta_count}
use Rattle.wh_system_parts.specs.Naming.{Scope}
use Rattle.wh_system_parts.specs.Tests.{test, term_offset, width_of_term, raw_height, raw_size, meta_tests, side_tests}
use Rattle.wh_system_parts.specs.RuleTests.{declared_by}
use Rattle.wh_system_parts.proofs.FaultLemmas.{no_fault_in_second, no_fault_at_test}
use Rattle.wh_system_making.specs.RulePasses.{scope_over}

-- a scope from its parts
abbrev pub scope_with : List (List ℕ) → List (List ℕ) → List Ty → List (List ℕ) → List Declared → Scope
scope_with sorts funs kinds metas declared = record { sorts = sorts; funs = funs; kinds = kinds; metas = metas; declared = declared }

pub scope_is : (sorts funs : List (List ℕ)) (kinds : List Ty) (r : RRule) (metas : List (List ℕ)) (declared : List Declared) → metas ≡ map (λ m. m.name.name) r.metas
    → declared ≡ map (declared_by sorts) r.metas → scope_with sorts funs kinds metas declared ≡ scope_over sorts funs kinds r
scope_is sorts funs kinds r metas declared named with_types = λ i. scope_with sorts funs kinds (named i) (with_types i)

-- the tests of declarations, over the list as a slice has it
pub declared_along : (sorts funs : List (List ℕ)) (xs ys : List RawMeta) → xs ≡ ys
    → first_fault (meta_count (map rmeta ys) ++ meta_tests sorts funs [] (map rmeta ys)) ≡ first_fault (meta_count (map rmeta xs) ++ meta_tests sorts funs [] (map rmeta xs))
declared_along sorts funs xs ys e = ap (λ ms. first_fault (meta_count (map rmeta ms) ++ meta_tests sorts funs [] (map rmeta ms))) (sym e)

-- a side within its limits has few enough parts
pub small_side : (t : RTm) → first_fault (side_tests t) ≡ None → raw_size t ≤ 65536
small_side t p =
    let low = test (nat_lt 200 (raw_height t)) (TooMany (term_offset t)) in
    let small = test (nat_lt 65536 (raw_size t)) (TooMany (term_offset t)) in
    let both = no_fault_in_second (width_of_term t) (low ∷ small ∷ []) p in
    let last = (no_fault_at_test (nat_lt 200 (raw_height t)) (TooMany (term_offset t)) (small ∷ []) both).1 in
    ltb-false 65536 (raw_size t) (no_fault_at_test (nat_lt 65536 (raw_size t)) (TooMany (term_offset t)) [] last).0
