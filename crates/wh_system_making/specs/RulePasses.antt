-- The tests of one rule by groups, and what a rule that passes is resolved to (ours).
use Rattle.std.specs.Prelude.{ℕ, ◌==◌, ◌≡◌, not, Bool, false, List, [], ◌∷◌, ◌++◌, Option, Some, None, is_some, map}
use Rattle.wh_types.specs.Ty.{Ty}
use Rattle.wh_terms.specs.Erase.{tm, declared_metas}
use Rattle.wh_system_parts.specs.Parts.{RRule}
use Rattle.wh_system_parts.specs.declared.fault.SystemFault.TheVariants.{IllTyped, HeadNotFun}
use Rattle.wh_system_parts.specs.Faults.{Test}
use Rattle.wh_system_parts.specs.Declarations.{meta_count}
use Rattle.wh_system_parts.specs.Naming.{Scope, meant}
use Rattle.wh_system_parts.specs.Kinds.{kind_of}
use Rattle.wh_system_parts.specs.Tests.{test, term_offset, arguments_of, meta_tests, side_tests, naming_tests}
use Rattle.wh_system_parts.specs.RuleTests.{declared_by, same_kind, open_tests, head_symbol, pattern_tests, new_meta_tests}
use Rattle.wh_system_making.specs.declared.rules.ResolvedRule.{ResolvedRule}

-- what names may stand for in a rule of a system with these sorts, these symbols and their types
abbrev pub scope_over : List (List ℕ) → List (List ℕ) → List Ty → RRule → Scope
scope_over sorts funs kinds r = record {
  sorts = sorts;
  funs = funs;
  kinds = kinds;
  metas = map (λ m. m.name.name)
      r.metas;
  declared = map (declared_by sorts) r.metas;
}

-- names and types of the sides
abbrev pub sides_tests : Scope → RRule → List Test
sides_tests s r =
    naming_tests s [] r.left ++ naming_tests s [] r.right ++ test (not (same_kind (kind_of s [] r.left) (kind_of s [] r.right)))
    (IllTyped (term_offset r.right)) ∷ []

-- the form of the sides
abbrev pub form_tests : Scope → RRule → List Test
form_tests s r =
    open_tests r.left ++ open_tests r.right ++ test (not (is_some (head_symbol s r.left))) (HeadNotFun (term_offset r.left))
    ∷ (pattern_tests s [] r.left ++ new_meta_tests s r.left [] r.right)

-- all tests of the two sides: their limits, what their names stand for, and their form
abbrev pub both_tests : Scope → RRule → List Test
both_tests s r = (side_tests r.left ++ side_tests r.right) ++ (sides_tests s r ++ form_tests s r)

-- all tests of a rule that look at no other rule
abbrev pub own_tests : Scope → RRule → List Test
own_tests s r =
    (meta_count r.metas ++ meta_tests s.sorts s.funs [] r.metas) ++ both_tests s r

-- the number of arguments is not the one that is needed, if one is
abbrev pub differs : ℕ → Option ℕ → Bool
differs n None = false
differs n (Some m) = not (n == m)

-- a rule, its head and the number of its arguments, and the names of its meta-variables
pub record IsResolvedRule (s : Scope) (r : RRule) (done : ResolvedRule) : Type 0 where
  pub metas : declared_metas done.rule.metas ≡ s.declared
  pub left : meant s [] r.left ≡ Some (tm done.rule.left)
  pub right : meant s [] r.right ≡ Some (tm done.rule.right)
  pub head : head_symbol s r.left ≡ Some done.head
  pub count : done.count ≡ arguments_of r.left
  pub names : done.meta_names ≡ map (λ m. m.name.name) r.metas
