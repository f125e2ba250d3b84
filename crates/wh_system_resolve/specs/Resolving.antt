-- The answers of the walk that resolves a side, part by part: a term with its type, or the first test that fails
-- (ours).
use Rattle.std.specs.Prelude.{◌==◌, ◌≡◌, ℕ, not, List, [], ◌∷◌, Option, Some, None, Result, map, option_map}
use Rattle.wh_types.specs.Ty.{Ty, same_ty}
use Rattle.wh_types.specs.Outcome.{MatchOr}
use Rattle.wh_types.specs.declared.want.Or.{Or}
use Rattle.wh_terms.specs.Tree.{Tm, meta}
use Rattle.wh_terms.specs.Erase.{tms}
use Rattle.wh_text.specs.RawTree.{RTm, RTms, more}
use Rattle.wh_system_parts.specs.declared.fault.SystemFault.{SystemFault}
use Rattle.wh_system_parts.specs.declared.fault.SystemFault.TheVariants.{UnknownName, IllTyped}
use Rattle.wh_system_resolve.specs.declared.around.Resolved.{Resolved}
use Rattle.wh_system_resolve.specs.declared.around.ResolvedList.{ResolvedList}
use Rattle.wh_system_resolve.specs.Answers.{Resolves}
use Rattle.wh_system_resolve.specs.InScope.{types_of}
use Rattle.wh_system_parts.specs.Faults.{Test, first_fault}
use Rattle.wh_system_parts.specs.Naming.{Scope, number_of, is_declared, meant, all_meant, applied_meant}
use Rattle.wh_system_parts.specs.Kinds.{TypedBinder, binders_of, kind_of, kinds_of, spine_kind, declaration, meta_kind}
use Rattle.wh_system_parts.specs.Tests.{test, term_offset, count_of, arity_of, args_of, naming_tests, namings_tests, applying_tests}

-- the answer for a raw term below these binders
abbrev pub ResolvesTerm : Scope → List TypedBinder → RTm → Result Resolved (Or SystemFault) → Type 0
ResolvesTerm s bs t result = Resolves (naming_tests s bs t) (meant s (binders_of bs) t) (kind_of s bs t) result

-- the answer for what is u and has the type a, applied to arguments
abbrev pub ResolvesSpine : Scope → List TypedBinder → Option Tm → Option Ty → RTms → Result Resolved (Or SystemFault) → Type 0
ResolvesSpine s bs u a ts result = Resolves (applying_tests s bs a ts) (applied_meant s (binders_of bs) u ts) (spine_kind s bs a ts) result

-- no test of these terms fails, and the trees and types are these
pub record AreResolved (s : Scope) (bs : List TypedBinder) (ts : RTms) (r : ResolvedList) : Type 0 where
  pub passed : first_fault (namings_tests s bs ts) ≡ None
  pub trees : all_meant s (binders_of bs) ts ≡ Some (tms r.trees)
  pub kinds : kinds_of s bs ts ≡ map Some (types_of r.kinds)

-- the answer for terms one after another
abbrev pub ResolvesEach : Scope → List TypedBinder → RTms → Result ResolvedList (Or SystemFault) → Type 0
ResolvesEach s bs ts result = MatchOr result (AreResolved s bs ts) (λ fault. first_fault (namings_tests s bs ts) ≡ Some fault)

-- the arguments, whose types are given, have the types that are wanted
abbrev pub fitting_tests : List Ty → RTms → List Ty → List Test
fitting_tests (k ∷ given) (more t ts) (a ∷ wanted) = test (not (same_ty k a)) (IllTyped (term_offset t)) ∷ fitting_tests given ts wanted
fitting_tests _ _ _ = []

-- the tests of a meta-variable with resolved arguments of these types
abbrev pub applied_tests : Scope → List ℕ → List Ty → RTms → ℕ → List Test
applied_tests s n given ts at =
    test (not (is_declared s.metas n)) (UnknownName at) ∷ test (not (arity_of (declaration s n) == count_of ts)) (IllTyped at)
    ∷ fitting_tests given ts (args_of (declaration s n))

-- the answer for a meta-variable with resolved arguments
abbrev pub ResolvesMeta : Scope → List ℕ → ResolvedList → RTms → ℕ → Result Resolved (Or SystemFault) → Type 0
ResolvesMeta s n list ts at result =
    Resolves (applied_tests s n (types_of list.kinds) ts at) (option_map (λ z. meta z (tms list.trees)) (number_of s.metas n))
    (meta_kind (declaration s n) (map Some (types_of list.kinds))) result
