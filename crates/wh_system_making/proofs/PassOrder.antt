-- The tests of a rule by groups: where the first fault of a group is that of the whole.
use Rattle.std.proofs.Common.{◌≡◌, List, [], ◌∷◌, ◌++◌, Option, Some, None, Result, Ok, Err, IsErrAnd, not, ap, sym, ◌∙◌, subst}
use Rattle.std.proofs.lemmas.List.{append_assoc}
use Rattle.wh_types.specs.Ty.{Ty}
use Rattle.wh_types.specs.Outcome.{MatchOr}
use Rattle.wh_types.specs.declared.want.Or.{Or}
use Rattle.wh_types.specs.declared.want.Or.TheVariants.{NoMemory, Because}
use Rattle.wh_text.specs.RawTree.{RTm}
use Rattle.wh_system_parts.specs.Parts.{RRule}
use Rattle.wh_system_parts.specs.Naming.{Scope}
use Rattle.wh_system_parts.specs.Kinds.{kind_of}
use Rattle.wh_system_parts.specs.Tests.{naming_tests, term_offset, test}
use Rattle.wh_system_parts.specs.RuleTests.{same_kind}
use Rattle.wh_system_parts.specs.declared.fault.SystemFault.{SystemFault}
use Rattle.wh_system_parts.specs.declared.fault.SystemFault.TheVariants.{IllTyped}
use Rattle.wh_system_parts.specs.Faults.{Test, first_fault, Passes}
use Rattle.wh_system_parts.proofs.FaultLemmas.{fault_after, fault_in_first, no_fault_in_both}
use Rattle.wh_system_making.specs.RulePasses.{sides_tests}

-- an error that is handed on
pub handed : {T U : Type 0} (xs ys : List Test) (r : Result U (Or SystemFault)) (e : Or SystemFault) (P : T → Type 0) (Q : U → Type 0) → IsErrAnd r (λ x. x ≡ e)
    → ((f : SystemFault) → first_fault xs ≡ Some f → first_fault ys ≡ Some f) → MatchOr {T = T} {E = SystemFault} (Err e) P (λ f. first_fault xs ≡ Some f) → Passes ys r Q
handed xs ys (Ok x) e P Q is on h = absurd is
handed {T} {U} xs ys (Err x) e P Q is on h = subst (λ x. Passes ys (Err x) Q) (sym is) (by e h)
  where
    by : (e : Or SystemFault) → MatchOr {T = T} {E = SystemFault} (Err e) P (λ f. first_fault xs ≡ Some f) → Passes {T = U} ys (Err e) Q
    by NoMemory h = tt
    by (Because f) h = on f h

-- a test after two groups
pub after_both : (xs ys rest : List Test) → first_fault xs ≡ None → first_fault ys ≡ None → first_fault (xs ++ ys ++ rest) ≡ first_fault rest
after_both xs ys rest a b = fault_after (xs ++ ys) rest (no_fault_in_both xs ys a b)

pub in_second : (xs ys rest : List Test) (f : SystemFault) → first_fault xs ≡ None → first_fault ys ≡ Some f → first_fault (xs ++ ys ++ rest) ≡ Some f
in_second xs ys rest f a b = fault_in_first (xs ++ ys) rest f (fault_after xs ys a ∙ b)

pub in_first : (xs ys rest : List Test) (f : SystemFault) → first_fault xs ≡ Some f → first_fault (xs ++ ys ++ rest) ≡ Some f
in_first xs ys rest f a = fault_in_first (xs ++ ys) rest f (fault_in_first xs ys f a)

-- a side of one of these types is to have the type that is wanted
abbrev pub typed_tests : Option Ty → Option Ty → RTm → List Test
typed_tests wanted given side = test (not (same_kind wanted given)) (IllTyped (term_offset side)) ∷ []

-- where the names and types of a left side are right, those of the right one come next
pub typed_next : (s : Scope) (r : RRule) (wanted : Option Ty) → first_fault (naming_tests s [] r.left) ≡ None → kind_of s [] r.left ≡ wanted
    → first_fault (sides_tests s r) ≡ first_fault (naming_tests s [] r.right ++ typed_tests wanted (kind_of s [] r.right) r.right)
typed_next s r wanted passed is =
    ap first_fault (append_assoc (naming_tests s [] r.left) (naming_tests s [] r.right) (typed_tests (kind_of s [] r.left) (kind_of s [] r.right) r.right))
    ∙ fault_after (naming_tests s [] r.left) (naming_tests s [] r.right ++ typed_tests (kind_of s [] r.left) (kind_of s [] r.right) r.right) passed
    ∙ ap (λ (o : Option Ty). first_fault (naming_tests s [] r.right ++ typed_tests o (kind_of s [] r.right) r.right)) is

-- all tests of parts: the sorts, the symbols, the number of rules, and the rules
module _ (A B C D : List Test) where
  pub sorts_fail : (f : SystemFault) → first_fault A ≡ Some f → first_fault (A ++ B ++ C ++ D) ≡ Some f
  sorts_fail f e = fault_in_first (A ++ B ++ C) D f (in_first A B C f e)

  pub funs_fail : (f : SystemFault) → first_fault A ≡ None → first_fault B ≡ Some f → first_fault (A ++ B ++ C ++ D) ≡ Some f
  funs_fail f a e = fault_in_first (A ++ B ++ C) D f (in_second A B C f a e)

  pub count_fails : (f : SystemFault) → first_fault A ≡ None → first_fault B ≡ None → first_fault C ≡ Some f → first_fault (A ++ B ++ C ++ D) ≡ Some f
  count_fails f a b e = fault_in_first (A ++ B ++ C) D f (after_both A B C a b ∙ e)

  pub before_rules : first_fault A ≡ None → first_fault B ≡ None → first_fault C ≡ None → first_fault (A ++ B ++ C ++ D) ≡ first_fault D
  before_rules a b c = fault_after (A ++ B ++ C) D (after_both A B C a b ∙ c)
