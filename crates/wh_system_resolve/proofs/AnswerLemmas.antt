-- How the answers of passes go together.
use Rattle.std.proofs.Common.{◌≡◌, List, ◌++◌, Option, Some, Result, Ok, Err, IsErrAnd, sym, ◌∙◌, subst}
use Rattle.wh_types.specs.Ty.{Ty}
use Rattle.wh_types.specs.Outcome.{MatchOr}
use Rattle.wh_types.specs.declared.want.Or.{Or}
use Rattle.wh_types.specs.declared.want.Or.TheVariants.{NoMemory, Because}
use Rattle.wh_terms.specs.Tree.{Tm}
use Rattle.wh_system_parts.specs.declared.fault.SystemFault.{SystemFault}
use Rattle.wh_system_resolve.specs.declared.around.Resolved.{Resolved}
use Rattle.wh_system_parts.specs.Faults.{Test, first_fault, IsFirstFault}
use Rattle.wh_system_resolve.specs.Answers.{Reports, Resolves}
use Rattle.wh_system_parts.proofs.FaultLemmas.{fault_in_first}

-- an answer for tests that have the same first fault
pub first_along : {T : Type 0} (r : Result T SystemFault) (xs ys : List Test) → first_fault ys ≡ first_fault xs → IsFirstFault xs r → IsFirstFault ys r
first_along (Ok x) xs ys e h = e ∙ h
first_along (Err f) xs ys e h = e ∙ h

pub reports_along : {T : Type 0} (r : Result T (Or SystemFault)) (xs ys : List Test) → first_fault ys ≡ first_fault xs → Reports xs r → Reports ys r
reports_along (Ok x) xs ys e h = e ∙ h
reports_along (Err NoMemory) xs ys e h = tt
reports_along (Err (Because f)) xs ys e h = e ∙ h

pub resolves_along : (r : Result Resolved (Or SystemFault)) (xs ys : List Test) (u v : Option Tm) (a b : Option Ty)
    → first_fault ys ≡ first_fault xs → v ≡ u → b ≡ a → Resolves xs u a r → Resolves ys v b r
resolves_along (Ok x) xs ys u v a b e f g h = record { passed = e ∙ h.passed; term = f ∙ h.term; kind = g ∙ h.kind }
resolves_along (Err NoMemory) xs ys u v a b e f g h = tt
resolves_along (Err (Because x)) xs ys u v a b e f g h = e ∙ h

-- what is said of a failing: nothing of want of memory, and of a cause that it is this first fault
abbrev pub Fails : Option SystemFault → Or SystemFault → Type 0
Fails first NoMemory = Unit {0}
Fails first (Because f) = first ≡ Some f

pub fails_along : (e : Or SystemFault) (a b : Option SystemFault) → b ≡ a → Fails a e → Fails b e
fails_along NoMemory a b is h = tt
fails_along (Because f) a b is h = is ∙ h

pub fails_first : (e : Or SystemFault) (xs ys : List Test) → Fails (first_fault xs) e → Fails (first_fault (xs ++ ys)) e
fails_first NoMemory xs ys h = tt
fails_first (Because f) xs ys h = fault_in_first xs ys f h

-- an error that is passed on
pub told_fails : (tests : List Test) (u : Option Tm) (a : Option Ty) (e : Or SystemFault) → Resolves tests u a (Err e) → Fails (first_fault tests) e
told_fails tests u a NoMemory h = tt
told_fails tests u a (Because f) h = h

matched : {T : Type 0} (P : T → Type 0) (ys : List Test) (e : Or SystemFault) → Fails (first_fault ys) e → MatchOr {T = T} {E = SystemFault} (Err e) P (λ f. first_fault ys ≡ Some f)
matched P ys NoMemory h = tt
matched P ys (Because f) h = h

pub matched_err : {T : Type 0} (P : T → Type 0) (ys : List Test) (r : Result T (Or SystemFault)) (e : Or SystemFault) → IsErrAnd r (λ x. x ≡ e) → Fails (first_fault ys) e
    → MatchOr r P (λ f. first_fault ys ≡ Some f)
matched_err P ys (Ok x) e is h = absurd is
matched_err {T} P ys (Err x) e is h = subst (λ y. MatchOr {T = T} {E = SystemFault} (Err y) P (λ f. first_fault ys ≡ Some f)) (sym is) (matched P ys e h)

pub reported_fails : (tests : List Test) (e : Or SystemFault) → Reports {T = Unit {0}} tests (Err e) → Fails (first_fault tests) e
reported_fails tests NoMemory h = tt
reported_fails tests (Because f) h = h
