-- How the faults of passes go on.
use Rattle.std.proofs.Common.{◌≡◌, List, Some, Result, Ok, Err, IsErrAnd, ap, sym, ◌∙◌, subst}
use Rattle.wh_types.specs.declared.want.Or.{Or}
use Rattle.wh_types.specs.declared.want.Or.TheVariants.{NoMemory, Because}
use Rattle.wh_system_parts.specs.declared.fault.SystemFault.{SystemFault}
use Rattle.wh_system_parts.specs.Faults.{Test, first_fault, IsFirstFault, Passes}

-- a fault that a pass without memory hands on
pub fault_on : {T : Type 0} (tests : List Test) (r : Result T SystemFault) (f : SystemFault) → IsErrAnd r (λ x. x ≡ f) → first_fault tests ≡ Some f → IsFirstFault tests r
fault_on tests (Ok x) f is h = absurd is
fault_on tests (Err g) f is h = h ∙ ap Some (sym is)

-- one that a pass with memory hands on from one without
pub fault_up : {T : Type 0} (tests : List Test) (r : Result T (Or SystemFault)) (f : SystemFault) (P : T → Type 0) → IsErrAnd r (λ x. x ≡ Because f)
    → first_fault tests ≡ Some f → Passes tests r P
fault_up tests (Ok x) f P is h = absurd is
fault_up tests (Err e) f P is h = subst (λ x. Passes tests (Err x) P) (sym is) h

-- an error of a pass with memory, that another one hands on
pub error_on : {T U : Type 0} (xs ys : List Test) (r : Result U (Or SystemFault)) (e : Or SystemFault) (P : T → Type 0) (Q : U → Type 0) → IsErrAnd r (λ x. x ≡ e)
    → ((f : SystemFault) → first_fault xs ≡ Some f → first_fault ys ≡ Some f) → Passes {T = T} xs (Err e) P → Passes ys r Q
error_on {T} {U} xs ys (Ok x) e P Q is on h = absurd is
error_on {T} {U} xs ys (Err x) e P Q is on h = subst (λ x. Passes ys (Err x) Q) (sym is) (by e h)
  where
    by : (e : Or SystemFault) → Passes {T = T} xs (Err e) P → Passes {T = U} ys (Err e) Q
    by NoMemory h = tt
    by (Because f) h = on f h

-- an answer for tests that have the same first fault
pub answer_along : {T : Type 0} (r : Result T SystemFault) (xs ys : List Test) → first_fault ys ≡ first_fault xs → IsFirstFault xs r → IsFirstFault ys r
answer_along (Ok x) xs ys e h = e ∙ h
answer_along (Err f) xs ys e h = e ∙ h
