-- What the answer of a pass over a rule's sides says of its tests (ours).
use Rattle.std.specs.Prelude.{◌≡◌, List, Option, Some, None, Result}
use Rattle.wh_types.specs.Ty.{Ty}
use Rattle.wh_types.specs.Outcome.{MatchOr}
use Rattle.wh_types.specs.declared.want.Or.{Or}
use Rattle.wh_terms.specs.Tree.{Tm}
use Rattle.wh_terms.specs.Erase.{tm}
use Rattle.wh_system_parts.specs.declared.fault.SystemFault.{SystemFault}
use Rattle.wh_system_resolve.specs.declared.around.Resolved.{Resolved}
use Rattle.wh_system_parts.specs.Faults.{Test, first_fault}
use Rattle.wh_system_resolve.specs.InScope.{type_of}

-- no test fails, or the fault of a pass that takes memory is that of the first that fails
abbrev pub Reports : {T : Type 0} → List Test → Result T (Or SystemFault) → Type 0
Reports tests result = MatchOr result (λ _. first_fault tests ≡ None) (λ fault. first_fault tests ≡ Some fault)

-- no test fails, and the tree and the type are these
pub record IsResolved (tests : List Test) (u : Option Tm) (a : Option Ty) (r : Resolved) : Type 0 where
  pub passed : first_fault tests ≡ None
  pub term : u ≡ Some (tm r.term)
  pub kind : a ≡ Some (type_of r.kind)

-- what stands there is resolved, or the fault is that of the first test that fails
abbrev pub Resolves : List Test → Option Tm → Option Ty → Result Resolved (Or SystemFault) → Type 0
Resolves tests u a result = MatchOr result (IsResolved tests u a) (λ fault. first_fault tests ≡ Some fault)
