-- Lists of tests in their order, and the first test that fails.
use Rattle.std.specs.Prelude.{◌≡◌, Bool, true, false, List, [], ◌∷◌, Option, Some, None, Result, MatchResult}
use Rattle.wh_types.specs.Outcome.{MatchOr}
use Rattle.wh_types.specs.declared.want.Or.{Or}
use Rattle.wh_system_parts.specs.declared.fault.SystemFault.{SystemFault}

-- a test, and the fault that its failing is
pub record Test : Type 0 where
  pub fails : Bool
  pub fault : SystemFault

-- the fault where the test fails, and else the rest
abbrev pub first_of : Bool → SystemFault → Option SystemFault → Option SystemFault
first_of true fault rest = Some fault
first_of false fault rest = rest

-- the fault of the first test that fails
abbrev pub first_fault : List Test → Option SystemFault
first_fault [] = None
first_fault (t ∷ ts) = first_of t.fails t.fault (first_fault ts)

-- no test fails, or the fault is that of the first that fails
abbrev pub IsFirstFault : {T : Type 0} → List Test → Result T SystemFault → Type 0
IsFirstFault tests result = MatchResult result (λ _. first_fault tests ≡ None) (λ fault. first_fault tests ≡ Some fault)

-- no test fails and P holds of the value, or the fault is that of the first that fails
abbrev pub Passes : {T : Type 0} → List Test → Result T (Or SystemFault) → (T → Type 0) → Type 0
Passes tests result P = MatchOr result (λ value. (first_fault tests ≡ None) × P value) (λ fault. first_fault tests ≡ Some fault)
