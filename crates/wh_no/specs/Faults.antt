-- The first condition of a valid certificate that is false.
use Rattle.std.specs.Prelude.{ℕ, ◌+◌, ◌<◌, ◌≡◌, List, length, take, Some, All, AllPairs, slice_get}
use Rattle.wh_terms.specs.Tree.{Tm}
use Rattle.wh_terms.specs.Measures.{Fits}
use Rattle.wh_terms.specs.Rules.{RewriteRule}
use Rattle.wh_terms.specs.declared.path.Step as taken
use Rattle.wh_text.specs.RawTree.{RTm}
use Rattle.wh_step.specs.Replay.{Replays}
use Rattle.wh_step.specs.Reducts.{FailsAt, TooBigAt}
use Rattle.wh_system.specs.Systems.{SystemData}
use Rattle.wh_system_making.specs.Resolve.{Means}
use Rattle.wh_cert.specs.Written as written
use Rattle.wh_cert.specs.Written.{Cert, yes, no}
use Rattle.wh_no.specs.declared.fault.NoFault.{NoFault}
use Rattle.wh_no.specs.declared.fault.NoFault.TheVariants.{NotATerm, NoStep, StepFails, TooBig, BadPut, NoInstance}
use Rattle.wh_no.specs.declared.check.AcceptedNo.{AcceptedNo}
use Rattle.wh_no.specs.Claim.{Put, Claim}
use Rattle.wh_no.specs.Valid.{IsPutOver, IsBelow, HoldsInstance, IsValid}
use Rattle.wh_no.specs.Meaning.{SaysPut, SayPuts, Says}

-- the raw term stands for the well-typed term t, which fits (ours)
pub record IsTermFor (d : SystemData) (raw : RTm) (t : Tm) : Type 0 where
  pub means : Means d raw t
  pub fits : Fits t

-- there is a step, and the steps follow each other from t to u, and each result fits (ours)
pub record Arrive (rules : List RewriteRule) (steps : List taken.Step) (t u : Tm) : Type 0 where
  pub some_step : 0 < length steps
  pub replays : Replays rules steps t u

-- the number of the line is above that of the line before, if there is one (ours)
abbrev pub IsAbove : List written.Put → ℕ → written.Put → Type 0
IsAbove lines i line = (j : ℕ) (before : written.Put) → j + 1 ≡ i → slice_get lines j ≡ Some before → before.number < line.number

-- line number i stands for a typed put, and its number is above that of the line before (ours)
pub record IsRightLine (d : SystemData) (lines : List written.Put) (i : ℕ) : Type 0 where
  pub line : written.Put
  pub here : slice_get lines i ≡ Some line
  pub put : Put
  pub says : SaysPut d line put
  pub over : IsPutOver d.symbols put
  pub above : IsAbove lines i line

-- line number i is the first that is not right
pub record IsFirstBadLine (d : SystemData) (lines : List written.Put) (i : ℕ) : Type 0 where
  pub within : i < length lines
  pub before : (j : ℕ) → j < i → IsRightLine d lines j
  pub bad : IsRightLine d lines i → ⊥

-- the lines stand for these puts, each typed, with increasing numbers
pub record AreRight (d : SystemData) (lines : List written.Put) (puts : List Put) : Type 0 where
  pub says : SayPuts d lines puts
  pub over : All (IsPutOver d.symbols) puts
  pub increasing : AllPairs IsBelow puts

-- the first i lines are right, and they stand for these puts
pub record AreRightTo (d : SystemData) (lines : List written.Put) (i : ℕ) (puts : List Put) : Type 0 where
  pub stand : AreRight d (take i lines) puts
  pub each : (j : ℕ) → j < i → IsRightLine d lines j

-- what is wrong with the term: the raw term stands for no well-typed term that fits
abbrev pub IsTermFault : SystemData → RTm → NoFault → Type 0
IsTermFault d raw NotATerm = (t : Tm) → IsTermFor d raw t → ⊥
IsTermFault d raw _ = ⊥

-- what is wrong with steps from t: there is none; one does not apply; the result of one does not fit
abbrev pub IsStepFault : List RewriteRule → List taken.Step → Tm → NoFault → Type 0
IsStepFault rules steps t NoStep = length steps ≡ 0
IsStepFault rules steps t (StepFails i) = FailsAt rules steps t i
IsStepFault rules steps t (TooBig i) = TooBigAt rules steps t i
IsStepFault rules steps t _ = ⊥

-- what is wrong with the lines: one is the first that is not right
abbrev pub IsPutFault : SystemData → List written.Put → NoFault → Type 0
IsPutFault d lines (BadPut i) = IsFirstBadLine d lines i
IsPutFault d lines _ = ⊥

-- what is wrong with the place: u does not hold the instance there
abbrev pub IsPlaceFault : Tm → List Put → List ℕ → Tm → NoFault → Type 0
IsPlaceFault t puts at u NoInstance = HoldsInstance t puts at u → ⊥
IsPlaceFault t puts at u _ = ⊥

-- the first condition that is false of a certificate with these parts: the conditions before it hold
abbrev pub IsFirstFalse : SystemData → RTm → List taken.Step → List ℕ → List written.Put → NoFault → Type 0
IsFirstFalse d raw steps at lines NotATerm = (t : Tm) → IsTermFor d raw t → ⊥
IsFirstFalse d raw steps at lines (BadPut i) = (t : Tm) × (u : Tm) × IsTermFor d raw t × Arrive d.rules steps t u × IsFirstBadLine d lines i
IsFirstFalse d raw steps at lines NoInstance = (t : Tm) × (u : Tm) × (puts : List Put) × IsTermFor d raw t × Arrive d.rules steps t u
    × AreRight d lines puts × (HoldsInstance t puts at u → ⊥)
IsFirstFalse d raw steps at lines fault = (t : Tm) × IsTermFor d raw t × IsStepFault d.rules steps t fault

-- the fault names the first condition of a valid certificate that is false, in the order of its parts (ours)
abbrev pub IsFirstFault : SystemData → Cert → NoFault → Type 0
IsFirstFault d (no raw steps at lines) fault = IsFirstFalse d raw steps at lines fault
IsFirstFault d (yes version ranks pairs nodes) fault = ⊥

-- the certificate says a valid claim, and the answer has the number of its steps (ours)
abbrev pub IsAccepted : SystemData → Cert → AcceptedNo → Type 0
IsAccepted d cert accepted = (c : Claim) × Says d cert c × IsValid d.symbols d.rules c × (accepted.steps ≡ length c.steps)

-- the certificate's names make it a claim over the system, which is valid (ours)
abbrev pub IsValidNo : SystemData → Cert → Type 0
IsValidNo d cert = (c : Claim) × Says d cert c × IsValid d.symbols d.rules c
