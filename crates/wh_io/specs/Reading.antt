-- Reading a whole file: which bytes the answer has, and when each fault comes (ours).
use Rattle.std.specs.Prelude.{◌≡◌, ℕ, ◌<◌, ◌≤◌, List, length, Result, Ok, Err}
use Rattle.wh_types.specs.declared.want.Or.{Or}
use Rattle.wh_types.specs.declared.want.Or.TheVariants.{NoMemory, Because}
use Rattle.wh_io.specs.declared.read.ReadFault.{ReadFault}
use Rattle.wh_io.specs.declared.read.ReadFault.TheVariants.{Failed, TooLong}
use Rattle.wh_io.specs.Outside.{Rose}

-- of a file whose bytes are told: all of them, or that they are more than the limit
abbrev pub ReadsWhole : List ℕ → ℕ → Result (List ℕ) (Or ReadFault) → Type 0
ReadsWhole file limit (Ok bytes) = (bytes ≡ file) × (length file ≤ limit)
ReadsWhole file limit (Err NoMemory) = Unit {0}
ReadsWhole file limit (Err (Because Failed)) = Unit {0}
ReadsWhole file limit (Err (Because TooLong)) = limit < length file

-- the read failed only where the faults under the file's name rose; any other outcome leaves them as they were
abbrev pub FaultsTell : {T : Type 0} → ℕ → ℕ → Result T (Or ReadFault) → Type 0
FaultsTell before now (Ok _) = now ≡ before
FaultsTell before now (Err NoMemory) = now ≡ before
FaultsTell before now (Err (Because Failed)) = Rose before now
FaultsTell before now (Err (Because TooLong)) = now ≡ before
