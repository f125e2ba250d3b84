-- What a shelf and a sink may answer (ours). Where one tells nothing of its bytes, `None` stands for them.
use Rattle.std.specs.Prelude.{◌≡◌, ℕ, ◌+◌, ◌-◌, ◌^◌, ◌<◌, ◌≤◌, min, ◌⊎◌, List, ◌++◌, length, take, drop, Option, Some, Result, Ok, Err, OnOk, OnErr}

-- a count with one more, up to the last number of 64 bits
abbrev pub counted : ℕ → ℕ
counted n = min (n + 1) (2 ^ 64 - 1)

-- a number of faults grew, or stands at the last number of 64 bits
abbrev pub Rose : ℕ → ℕ → Type 0
Rose before now = counted before ≤ now

-- faults never fall, a call fails only where they rose, and one that succeeds leaves them as they were
pub record HasCause {T E : Type 0} (before now : ℕ) (result : Result T E) : Type 0 where
  pub later : before ≤ now
  pub failed : OnErr result (Rose before now)
  pub same : OnOk result (now ≡ before)

-- the next n bytes of a file, from `at` on, stand at the front of the buffer; none come only at its end, or into no
-- room
pub record Gives (file : List ℕ) (at n : ℕ) (into : List ℕ) : Type 0 where
  pub bytes : take n into ≡ take n (drop at file)
  pub within : n ≤ length file - at
  pub ended : n ≡ 0 → (length into ≡ 0) ⊎ (length file ≤ at)

-- a read under a name gives the bytes of that file, where the shelf tells them
abbrev pub ReadsAt : {E : Type 0} → Option (List ℕ) → ℕ → List ℕ → Result ℕ E → Type 0
ReadsAt held at into (Ok n) = (n ≤ length into) × ((file : List ℕ) → held ≡ Some file → Gives file at n into)
ReadsAt held at into (Err _) = Unit {0}

-- the text joined what was written, where the sink tells it
abbrev pub Wrote : Option (List ℕ) → Option (List ℕ) → List ℕ → Type 0
Wrote old new text = (before : List ℕ) → old ≡ Some before → new ≡ Some (before ++ text)

-- a put appends a front part of the piece, and some of it unless the piece is empty; a failed one appends nothing
abbrev pub Puts : {E : Type 0} → Option (List ℕ) → Option (List ℕ) → List ℕ → Result ℕ E → Type 0
Puts old new piece (Ok n) = (n ≤ length piece) × (0 < length piece → 0 < n) × Wrote old new (take n piece)
Puts old new piece (Err _) = (before : List ℕ) → old ≡ Some before → new ≡ Some before
