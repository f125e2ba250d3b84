-- Reading a file piece by piece: the state of a reader of pieces, and what its answers say of the file's bytes (ours).
use Rattle.std.specs.Prelude.{◌≡◌, ℕ, ◌+◌, ◌<◌, ◌≤◌, List, length, take, drop, Option, Some, Result, Ok, Err}
use Rattle.wh_io.specs.declared.next.Next.{Next}
use Rattle.wh_io.specs.declared.next.Next.TheVariants.{Bytes, End}
use Rattle.wh_io.specs.declared.read.ReadFault.{ReadFault}
use Rattle.wh_io.specs.declared.read.ReadFault.TheVariants as fault
use Rattle.wh_io.specs.declared.next.Ended.{Ended}
use Rattle.wh_io.specs.declared.next.Ended.TheVariants.{Whole, TooLong, Failed}
use Rattle.wh_io.specs.Outside.{Rose}

-- how far a file was read: the limit, how many bytes were given, and how the reading has ended, if it has
pub record PiecesState : Type 0 where
  pub limit : ℕ
  pub given : ℕ
  pub ended : Option Ended

-- the answer of a reading that has ended
abbrev pub answer_of : Ended → Result Next ReadFault
answer_of Whole = Ok End
answer_of TooLong = Err fault.TooLong
answer_of Failed = Err fault.Failed

-- one answer of a reader of pieces about a file whose bytes are told, where `given` of its bytes were given before:
-- bytes are the next ones; the end comes where all were given; the file is too long only where it has more bytes than
-- the limit
abbrev pub GivesPiece : List ℕ → ℕ → ℕ → List ℕ → Result Next ReadFault → Type 0
GivesPiece file limit given into (Ok (Bytes n)) = (take n into ≡ take n (drop given file)) × (given + n ≤ length file)
GivesPiece file limit given into (Ok End) = length file ≤ given
GivesPiece file limit given into (Err fault.TooLong) = limit < length file
GivesPiece file limit given into (Err fault.Failed) = Unit {0}

-- at least one byte is given, as many as there is room for at most, and never more than the limit in all; else the
-- reading has ended so
abbrev pub Advances : PiecesState → PiecesState → ℕ → Result Next ReadFault → Type 0
Advances old new room (Ok (Bytes n)) =
    (0 < n) × (n ≤ room) × (old.given + n ≤ old.limit) × (new ≡ record old { given = old.given + n })
Advances old new room (Ok End) = new ≡ record old { ended = Some Whole }
Advances old new room (Err fault.TooLong) = new ≡ record old { ended = Some TooLong }
Advances old new room (Err fault.Failed) = new ≡ record old { ended = Some Failed }

-- a piece failed only where the faults under the file's name rose; any other outcome leaves them as they were
abbrev pub PieceFaults : ℕ → ℕ → Result Next ReadFault → Type 0
PieceFaults before now (Ok _) = now ≡ before
PieceFaults before now (Err fault.TooLong) = now ≡ before
PieceFaults before now (Err fault.Failed) = Rose before now
