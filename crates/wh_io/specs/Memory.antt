-- The shelf and the sink in memory, as contracts see them (ours).
use Rattle.std.specs.Prelude.{◌≡◌, ◌≢◌, ℕ, ◌-◌, ◌<◌, min, ◌⊎◌, List, [], ◌∷◌, ◌++◌, length, take, Contains, if◌then◌else◌, Option, Some, None, Result, Ok, Err}
use Rattle.std.specs.Str.{bytes_eq}
use Rattle.wh_io.specs.Outside.{counted}

-- a shelf: its files with their names, the numbers of the calls that are to fail, and how many calls and faults there
-- were
pub record ShelfState : Type 0 where
  pub files : List (List ℕ × List ℕ)
  pub failing : List ℕ
  pub calls : ℕ
  pub faults : ℕ

-- the bytes of the file of that name, if there is one
abbrev pub file_named : List (List ℕ × List ℕ) → List ℕ → Option (List ℕ)
file_named [] name = None
file_named (file ∷ files) name = if bytes_eq file.0 name then Some file.1 else file_named files name

-- the next read fails: it is to fail, or there is no file of that name
abbrev pub ReadFails : ShelfState → List ℕ → Type 0
ReadFails shelf name = Contains shelf.failing shelf.calls ⊎ (file_named shelf.files name ≡ None)

-- the shelf after a read with that result
abbrev pub after_read : {T E : Type 0} → ShelfState → Result T E → ShelfState
after_read shelf (Ok _) = record shelf { calls = counted shelf.calls }
after_read shelf (Err _) = record shelf { calls = counted shelf.calls; faults = counted shelf.faults }

-- the new shelf has this file, in place of an earlier one of its name, and is the old one in all else
pub record AddsFile (old new : ShelfState) (name file : List ℕ) : Type 0 where
  pub placed : file_named new.files name ≡ Some file
  pub others : (other : List ℕ) → other ≢ name → file_named new.files other ≡ file_named old.files other
  pub rest : new ≡ record old { files = new.files }

-- a sink: what was written, the most bytes that a call takes, the room that is left, the numbers of the calls that are
-- to fail, and how many calls and faults there were
pub record SinkState : Type 0 where
  pub written : List ℕ
  pub most : ℕ
  pub room : ℕ
  pub failing : List ℕ
  pub calls : ℕ
  pub faults : ℕ

-- the next put fails: it is to fail, or there is a piece and no room for any of it
abbrev pub PutFails : SinkState → List ℕ → Type 0
PutFails sink piece = Contains sink.failing sink.calls ⊎ ((0 < length piece) × (sink.room ≡ 0))

-- how many bytes of a piece a put takes, if it does not fail
abbrev pub taken : SinkState → List ℕ → ℕ
taken sink piece = min (length piece) (min sink.most sink.room)

-- the sink after a put of that piece with that result
abbrev pub after_put : {E : Type 0} → SinkState → List ℕ → Result ℕ E → SinkState
after_put sink piece (Ok n) = record sink { written = sink.written ++ take n piece; room = sink.room - n; calls = counted sink.calls }
after_put sink piece (Err _) = record sink { calls = counted sink.calls; faults = counted sink.faults }
