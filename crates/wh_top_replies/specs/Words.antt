-- What is asked of a system by the words that the program is run with.
use Rattle.std.specs.Prelude.{ℕ, ◌⊎◌, List}
use Rattle.wh_top_words.specs.Words.{Bounds, check, prove, upgrade, Asks}
use Rattle.wh_prover.specs.declared.answer.Options.{Options}

-- the bounds of a search, as the search takes them
abbrev pub options_of : Bounds → Options
options_of b = record { tries = b.tries; depth = b.depth; visited = b.visited }

-- the words ask whether the system in the file terminates: by a certificate, which is to be checked or upgraded, or by
-- a search for one
abbrev pub AsksWhether : List (List ℕ) → List ℕ → Type 0
AsksWhether words file =
    ((cert : List ℕ) × Asks words (check file cert)) ⊎ ((b : Bounds) × Asks words (prove file b))
    ⊎ ((cert : List ℕ) × Asks words (upgrade file cert))

-- the words ask for a certificate of the system in the file: by a search, or by an upgrade of one
abbrev pub AsksForCertificate : List (List ℕ) → List ℕ → Type 0
AsksForCertificate words file =
    ((b : Bounds) × Asks words (prove file b)) ⊎ ((cert : List ℕ) × Asks words (upgrade file cert))
