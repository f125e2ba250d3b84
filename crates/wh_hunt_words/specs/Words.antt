-- The words that the hunt is run with.
use Rattle.std.specs.Prelude.{ℕ, ◌≡◌, ◌≤◌, ◌⊎◌, Bool, true, false, List, [], ◌∷◌, codes}
use Rattle.std.specs.Fmt.{decimal}
use Rattle.wh_top_words.specs.Words.{IsPlain}

-- how much work a hunt does at most where the words do not say, and the most that may be asked for (ours)
abbrev pub usual_work : ℕ
usual_work = 10000000

abbrev pub most_work : ℕ
most_work = 4294967295

-- the two words are `--work` and the number
abbrev pub SetsWork : List ℕ → List ℕ → ℕ → Type 0
SetsWork option number n = (option ≡ codes "--work") × (number ≡ decimal n) × (n ≤ most_work)

-- the file stands before `--work` and the number, or behind them
abbrev pub AsksWithWork : List ℕ → List ℕ → List ℕ → List ℕ → ℕ → Type 0
AsksWithWork first second third file n =
    ((file ≡ first) × IsPlain first × SetsWork second third n) ⊎ ((file ≡ third) × IsPlain third × SetsWork first second n)

-- the word is the file, and the work is the usual one
abbrev pub AsksPlainly : List ℕ → List ℕ → ℕ → Type 0
AsksPlainly word file n = (file ≡ word) × IsPlain word × (n ≡ usual_work)

-- the last word asks for statistics
abbrev pub AsksToCount : List ℕ → Bool → Type 0
AsksToCount last counts = (last ≡ codes "--stats") × (counts ≡ true)

-- the words ask for a hunt on the system in the file with that much work: they are the file alone, or the file and how
-- much; and for statistics where `--stats` stands behind these (ours)
abbrev pub AsksHunt : List (List ℕ) → List ℕ → ℕ → Bool → Type 0
AsksHunt (word ∷ []) file n counts = AsksPlainly word file n × (counts ≡ false)
AsksHunt (word ∷ last ∷ []) file n counts = AsksPlainly word file n × AsksToCount last counts
AsksHunt (first ∷ second ∷ third ∷ []) file n counts = AsksWithWork first second third file n × (counts ≡ false)
AsksHunt (first ∷ second ∷ third ∷ last ∷ []) file n counts = AsksWithWork first second third file n × AsksToCount last counts
AsksHunt _ file n counts = ⊥
