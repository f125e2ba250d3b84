-- What the code tells of one word. Only contracts of private functions cite this.
use Rattle.std.specs.Prelude.{ℕ, ◌≡◌, ◌≢◌, ◌++◌, List, ◌∷◌, Option, Some, None}
use Rattle.std.specs.Borrow.{Bor}
use Rattle.wh_top_words.specs.Words as said
use Rattle.wh_top_words.specs.Words.{option_of, tries, depth, visited, steps}
use Rattle.wh_top_words.specs.declared.options.Setting.{Setting}
use Rattle.wh_top_words.specs.declared.options.Setting.TheVariants.{Tries, Depth, Visited, Steps}

-- the setting that the code means (ours)
abbrev pub which : Setting → said.Setting
which Tries = tries
which Depth = depth
which Visited = visited
which Steps = steps

-- the word is no setting's option (ours)
abbrev pub NamesNone : List ℕ → Type 0
NamesNone word = (s : said.Setting) → word ≢ option_of s

-- the word is no setting's option, also with a number behind `=` (ours)
abbrev pub IsNoOption : List ℕ → Type 0
IsNoOption word = NamesNone word × ((s : said.Setting) (number : List ℕ) → word ≢ option_of s ++ 61 ∷ number)

-- the word is this setting's option, alone or with this behind `=` (ours)
abbrev pub IsOption : List ℕ → said.Setting → Option (Bor (List ℕ)) → Type 0
IsOption word s None = word ≡ option_of s
IsOption word s (Some number) = word ≡ option_of s ++ 61 ∷ number.now
