-- What the code keeps of the words behind the command. Only contracts of private functions cite this.
use Rattle.std.specs.Prelude.{ℕ, ◌≡◌, ◌≤◌, ◌⊎◌, ◌++◌, List, [], ◌∷◌, Option, Some, None, length, unwrap_or}
use Rattle.std.specs.Fmt.{decimal}
use Rattle.wh_top_words.specs.Words.{Setting, tries, depth, visited, steps, Item, set, Say, least, most, usual, words_in, numbers_for, Bounds}
use Rattle.wh_top_words.specs.declared.kept.Alone.{Alone}
use Rattle.wh_top_words.specs.declared.kept.Alone.TheVariants.{Nothing, One, Two}
use Rattle.wh_top_words.specs.declared.kept.Kept.{Kept}

-- the number may be asked for (ours)
abbrev pub Within : Setting → ℕ → Type 0
Within s n = (least s ≤ n) × (n ≤ most s)

-- the words by themselves that are kept (ours)
abbrev pub words_of : Alone → List (List ℕ)
words_of Nothing = []
words_of (One first) = first.now ∷ []
words_of (Two first second) = first.now ∷ second.now ∷ []

-- the number that is kept for a setting (ours)
abbrev pub number_of : Kept → Setting → Option ℕ
number_of kept tries = kept.tries
number_of kept depth = kept.depth
number_of kept visited = kept.visited
number_of kept steps = kept.steps

-- the numbers in an option (ours)
abbrev pub listed : Option ℕ → List ℕ
listed None = []
listed (Some n) = n ∷ []

-- each number that is kept may be asked for (ours)
abbrev pub AllWithin : Kept → Type 0
AllWithin kept = (s : Setting) (n : ℕ) → number_of kept s ≡ Some n → Within s n

-- no number is kept (ours)
abbrev pub SetsNo : Kept → Type 0
SetsNo kept = (s : Setting) → number_of kept s ≡ None

-- no number that bounds a search is kept (ours)
pub record SetsNoBounds (kept : Kept) : Type 0 where
  pub tries : kept.tries ≡ None
  pub depth : kept.depth ≡ None
  pub visited : kept.visited ≡ None

-- no number is kept but how many clauses a finder may learn (ours)
pub record SetsTriesAlone (kept : Kept) : Type 0 where
  pub depth : kept.depth ≡ None
  pub visited : kept.visited ≡ None
  pub steps : kept.steps ≡ None

-- what is kept sums up the items (ours)
pub record Sums (kept : Kept) (items : List Item) : Type 0 where
  pub words : words_in items ≡ words_of kept.alone
  pub numbers : (s : Setting) → numbers_for s items ≡ listed (number_of kept s)
  pub within : AllWithin kept

-- the items can be kept: at most two words by themselves, and for each setting at most one number, which may be asked
-- for (ours)
pub record Fits (items : List Item) : Type 0 where
  pub words : length (words_in items) ≤ 2
  pub numbers : (s : Setting) → (numbers_for s items ≡ []) ⊎ ((n : ℕ) × (numbers_for s items ≡ n ∷ []) × Within s n)

-- the items are kept behind what was (ours)
abbrev pub Adds : Kept → List Item → Kept → Type 0
Adds old items new = (front : List Item) → Sums old front → Sums new (front ++ items)

-- the items cannot be kept behind what was, whatever else stands behind them (ours)
abbrev pub AddsNone : Kept → List Item → Type 0
AddsNone old items = (front back : List Item) → Sums old front → Fits (front ++ (items ++ back)) → ⊥

-- the number that the word spells is kept for the setting (ours)
abbrev pub Sets : Kept → Setting → List ℕ → Kept → Type 0
Sets old s word new = (n : ℕ) × (decimal n ≡ word) × Within s n × Adds old (set s n ∷ []) new

-- the word spells no number that can be kept for the setting (ours)
abbrev pub SetsNone : Kept → Setting → List ℕ → Type 0
SetsNone old s word = (n : ℕ) → decimal n ≡ word → AddsNone old (set s n ∷ [])

-- the words say nothing that can be kept (ours)
abbrev pub SayNone : List (List ℕ) → Type 0
SayNone words = (items : List Item) → Say words items → Fits items → ⊥

-- the words say the items, and then what the rest says; and nothing else that can be kept (ours)
pub record Follows (words : List (List ℕ)) (items : List Item) (rest : List (List ℕ)) : Type 0 where
  pub says : (more : List Item) → Say rest more → Say words (items ++ more)
  pub all : (found : List Item) → Say words found → Fits found → (more : List Item) × Say rest more × (found ≡ items ++ more)

-- what is kept sums up what the words say before the rest (ours)
abbrev pub Knows : List (List ℕ) → List (List ℕ) → Kept → Type 0
Knows words rest kept = (items : List Item) × Sums kept items × Follows words items rest

-- whatever words were read up to this rest, they say nothing that can be kept (ours)
abbrev pub LeadsNowhere : List (List ℕ) → Kept → Type 0
LeadsNowhere rest kept = (words : List (List ℕ)) → Knows words rest kept → SayNone words

-- whatever words were read up to the first rest, they are read up to the second one then (ours)
abbrev pub LeadsTo : List (List ℕ) → Kept → List (List ℕ) → Kept → Type 0
LeadsTo first old second new = (words : List (List ℕ)) → Knows words first old → Knows words second new

-- the bounds are what is kept, or usual where nothing is (ours)
pub record SetsAll (kept : Kept) (b : Bounds) : Type 0 where
  pub tries : b.tries ≡ unwrap_or kept.tries (usual tries)
  pub depth : b.depth ≡ unwrap_or kept.depth (usual depth)
  pub visited : b.visited ≡ unwrap_or kept.visited (usual visited)
