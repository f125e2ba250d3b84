-- The words that the program that explains is run with, and what they ask for (ours).
use Rattle.std.specs.Prelude.{ℕ, ◌≡◌, ◌≢◌, ◌⊎◌, List, [], ◌∷◌, All, Some, None, codes}
use Rattle.wh_explain_words.specs.declared.request.Request as request

-- what may be asked for: to explain a system, by a search or by a certificate; to say what may not be meant in it; its
-- graph
pub data Asked : Type 0 where
  explain : (file : List ℕ) → Asked
  explain_by : (file cert : List ℕ) → Asked
  lint : (file : List ℕ) → Asked
  graph : (file : List ℕ) → Asked

-- a word that names a file before `--`: it is not empty, and where it has two bytes or more it does not begin with `-`
abbrev pub IsName : List ℕ → Type 0
IsName [] = ⊥
IsName (b ∷ []) = Unit {0}
IsName (b ∷ c ∷ bs) = b ≢ 45

-- the words name these files: by themselves, or behind a word `--`, where each word is a name
abbrev pub Name : List (List ℕ) → List (List ℕ) → Type 0
Name words names = ((words ≡ names) × All IsName names) ⊎ (words ≡ codes "--" ∷ names)

-- the words ask for it
abbrev pub Asks : List (List ℕ) → Asked → Type 0
Asks words (explain file) = Name words (file ∷ [])
Asks words (explain_by file cert) = Name words (file ∷ cert ∷ [])
Asks words (lint file) = (rest : List (List ℕ)) × (words ≡ codes "--lint" ∷ rest) × Name rest (file ∷ [])
Asks words (graph file) = (rest : List (List ℕ)) × (words ≡ codes "--graph" ∷ rest) × Name rest (file ∷ [])

-- what a request asks for
abbrev pub asked_by : request.Request → Asked
asked_by (request.TheVariants.Explain file None) = explain file.now
asked_by (request.TheVariants.Explain file (Some cert)) = explain_by file.now cert.now
asked_by (request.TheVariants.Lint file) = lint file.now
asked_by (request.TheVariants.Graph file) = graph file.now
