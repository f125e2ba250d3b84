-- The words that the program is run with, and what they ask for.
use Rattle.std.specs.Prelude.{ℕ, ◌≡◌, ◌≢◌, ◌≤◌, ◌⊎◌, ◌++◌, List, [], ◌∷◌, All, codes, map}
use Rattle.std.specs.Fmt.{decimal}
use Rattle.wh_types.specs.Limits.{most_generated}

-- what bounds a search for a proof, and how many steps a reduction takes at most (ours)
pub data Setting : Type 0 where
  tries depth visited steps : Setting

-- the option that sets it
abbrev pub option_of : Setting → List ℕ
option_of tries = codes "--tries"
option_of depth = codes "--depth"
option_of visited = codes "--visited"
option_of steps = codes "--steps"

-- the least and the most that may be asked for, and what it is where the words do not say
abbrev pub least : Setting → ℕ
least tries = 0
least depth = 0
least visited = 1
least steps = 0

abbrev pub most : Setting → ℕ
most tries = 1000000
most depth = 100
most visited = 10000
most steps = 10000

abbrev pub usual : Setting → ℕ
usual tries = 10000
usual depth = 6
usual visited = 500
usual steps = 1000

-- what stands behind the command: a word by itself, or an option with its number
pub data Item : Type 0 where
  alone : (word : List ℕ) → Item
  set : (s : Setting) (n : ℕ) → Item

abbrev pub IsFilled : List ℕ → Type 0
IsFilled word = word ≢ []

-- a word that stands by itself before `--`: it is not empty, and where it has two bytes or more it does not begin with
-- `-`
abbrev pub IsPlain : List ℕ → Type 0
IsPlain [] = ⊥
IsPlain (b ∷ []) = Unit {0}
IsPlain (b ∷ c ∷ bs) = b ≢ 45

-- the words say these items: the first word `--` ends the options, and all behind it stand by themselves; an option and
-- its number are joined by `=`, or are two words (the way of GNU's programs)
pub data Say : List (List ℕ) → List Item → Type 0 where
  say_none : Say [] []
  say_rest : {words : List (List ℕ)} → All IsFilled words → Say (codes "--" ∷ words) (map alone words)
  say_alone : {word : List ℕ} {words : List (List ℕ)} {items : List Item} → IsPlain word → Say words items
      → Say (word ∷ words) (alone word ∷ items)
  say_joined : {s : Setting} {n : ℕ} {words : List (List ℕ)} {items : List Item} → Say words items
      → Say ((option_of s ++ 61 ∷ decimal n) ∷ words) (set s n ∷ items)
  say_apart : {s : Setting} {n : ℕ} {words : List (List ℕ)} {items : List Item} → Say words items
      → Say (option_of s ∷ decimal n ∷ words) (set s n ∷ items)

-- the words by themselves, in order
abbrev pub words_in : List Item → List (List ℕ)
words_in [] = []
words_in (alone word ∷ items) = word ∷ words_in items
words_in (set s n ∷ items) = words_in items

-- what the options set it to, in order
abbrev pub numbers_for : Setting → List Item → List ℕ
numbers_for s [] = []
numbers_for s (alone word ∷ items) = numbers_for s items
numbers_for tries (set tries n ∷ items) = n ∷ numbers_for tries items
numbers_for depth (set depth n ∷ items) = n ∷ numbers_for depth items
numbers_for visited (set visited n ∷ items) = n ∷ numbers_for visited items
numbers_for steps (set steps n ∷ items) = n ∷ numbers_for steps items
numbers_for s (set t n ∷ items) = numbers_for s items

-- the items set it to n: by the one option for it, within its limits; or there is none, and n is what is usual
abbrev pub SetTo : List Item → Setting → ℕ → Type 0
SetTo items s n = ((numbers_for s items ≡ []) × (n ≡ usual s)) ⊎ ((numbers_for s items ≡ n ∷ []) × (least s ≤ n) × (n ≤ most s))

-- no option sets it
abbrev pub IsUnset : List Item → Setting → Type 0
IsUnset items s = numbers_for s items ≡ []

-- what bounds a search
pub record Bounds : Type 0 where
  pub tries : ℕ
  pub depth : ℕ
  pub visited : ℕ

-- the items bound a search so, and set nothing else
pub record SetBounds (items : List Item) (b : Bounds) : Type 0 where
  pub tries : SetTo items tries b.tries
  pub depth : SetTo items depth b.depth
  pub visited : SetTo items visited b.visited
  pub steps : IsUnset items steps

-- the items set how many steps a reduction takes at most, and nothing else
pub record SetSteps (items : List Item) (n : ℕ) : Type 0 where
  pub steps : SetTo items steps n
  pub tries : IsUnset items tries
  pub depth : IsUnset items depth
  pub visited : IsUnset items visited

-- the items set how many clauses a finder may learn, and nothing else
pub record SetTries (items : List Item) (n : ℕ) : Type 0 where
  pub tries : SetTo items tries n
  pub depth : IsUnset items depth
  pub visited : IsUnset items visited
  pub steps : IsUnset items steps

-- what the words may ask for: to check a certificate for a system, to search for a proof of termination or a loop
-- within bounds, to show a system, to prove the generated system with a number, to reduce a term of a system by at most
-- n steps, to write a certificate in the second version of the format, or to refute that a projection helps where a
-- search is stuck, by at most n clauses
pub data Request : Type 0 where
  check : (file cert : List ℕ) → Request
  prove : (file : List ℕ) (b : Bounds) → Request
  show : (file : List ℕ) → Request
  gen : (n : ℕ) → Request
  reduce : (file term : List ℕ) (n : ℕ) → Request
  upgrade : (file cert : List ℕ) → Request
  refute : (file : List ℕ) (n : ℕ) → Request

-- the words ask for it: a command, and behind it its files, options, number and term
abbrev pub Asks : List (List ℕ) → Request → Type 0
Asks words (check file cert) = (more : List (List ℕ)) × (words ≡ codes "check" ∷ more) × Say more (alone file ∷ alone cert ∷ [])
Asks words (prove file b) =
    (more : List (List ℕ)) × (items : List Item) × (words ≡ codes "prove" ∷ more) × Say more items × (words_in items ≡ file ∷ [])
    × SetBounds items b
Asks words (show file) = (more : List (List ℕ)) × (words ≡ codes "show" ∷ more) × Say more (alone file ∷ [])
Asks words (gen n) = (more : List (List ℕ)) × (words ≡ codes "gen" ∷ more) × Say more (alone (decimal n) ∷ []) × (1 ≤ n) × (n ≤ most_generated)
Asks words (reduce file term n) =
    (more : List (List ℕ)) × (items : List Item) × (words ≡ codes "reduce" ∷ more) × Say more items
    × (words_in items ≡ file ∷ term ∷ []) × SetSteps items n
Asks words (upgrade file cert) = (more : List (List ℕ)) × (words ≡ codes "upgrade" ∷ more) × Say more (alone file ∷ alone cert ∷ [])
Asks words (refute file n) =
    (more : List (List ℕ)) × (items : List Item) × (words ≡ codes "refute" ∷ more) × Say more items × (words_in items ≡ file ∷ [])
    × SetTries items n
