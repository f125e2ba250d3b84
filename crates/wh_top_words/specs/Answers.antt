-- What a command asks for with what is kept of the words behind it. Only contracts of private functions cite this.
use Rattle.std.specs.Prelude.{ℕ, ◌≡◌, ◌≤◌, List, [], ◌∷◌, Option, MatchOption, codes}
use Rattle.std.specs.Fmt.{decimal}
use Rattle.wh_types.specs.Limits.{most_generated}
use Rattle.wh_top_words.specs.Words.{Item, alone, words_in, SetBounds, SetSteps, SetTries, Request, check, prove, show, gen, reduce, upgrade, refute}
use Rattle.wh_top_words.specs.Asked.{request}
use Rattle.wh_top_words.specs.Kept.{Sums}
use Rattle.wh_top_words.specs.declared.kept.Kept.{Kept}
use Rattle.wh_top_words.specs.declared.words.Command.{Command}

-- the command asks for it with the items (ours)
abbrev pub Wants : List ℕ → List Item → Request → Type 0
Wants command items (check file cert) = (command ≡ codes "check") × (items ≡ alone file ∷ alone cert ∷ [])
Wants command items (prove file b) = (command ≡ codes "prove") × (words_in items ≡ file ∷ []) × SetBounds items b
Wants command items (show file) = (command ≡ codes "show") × (items ≡ alone file ∷ [])
Wants command items (gen n) = (command ≡ codes "gen") × (items ≡ alone (decimal n) ∷ []) × (1 ≤ n) × (n ≤ most_generated)
Wants command items (reduce file term n) = (command ≡ codes "reduce") × (words_in items ≡ file ∷ term ∷ []) × SetSteps items n
Wants command items (upgrade file cert) = (command ≡ codes "upgrade") × (items ≡ alone file ∷ alone cert ∷ [])
Wants command items (refute file n) = (command ≡ codes "refute") × (words_in items ≡ file ∷ []) × SetTries items n

-- the answer is what the command asks for with items that are kept so, or none where it asks for nothing (ours)
abbrev pub Answers : List ℕ → Kept → Option Command → Type 0
Answers command kept found = MatchOption found
    ((items : List Item) → Sums kept items → (asked : Request) → Wants command items asked → ⊥)
    (λ answer. (items : List Item) → Sums kept items → Wants command items (request answer))
