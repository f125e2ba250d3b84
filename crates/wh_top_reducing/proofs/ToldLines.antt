-- The lines, one after another.
use Rattle.std.proofs.Common.{◌≡◌, ℕ, List, [], ◌∷◌, ◌++◌, ◌∙◌, append_assoc}
use Rattle.wh_text.specs.Pushes.{Pushes}

-- the last two lines behind the bytes b, joined byte by byte
pub last_lines : (b word : List ℕ) → ((b ++ (10 ∷ [])) ++ word) ++ (10 ∷ []) ≡ b ++ (10 ∷ (word ++ (10 ∷ [])))
last_lines b word =
    append_assoc (b ++ (10 ∷ [])) word (10 ∷ []) ∙ append_assoc b (10 ∷ []) (word ++ (10 ∷ []))

pub first_line : (word number r : List ℕ) → ((word ++ number) ++ (10 ∷ [])) ++ r ≡ word ++ (number ++ (10 ∷ r))
first_line word number r =
    append_assoc (word ++ number) (10 ∷ []) r ∙ append_assoc word number (10 ∷ r)

-- all of them: a word and a number, what is pushed behind them, and another word
pub all_lines : (word number last b text : List ℕ) (put : List ℕ → List ℕ) → Pushes ((word ++ number) ++ (10 ∷ [])) b put
    → text ≡ ((b ++ (10 ∷ [])) ++ last) ++ (10 ∷ []) → text ≡ word ++ (number ++ (10 ∷ put (10 ∷ (last ++ (10 ∷ [])))))
all_lines word number last b text put pushes is =
    is ∙ last_lines b last ∙ pushes.behind (10 ∷ (last ++ (10 ∷ []))) ∙ first_line word number (put (10 ∷ (last ++ (10 ∷ []))))
