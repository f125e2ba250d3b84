-- Names end with no mark.
use Rattle.std.proofs.Common.{ℕ, ◌≡◌, ◌++◌, List, [], ◌∷◌, codes, arith, subst}
use Rattle.std.proofs.lemmas.Bool.Decides.{nat_tests}
use Rattle.wh_text.specs.Chars.{AllPass, is_part}
use Rattle.wh_text.specs.Words.{IsWord}

no_mark : (w : List ℕ) → AllPass is_part (w ++ codes "#") → ⊥
no_mark [] h = grind (arith, nat_tests)
no_mark (b ∷ bs) h = no_mark bs h.1

-- no word ends with a mark
pub word_no_mark : (v w : List ℕ) → IsWord v → v ≡ w ++ codes "#" → ⊥
word_no_mark v w h e = no_mark w (subst (AllPass is_part) e h.parts)
