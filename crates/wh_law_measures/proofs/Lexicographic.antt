-- Lists that begin with a number: when one is less than another, or not more.
use Rattle.std.proofs.Common.{◌≡◌, ℕ, ◌<◌, ◌≤◌, inl, inr, List, ◌∷◌, sym, ◌∙◌, ap₂, subst₂, eq-or-lt_of_le}
use Rattle.wh_law_measures.specs.Lexicographic.{IsLess, IsNotMore}

-- a smaller number at the head
pub headed_less : {l m : List ℕ} (a b : ℕ) (k n : List ℕ) → l ≡ a ∷ k → m ≡ b ∷ n → a < b → IsLess l m
headed_less a b k n e d less = subst₂ IsLess (sym e) (sym d) (inl less)

-- no greater number at the head, and less behind it
pub behind_less : {l m : List ℕ} (a b : ℕ) (k n : List ℕ) → l ≡ a ∷ k → m ≡ b ∷ n → a ≤ b → IsLess k n → IsLess l m
behind_less a b k n e d le less = elim (eq-or-lt_of_le le) [
  | inl same ↦ subst₂ IsLess (sym e) (sym d) (inr (same, less))
  | inr smaller ↦ headed_less a b k n e d smaller
]

-- no greater number at the head, and not more behind it
pub headed_not_more : {l m : List ℕ} (a b : ℕ) (k n : List ℕ) → l ≡ a ∷ k → m ≡ b ∷ n → a ≤ b → IsNotMore k n → IsNotMore l m
headed_not_more a b k n e d le (inl is) = elim (eq-or-lt_of_le le) [
  | inl same ↦ inl (e ∙ ap₂ ◌∷◌ same is ∙ sym d)
  | inr smaller ↦ inr (headed_less a b k n e d smaller)
]
headed_not_more a b k n e d le (inr less) = inr (behind_less a b k n e d le less)
