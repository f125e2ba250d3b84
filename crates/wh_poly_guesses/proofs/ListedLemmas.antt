-- Numbers that are listed after the symbols of terms have joined.
use Rattle.std.proofs.Common.{◌≡◌, ℕ, ◌⊎◌, inl, inr, List, [], ◌∷◌, ◌++◌, Contains, sym, subst, arith}
use Rattle.std.proofs.lemmas.List.Elements.{Contains-push_cases, Contains-append_left, Contains-push}
use Rattle.wh_poly_guesses.specs.Uses.{Joins, ListsAll}

pub listed : (P : ℕ → Type 0) (old items seen numbers : List ℕ) → old ≡ [] → seen ≡ items → Joins P old items → ListsAll (Contains seen) numbers → ListsAll P numbers
listed P old items seen numbers none same joins lists n = (
  λ found. elim ((joins n).0 (subst (λ (l : List ℕ). Contains l n) same ((lists n).0 found))) [ inl there ↦ absurd (nothing (subst (λ (l : List ℕ). Contains l n) none there)) | inr p ↦ p ],
  λ p. (lists n).1 (subst (λ (l : List ℕ). Contains l n) (sym same) ((joins n).1 (inr p))),
)
  where
    nothing : Contains [] n → ⊥
    nothing (k, within, is) = omega (arith, within)

pub listed_mark : (P : ℕ → Type 0) (numbers new : List ℕ) (mark : ℕ) → new ≡ numbers ++ mark ∷ [] → ListsAll P numbers → ListsAll (λ n. P n ⊎ (n ≡ mark)) new
listed_mark P numbers new mark pushed lists = subst (ListsAll (λ n. P n ⊎ (n ≡ mark))) (sym pushed) (λ n. (
  λ found. elim (Contains-push_cases numbers mark n found) [ inl there ↦ inl ((lists n).0 there) | inr same ↦ inr (sym same) ],
  λ h. elim h [ inl p ↦ Contains-append_left numbers (mark ∷ []) n ((lists n).1 p) | inr same ↦ subst (Contains (numbers ++ mark ∷ [])) (sym same) (Contains-push numbers mark) ],
))
