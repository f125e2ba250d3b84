-- A symbol applied to arguments, one after another.
use Rattle.std.proofs.Common.{◌≡◌, ℕ, zero, suc, ◌+◌, ◌<◌, ◌≤◌, List, [], ◌∷◌, ◌++◌, length, take, get_or, map, refl, ap, sym, ◌∙◌, arith}
use Rattle.wh_terms.specs.Tree.{Tm, app, spine}

-- a spine with one more argument
pub spine_more : (h : Tm) (ts : List Tm) (t : Tm) → spine h (ts ++ t ∷ []) ≡ app (spine h ts) t
spine_more h [] t = refl
spine_more h (u ∷ ts) t = spine_more (app h u) ts t

-- one more element is taken
pub take_mapped : {A B : Type 0} (f : A → B) (xs : List A) (i : ℕ) (x : A) → x ≡ get_or xs i x → i < length xs
    → map f (take (i + 1) xs) ≡ map f (take i xs) ++ f x ∷ []
take_mapped f [] i x e h = absurd (omega (arith, h))
take_mapped f (y ∷ xs) zero x e h = let z : 0 + 1 ≡ 1 = omega arith in ap (λ k. map f (take k (y ∷ xs))) z ∙ ap (λ y. f y ∷ []) (sym e)
take_mapped f (y ∷ xs) (suc i) x e h =
    let k : suc i + 1 ≡ suc (i + 1) = omega arith in
    ap (λ k. map f (take k (y ∷ xs))) k ∙ ap (λ l. f y ∷ l) (take_mapped f xs i x e (omega (arith, h)))

pub take_end : {A : Type 0} (xs : List A) (i : ℕ) → length xs ≤ i → take i xs ≡ xs
take_end [] zero h = refl
take_end [] (suc i) h = refl
take_end (x ∷ xs) zero h = absurd (omega (arith, h))
take_end (x ∷ xs) (suc i) h = ap (λ l. x ∷ l) (take_end xs i (omega (arith, h)))
