-- Equal lists of trees, tree by tree.
use Rattle.std.proofs.Common.{◌≡◌, ℕ, zero, suc, ◌+◌, ◌<◌, List, [], ◌∷◌, length, take, get_or, refl, ap, sym, ◌∙◌, arith}
use Rattle.wh_terms.specs.Tree.{none, more, count}
use Rattle.wh_terms.specs.Erase.{tm, tms}
use Rattle.wh_terms.specs.declared.term.Term.{Term}
use Rattle.wh_terms.proofs.TermLemmas.{join, tms_take_next}

pub count_tms : (xs : List Term) → count (tms xs) ≡ length xs
count_tms [] = refl
count_tms (x ∷ xs) = omega (arith, count_tms xs)

-- lists of equal trees are equally long
pub same_length : (xs ys : List Term) → tms xs ≡ tms ys → length xs ≡ length ys
same_length xs ys e = sym (count_tms xs) ∙ ap count e ∙ count_tms ys

-- and have equal trees at each place
pub same_at : (xs ys : List Term) (i : ℕ) (x y : Term) → tms xs ≡ tms ys → i < length xs → x ≡ get_or xs i x → y ≡ get_or ys i y → tm x ≡ tm y
same_at [] ys i x y e within ex ey = absurd (omega arith)
same_at (x' ∷ xs) [] i x y e within ex ey = absurd (omega (arith, same_length (x' ∷ xs) [] e))
same_at (x' ∷ xs) (y' ∷ ys) zero x y e within ex ey =
    let here : tm x' ≡ tm y' = cc in ap tm ex ∙ here ∙ sym (ap tm ey)
same_at (x' ∷ xs) (y' ∷ ys) (suc i) x y e within ex ey =
    let rest : tms xs ≡ tms ys = cc in same_at xs ys i x y rest (omega arith) ex ey

-- one more equal tree at the end
pub same_next : (xs ys : List Term) (i : ℕ) (x y : Term) → tms (take i xs) ≡ tms (take i ys) → i < length xs → length xs ≡ length ys
    → x ≡ get_or xs i x → y ≡ get_or ys i y → tm x ≡ tm y → tms (take (i + 1) xs) ≡ tms (take (i + 1) ys)
same_next xs ys i x y so_far within long ex ey e =
    tms_take_next xs i x within ex ∙ ap (λ ts. join ts (more (tm x) none)) so_far ∙ ap (λ t. join (tms (take i ys)) (more t none)) e
    ∙ sym (tms_take_next ys i y (omega arith) ey)
