-- What is read at a place of a list that stands for another one.
use Rattle.std.proofs.Common.{◌≡◌, ℕ, ◌<◌, List, length, map, get_or, Some, slice_get, subst}
use Rattle.wh_pairs.proofs.ByPlace.{read_map}

pub read_of : {A B : Type 0} (f : A → B) (xs : List A) (ys : List B) (i : ℕ) (x : A) → map f xs ≡ ys → i < length xs → x ≡ get_or xs i x
    → slice_get ys i ≡ Some (f x)
read_of f xs ys i x same within is = subst (λ l. slice_get l i ≡ Some (f x)) same (read_map f xs i x within is)
