-- What a vector has after its slice was written.
use Rattle.std.proofs.Common.{◌≡◌, ℕ, ◌≤◌, List, ◌++◌, length, take, drop, ap, ◌∙◌, arith}
use Rattle.std.proofs.Math.ListN.{drop_of_length-le}
use Rattle.std.proofs.lemmas.List.{append-nil, take_all}

pub back_is : {A : Type 0} (xs ys : List A) (n : ℕ) → length ys ≡ length xs → n ≡ length xs → take n (ys ++ drop (length ys) xs) ≡ ys
back_is {A = A} xs ys n long is =
    let past : length xs ≤ length ys = omega (arith, long) in
    let all : length ys ≤ n = omega (arith, long, is) in
    ap (λ (l : List A). take n (ys ++ l)) (drop_of_length-le xs past) ∙ ap (take n) (append-nil ys) ∙ take_all n ys all
