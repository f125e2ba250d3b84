-- What printers append that print the items of a list, one after another.
use Rattle.std.proofs.Common.{◌≡◌, ℕ, ◌+◌, ◌<◌, ◌≤◌, List, [], ◌∷◌, ◌++◌, length, get_or, drop, sym, ap, ◌∙◌}
use Rattle.std.proofs.lemmas.List.{drop_more, drop_all}
use Rattle.wh_text.specs.Pushes.{Pushes}
use Rattle.wh_text.proofs.PrintLemmas.{Leaves}

-- one more of a list, each of which appends what `one` spells
pub next_left : {X : Type 0} (one : X → List ℕ → List ℕ) (all : List X → List ℕ → List ℕ) → ((x : X) (xs : List X) (r : List ℕ) → one x (all xs r) ≡ all (x ∷ xs) r) → (old a b : List ℕ) (whole : List ℕ → List ℕ) (xs : List X) (i : ℕ) (x : X) → Leaves old a (all (drop i xs)) whole → i < length xs → x ≡ get_or xs i x → Pushes a b (one x) → Leaves old b (all (drop (i + 1) xs)) whole
next_left {X} one all joins old a b whole xs i x left below is part =
    let next : drop i xs ≡ x ∷ drop (i + 1) xs = drop_more xs i x below ∙ ap (λ (y : X). y ∷ drop (i + 1) xs) (sym is) in
    record { behind = λ r. part.behind (all (drop (i + 1) xs) r) ∙ ap (λ (s : List ℕ). a ++ s) (joins x (drop (i + 1) xs) r) ∙ ap (λ (ys : List X). a ++ all ys r) (sym next) ∙ left.behind r }

pub none_left : {X : Type 0} (all : List X → List ℕ → List ℕ) → ((r : List ℕ) → all [] r ≡ r) → (old a : List ℕ) (whole : List ℕ → List ℕ) (xs : List X) (i : ℕ) → Leaves old a (all (drop i xs)) whole → length xs ≤ i → Pushes old a whole
none_left {X} all ends old a whole xs i left past =
    record { behind = λ r. ap (λ (s : List ℕ). a ++ s) (sym (ends r)) ∙ ap (λ (ys : List X). a ++ all ys r) (sym (drop_all i xs past)) ∙ left.behind r }
