-- The sets of blocks, put on a stack from the last one on.
use Rattle.std.proofs.Common.{◌≡◌, ℕ, ◌+◌, ◌-◌, ◌<◌, ◌≤◌, List, [], ◌∷◌, ◌++◌, length, get_or, drop, reverse, Contains, ap, sym, subst, ◌∙◌, arith}
use Rattle.std.proofs.lemmas.List.{drop_more, reverse-append}
use Rattle.wh_pairs.specs.Sets.{IsSetOf}
use Rattle.wh_proof.specs.Nodes.{AreSetsOf, more_sets}

pub reverse_push : {A : Type 0} (xs : List A) (x : A) → reverse (xs ++ x ∷ []) ≡ x ∷ reverse xs
reverse_push xs x = reverse-append xs (x ∷ [])

-- the sets of the blocks from a place on, with one more before them
pub sets_before : (parts sets : List (List ℕ)) (i : ℕ) (block set : List ℕ) → 0 < i → i ≤ length parts
    → block ≡ get_or parts (i - 1) block → IsSetOf (Contains block) set → AreSetsOf (drop i parts) sets
    → AreSetsOf (drop (i - 1) parts) (set ∷ sets)
sets_before parts sets i block set above within is set_is rest =
    let next : i - 1 + 1 ≡ i = omega arith in
    let split = drop_more parts (i - 1) block (omega arith) in
    let whole : drop (i - 1) parts ≡ block ∷ drop i parts = split ∙ ap (λ b. b ∷ drop (i - 1 + 1) parts) (sym is)
    ∙ ap (λ j. block ∷ drop j parts) next in
    subst (λ (l : List (List ℕ)). AreSetsOf l (set ∷ sets)) (sym whole) (more_sets set_is rest)
