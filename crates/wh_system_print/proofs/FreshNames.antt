-- The names of fresh meta-variables, behind those of a rule.
use Rattle.std.proofs.Common.{◌≡◌, ℕ, zero, suc, ◌+◌, ◌-◌, ◌<◌, ◌≤◌, List, [], ◌∷◌, ◌++◌, length, get_or, refl, sym, ap, ◌∙◌, arith, append_assoc}
use Rattle.std.specs.Fmt.{decimal}
use Rattle.std.proofs.lemmas.List.{length-append, get_or-append-add}
use Rattle.wh_system.specs.Canonical.{name_at}
use Rattle.wh_system_print.specs.PairText.{fresh_name, fresh_names}

pub length-fresh_names : (k n : ℕ) → length (fresh_names k n) ≡ n
length-fresh_names k zero = refl
length-fresh_names k (suc n) = ap suc (length-fresh_names (k + 1) n)

fresh-at : (k n i : ℕ) (d : List ℕ) → i < n → get_or (fresh_names k n) i d ≡ fresh_name (k + i)
fresh-at k zero i d below = absurd (omega arith)
fresh-at k (suc n) zero d below = let e : k ≡ k + 0 = omega arith in ap fresh_name e
fresh-at k (suc n) (suc i) d below = let e : k + 1 + i ≡ k + suc i = omega arith in fresh-at (k + 1) n i d (omega arith) ∙ ap fresh_name e

-- a number behind those of the rule's own
name-fresh : (own : List (List ℕ)) (n z : ℕ) → length own ≤ z → z < length (own ++ fresh_names 0 n) → name_at (own ++ fresh_names 0 n) z ≡ fresh_name (z - length own)
name-fresh own n z past inside =
    let i : ℕ = z - length own in
    let e : z ≡ length own + i = omega arith in
    let f : 0 + i ≡ i = omega arith in
    let few : i < n = omega (arith, inside, length-append own (fresh_names 0 n), length-fresh_names 0 n) in
    ap (name_at (own ++ fresh_names 0 n)) e ∙ get_or-append-add own (fresh_names 0 n) i [] ∙ fresh-at 0 n i [] few ∙ ap fresh_name f

pub fresh_pushed : (own : List (List ℕ)) (n z i : ℕ) (a b c : List ℕ) → length own ≤ z → z < length (own ++ fresh_names 0 n) → i ≡ z - length own → b ≡ a ++ 63 ∷ [] → c ≡ b ++ decimal i
    → c ≡ a ++ name_at (own ++ fresh_names 0 n) z
fresh_pushed own n z i a b c past inside counted mark number =
    number ∙ ap (λ (s : List ℕ). s ++ decimal i) mark ∙ append_assoc a (63 ∷ []) (decimal i) ∙ ap (λ (j : ℕ). a ++ fresh_name j) counted
    ∙ ap (λ (s : List ℕ). a ++ s) (sym (name-fresh own n z past inside))
