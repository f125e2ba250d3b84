-- Entries with few hints, one after the other.
use Rattle.std.proofs.Common.{◌≡◌, ℕ, ◌+◌, ◌<◌, ◌≤◌, List, [], ◌∷◌, ◌++◌, length, get_or, take, All, Contains, sym, ap, subst, ◌∙◌}
use Rattle.std.proofs.lemmas.List.{take_all, take_more}
use Rattle.std.proofs.lemmas.List.Elements.{All-contains, All-push}
use Rattle.wh_sat_trail.specs.declared.entry.Entry.{Entry}

-- there are no more hints than that number, and one more
abbrev pub HasFew : ℕ → Entry → Type 0
HasFew n e = length e.hints ≤ n + 1

pub few_more : (n : ℕ) (xs : List Entry) (i : ℕ) (x : Entry) → All (HasFew n) (take i xs) → HasFew n x → i < length xs → x ≡ get_or xs i x
    → All (HasFew n) (take (i + 1) xs)
few_more n xs i x all one within here =
    subst (All (HasFew n)) (sym (take_more xs i x within ∙ ap (λ y. take i xs ++ y ∷ []) (sym here))) (All-push (HasFew n) (take i xs) x all one)

pub few_all : (n : ℕ) (xs : List Entry) (i : ℕ) → All (HasFew n) (take i xs) → length xs ≤ i → (e : Entry) → Contains xs e → HasFew n e
few_all n xs i all past e found = All-contains (HasFew n) xs e (subst (All (HasFew n)) (take_all i xs past) all) found
