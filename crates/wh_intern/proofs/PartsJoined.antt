-- What joins a table where a tree is added whole: its parts, and nothing else.
use Rattle.std.proofs.Common.{ℕ, ◌≡◌, ◌<◌, ◌⊎◌, ◌↔◌, inl, inr, List, length, get_or, All, Contains, Some, slice_get, sym, ap, ◌∙◌, subst, arith}
use Rattle.std.proofs.lemmas.List.{length-append, get_or_default, get_or_append_left}
use Rattle.std.proofs.lemmas.List.Elements.{All-get_or, Contains-append_cases}
use Rattle.std.proofs.lemmas.Option.{slice_get_within}
use Rattle.wh_terms.specs.Tree.{Tm}
use Rattle.wh_terms.specs.Tree as t
use Rattle.wh_intern.specs.Trees.{tree_at, IsPart, Grows}
use Rattle.wh_intern.proofs.AddLaws.{tree_found}

-- a member of a list of which all are P is P
of_all : (P : Tm → Type 0) (ts : List Tm) (s : Tm) → All P ts → Contains ts s → P s
of_all P ts s a (k, within, is) = subst P is (All-get_or P ts k s within a)

pub parts_joined : (old new : List Tm) (u : Tm) (n : ℕ) → slice_get new n ≡ Some u → Grows old new u
    → ((m : ℕ) (s : Tm) → m < length new → IsPart s (tree_at new m) → (k : ℕ) × (k < length new) × (tree_at new k ≡ s))
    → (s : Tm) → Contains new s ↔ (Contains old s ⊎ IsPart s u)
parts_joined old new u n here g has s = (λ c. came (Contains-append_cases old g.parts s (subst (λ ts. Contains ts s) g.behind c)), λ h. there h)
  where
    came : Contains old s ⊎ Contains g.parts s → Contains old s ⊎ IsPart s u
    came (inl c) = inl c
    came (inr c) = inr (of_all (λ w. IsPart w u) g.parts s g.all c)

    there : Contains old s ⊎ IsPart s u → Contains new s
    there (inl (k, within, is)) = (
      k,
      omega (arith, within, ap length g.behind ∙ length-append old g.parts),
      ap (λ ts. get_or ts k s) g.behind ∙ get_or_append_left old g.parts s k within ∙ is,
    )
    there (inr h) =
        let found = has n s (slice_get_within new n u here) (subst (IsPart s) (sym (tree_found new n u here)) h) in
        (found.0, found.1, get_or_default new found.0 s (t.bound 0) found.1 ∙ found.2)
