-- A tree of a table, built again.
use Rattle.std.proofs.Common.{ℕ, ◌≡◌, ◌+◌, ◌<◌, List, [], ◌∷◌, ◌++◌, length, take, get_or, All, Contains, sym, ap, ap₂, ◌∙◌}
use Rattle.std.proofs.lemmas.List.{take_more}
use Rattle.std.proofs.lemmas.List.Elements.{Contains-get_or}
use Rattle.wh_terms.specs.Tree.{Tm, none, more}
use Rattle.wh_terms.specs.Erase.{tm, tms}
use Rattle.wh_terms.specs.declared.term.Term.{Term}
use Rattle.wh_terms.proofs.TermLemmas.{join, tms_append}
use Rattle.wh_intern.specs.Trees.{tree_at, trees_at}
use Rattle.wh_intern.proofs.AddLaws.{trees_at_push}

pub all_below : (ns ms : List ℕ) (k : ℕ) → ms ≡ ns → ((n : ℕ) → Contains ns n → n < k) → All (λ n. n < k) ms
all_below ns ms k e f = λ i d h. f (get_or ms i d) (rw (sym e) (Contains-get_or ms i d h))

pub terms_next : (T : List Tm) (ns : List ℕ) (i : ℕ) (out new : List Term) (r : Term) → tms out ≡ trees_at T (take i ns) → new ≡ out ++ r ∷ []
    → tm r ≡ tree_at T (get_or ns i 0) → i < length ns → tms new ≡ trees_at T (take (i + 1) ns)
terms_next T ns i out new r same pushed equal within =
    ap tms pushed ∙ tms_append out (r ∷ []) ∙ ap₂ (λ us v. join us (more v none)) same equal
    ∙ sym (ap (trees_at T) (take_more ns i 0 within) ∙ trees_at_push T (take i ns) (get_or ns i 0))
