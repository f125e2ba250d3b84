-- What a search among choices by their symbols finds.
use Rattle.std.proofs.Common.{◌≡◌, ℕ, ◌<◌, ◌≤◌, List, length, map, get_or, Some, Result, Ok, Err, Contains, refl, sym, ap, ◌∙◌, subst, subst₂, arith}
use Rattle.std.specs.Ordering.{nat_cmp, ordering_index}
use Rattle.std.specs.List.Sorted.{IsBinarySearchResult, IsSearchInRange}
use Rattle.std.specs.declared.cmp.Ordering.TheVariants.{Less, Equal, Greater}
use Rattle.std.proofs.lemmas.List.{get_or-map, length-map}
use Rattle.std.proofs.lemmas.List.Sorted.{searched}
use Rattle.wh_pairs.specs.PairData.{IsIncreasing}
use Rattle.wh_pairs.proofs.ByPlace.{contains_at}
use Rattle.wh_pairs.proofs.Increasing.{not_falling, search_misses}
use Rattle.wh_subterm.specs.declared.projection.Choice as code
use Rattle.wh_subterm.specs.SubtermRows.{chosen, chosen_symbols}
use Rattle.wh_subterm.proofs.ChoiceLemmas.{choice, chosen_at, symbol_number}

module _ (args : List code.Choice) (f : ℕ) where
  abbrev symbols : List ℕ
  symbols = chosen_symbols (map chosen args)

  symbol_there : (k : ℕ) (e : code.Choice) (d : ℕ) → k < length args → get_or symbols k d ≡ (get_or args k e).symbol
  symbol_there k e d within =
      get_or-map (λ c. c.symbol) (map chosen args) k (chosen e) d (omega (arith, within, length-map args chosen))
      ∙ ap (λ c. c.symbol) (get_or-map chosen args k e (chosen e) within)

  long : length symbols ≡ length args
  long = length-map (map chosen args) (λ c. c.symbol) ∙ length-map args chosen

  -- the same of their symbols
  by_symbols : (r : Result ℕ ℕ) → IsSearchInRange r (length args) → IsBinarySearchResult (λ c. nat_cmp c.symbol f) args r
      → IsBinarySearchResult (λ m. nat_cmp m f) symbols r
  by_symbols (Ok i) within at = λ d.
      let e : code.Choice = record { symbol = 0; argument = 0 } in
      subst (λ m. nat_cmp m f ≡ Equal) (sym (symbol_there i e d within)) (at e)
  by_symbols (Err i) within parts = λ up.
      let e : code.Choice = record { symbol = 0; argument = 0 } in
      let parted = parts (λ a b d le below. subst₂ (λ m n. ordering_index (nat_cmp m f) ≤ ordering_index (nat_cmp n f))
      (symbol_there a d 0 (omega (arith, le, below))) (symbol_there b d 0 below) (up a b 0 le (omega (arith, below, long)))) in (
        λ k d low high. subst (λ m. nat_cmp m f ≡ Less) (sym (symbol_there k e d (omega (arith, high, within)))) (parted.0 k e low high),
        λ k d low high. let there : k < length args = omega (arith, high, long) in
            subst (λ m. nat_cmp m f ≡ Greater) (sym (symbol_there k e d there)) (parted.1 k e low there),
      )

  -- the choice at the place that is found, and that there is none where none is found
  pub choice_there : (i : ℕ) → IsIncreasing symbols → i < length args → IsBinarySearchResult (λ c. nat_cmp c.symbol f) args (Ok i)
      → Contains (map chosen args) (record { symbol = f; argument = (choice args i).argument })
  choice_there i up within at =
      let there = chosen_at args i within in
      let said = searched symbols f (Ok i) (by_symbols (Ok i) within at) (not_falling symbols up) in
      contains_at (map chosen args) i (record { symbol = f; argument = (choice args i).argument })
      (there ∙ ap (λ g. Some (record { symbol = g; argument = (choice args i).argument })) (sym (symbol_number args i within) ∙ said.1))

  pub choice_missing : (i : ℕ) → IsIncreasing symbols → i ≤ length args → IsBinarySearchResult (λ c. nat_cmp c.symbol f) args (Err i)
      → Contains symbols f → ⊥
  choice_missing i up within at = search_misses symbols f (Err i) up (by_symbols (Err i) within at) refl
