-- Choices and their symbols.
use Rattle.std.proofs.Common.{◌≡◌, ℕ, ◌<◌, ◌≤◌, List, length, map, get_or, Some, slice_get, Contains, ap, sym, ◌∙◌, arith}
use Rattle.std.proofs.lemmas.List.{length-map}
use Rattle.std.proofs.lemmas.Option.{get_or_from_slice_get}
use Rattle.wh_pairs.specs.PairData.{IsIncreasing}
use Rattle.wh_subterm.specs.declared.projection.Choice as code
use Rattle.wh_subterm.specs.Projections.{Chosen}
use Rattle.wh_subterm.specs.SubtermRows.{chosen, chosen_symbols}
use Rattle.wh_pairs.proofs.ByPlace.{some_one, contains_at, place_of, map_at, remap}
use Rattle.wh_pairs.proofs.Increasing.{one_place}

-- the choice and the symbol at a place, as a loop reads them

abbrev pub choice : List code.Choice → ℕ → code.Choice
choice args i = get_or args i (record { symbol = 0; argument = 0 })

pub chosen_at : (args : List code.Choice) (i : ℕ) → i < length args → slice_get (map chosen args) i ≡ Some (chosen (choice args i))
chosen_at args i within = map_at chosen args i (record { symbol = 0; argument = 0 }) within

pub symbol_at : (args : List code.Choice) (i : ℕ) → i < length args → slice_get (chosen_symbols (map chosen args)) i ≡ Some (choice args i).symbol
symbol_at args i within = remap (λ c. c.symbol) (map chosen args) i (chosen (choice args i)) (chosen_at args i within)

pub symbol_number : (args : List code.Choice) (i : ℕ) → i < length args → get_or (chosen_symbols (map chosen args)) i 0 ≡ (choice args i).symbol
symbol_number args i within = get_or_from_slice_get (chosen_symbols (map chosen args)) i (choice args i).symbol 0 (symbol_at args i within)

pub symbols_long : (args : List code.Choice) → length (chosen_symbols (map chosen args)) ≡ length args
symbols_long args = length-map (map chosen args) (λ c. c.symbol) ∙ length-map args chosen

pub symbols_past : (args : List code.Choice) (i : ℕ) → length args ≤ i → length (chosen_symbols (map chosen args)) ≤ i
symbols_past args i past = omega (arith, symbols_long args)

-- there is one choice for a symbol
pub one_choice : (args : List Chosen) (f a b : ℕ) → IsIncreasing (chosen_symbols args) → Contains args (record { symbol = f; argument = a }) → Contains args (record { symbol = f; argument = b }) → a ≡ b
one_choice args f a b up left right =
    let c : Chosen = record { symbol = f; argument = a } in
    let d : Chosen = record { symbol = f; argument = b } in
    let at = place_of args c left in
    let also = place_of args d right in
    let same = one_place (chosen_symbols args) at.0 also.0 f up (remap (λ e. e.symbol) args at.0 c at.1) (remap (λ e. e.symbol) args also.0 d also.1) in
    ap (λ (e : Chosen). e.argument) (some_one (sym (ap (slice_get args) same) ∙ at.1) also.1)

-- a choice is for its symbol
pub symbol_chosen : (args : List Chosen) (c : Chosen) → Contains args c → Contains (chosen_symbols args) c.symbol
symbol_chosen args c found =
    let at = place_of args c found in
    contains_at (chosen_symbols args) at.0 c.symbol (remap (λ e. e.symbol) args at.0 c at.1)
