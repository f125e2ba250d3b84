-- Orders written by bits. Each symbol has a bit for each place that may be kept, then one for each place that may be
-- picked, and then those of its precedence, the lowest one first. The symbols stand in order of declaration, and behind
-- them the marked symbols of the set.
use Rattle.std.specs.Prelude.{ℕ, zero, suc, ◌+◌, ◌-◌, ◌*◌, ◌/◌, ◌<◌, ◌≡◌, ◌==◌, Bool, if◌then◌else◌, List, [], ◌∷◌, ◌++◌, Option, None, Some, length, map, slice_get}
use Rattle.wh_types.specs.Ty.{Ty}
use Rattle.wh_reduction_pairs.specs.TaskData.{TaskData}
use Rattle.wh_order_inference.specs.FilterText.{WrittenFilter, keeps, picks}
use Rattle.wh_order_node.specs.Filterings.{FilteringData, IsProperAsWritten}
use Rattle.wh_poly_guesses.specs.Coefficients.{scopes_of}
use Rattle.wh_order_space.specs.Space.{symbol_count}

-- how many bits a number has, where it is below 2^most
abbrev pub binary_length : (most n : ℕ) → ℕ
binary_length zero n = 0
binary_length (suc most) n = if n == 0 then 0 else suc (binary_length most (n / 2))

-- how many bits a precedence has: as many as the greatest one, which is one less than the number of symbols
abbrev pub precedence_bits : TaskData → List ℕ → ℕ
precedence_bits T marked = binary_length (symbol_count T marked) (symbol_count T marked - 1)

-- how many bits a symbol has, where its arguments have these types and a precedence has b bits
abbrev pub bits_of : ℕ → List Ty → ℕ
bits_of b cs = 2 * length cs + b

-- the number of the first bit of the symbol with this number, where the lists are the argument types of all symbols
-- (ours)
abbrev pub first_bit : ℕ → List (List Ty) → ℕ → ℕ
first_bit b [] n = 0
first_bit b (cs ∷ scopes) zero = 0
first_bit b (cs ∷ scopes) (suc n) = bits_of b cs + first_bit b scopes n

-- how many bits all symbols have
abbrev pub bit_count : ℕ → List (List Ty) → ℕ
bit_count b scopes = first_bit b scopes (length scopes)

-- the places, counted from `place` on, whose bits are set, of k bits from x on
abbrev pub places_from : (ℕ → Bool) → (x place k : ℕ) → List ℕ
places_from v x place zero = []
places_from v x place (suc k) = if v x then place ∷ places_from v (suc x) (suc place) k else places_from v (suc x) (suc place) k

-- the number that b bits from x on write, the lowest one first
abbrev pub number_from : (ℕ → Bool) → (x b : ℕ) → ℕ
number_from v x zero = 0
number_from v x (suc b) = (if v x then 1 else 0) + 2 * number_from v (suc x) b

-- the filter that keeps these places or picks one: with none to pick it keeps, with one to pick and none to keep it
-- picks, and else there is none (ours)
abbrev pub filter_with : (prec : ℕ) (kept picked : List ℕ) → Option WrittenFilter
filter_with prec kept [] = Some (keeps prec kept)
filter_with prec [] (place ∷ []) = Some (picks place)
filter_with prec _ _ = None

-- the filter that the bits from x on write, for a symbol with k arguments, where a precedence has b bits
abbrev pub filter_by : (ℕ → Bool) → (b x k : ℕ) → Option WrittenFilter
filter_by v b x k = filter_with (number_from v (k + (k + x)) b) (places_from v x 1 k) (places_from v (k + x) 1 k)

module _ (T : TaskData) (marked : List ℕ) where
  -- the first bit of the symbol with this number
  abbrev pub bit_from : ℕ → ℕ
  bit_from n = first_bit (precedence_bits T marked) (scopes_of T marked) n

  -- the bits of the symbol with the number n, whose arguments have these types, write this filter: it is proper, and
  -- they write a precedence below the number of symbols (ours)
  pub record IsFilterBy (v : ℕ → Bool) (n : ℕ) (f : WrittenFilter) : Type 0 where
    pub types : List Ty
    pub is : slice_get (scopes_of T marked) n ≡ Some types
    pub by_bits : filter_by v (precedence_bits T marked) (bit_from n) (length types) ≡ Some f
    pub proper : IsProperAsWritten types f
    pub low : number_from v (length types + (length types + bit_from n)) (precedence_bits T marked) < symbol_count T marked

  -- the bits write the order: the filters of all symbols and then those of the marked ones (ours)
  pub record IsWritten (v : ℕ → Bool) (D : FilteringData) : Type 0 where
    pub count : length D.symbols ≡ length T.symbols.funs
    pub marks : map (λ m. m.symbol) D.marks ≡ marked
    pub each : (n : ℕ) (f : WrittenFilter) → slice_get (D.symbols ++ map (λ m. m.filter) D.marks) n ≡ Some f → IsFilterBy v n f
