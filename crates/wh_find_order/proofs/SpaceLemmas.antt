-- The filters of an order by the numbers of the symbols, and the bits that write them.
use Rattle.std.proofs.Common.{◌≡◌, ℕ, zero, suc, ◌+◌, ◌-◌, ◌*◌, ◌<◌, ◌≤◌, ◌^◌, inl, inr, Bool, List, [], ◌∷◌, ◌++◌, length, map, Some, slice_get, ap, ap₂, sym, subst, ◌∙◌, arith}
use Rattle.std.proofs.lemmas.List.{length-map, length-append}
use Rattle.std.proofs.lemmas.List.Elements.{All-contains}
use Rattle.std.proofs.lemmas.Option.{slice_get-get_or, slice_get_within}
use Rattle.wh_types.specs.Ty.{Ty, arguments}
use Rattle.wh_pairs.proofs.ByPlace.{contains_at, unmap, remap, some_one}
use Rattle.wh_reduction_pairs.specs.TaskData.{TaskData}
use Rattle.wh_polycheck.specs.Marks.{marked_types}
use Rattle.wh_polycheck.proofs.MoreInterpretations.{slice_get_behind}
use Rattle.wh_order_inference.specs.FilterText.{WrittenFilter, keeps, picks}
use Rattle.wh_order_node.specs.Filterings.{FilteringData, MarkFilter, IsProperAsWritten}
use Rattle.wh_order.specs.TreeSides.{AreFilters}
use Rattle.wh_poly_space.proofs.SpotLemmas.{at_append}
use Rattle.wh_poly_covering.proofs.Walks.{some_at}
use Rattle.wh_poly_guesses.specs.Coefficients.{scopes_of}
use Rattle.wh_order_space.specs.Space.{symbol_count, IsLow, IsOfSpace}
use Rattle.wh_order_space.specs.Bits.{bits_of, precedence_bits, filter_by, bit_from, IsFilterBy, IsWritten}
use Rattle.wh_order_space.proofs.FirstLemmas.{first_next}
use Rattle.wh_find_order.proofs.BitLemmas.{filter_alike, precedence_alike}
use Rattle.wh_find_order.proofs.WrittenOrders.{prec_of, order_bit, order_bits, filter_written, precedence_written, length_holds}

pub some_same : {A : Type 0} {x y : A} → Some x ≡ Some y → x ≡ y
some_same e = cc

-- an element of a list stands where that list joins another one
pub at_front : {A : Type 0} (xs ys : List A) (i : ℕ) (x : A) → slice_get xs i ≡ Some x → slice_get (xs ++ ys) i ≡ Some x
at_front [] ys i x e = absurd (cc)
at_front (z ∷ xs) ys zero x e = e
at_front (z ∷ xs) ys (suc i) x e = at_front xs ys i x e

-- the filters of all symbols, and then those of the marked ones
abbrev pub all_filters : FilteringData → List WrittenFilter
all_filters D = D.symbols ++ map (λ (m : MarkFilter). m.filter) D.marks

pub filters_long : (D : FilteringData) → length (all_filters D) ≡ length D.symbols + length D.marks
filters_long D =
    omega (
      arith,
      length-append D.symbols (map (λ (m : MarkFilter). m.filter) D.marks),
      length-map D.marks (λ (m : MarkFilter). m.filter),
    )

pub count_is : (T : TaskData) (marked : List ℕ) → length (scopes_of T marked) ≡ symbol_count T marked
count_is T marked =
    omega (
      arith,
      length-append (map arguments T.symbols.funs) (map (marked_types T.symbols T.rules) marked),
      length-map T.symbols.funs arguments,
      length-map marked (marked_types T.symbols T.rules),
    )

pub symbol_scope : (T : TaskData) (marked : List ℕ) (f : ℕ) (a : Ty) → slice_get T.symbols.funs f ≡ Some a
    → slice_get (scopes_of T marked) f ≡ Some (arguments a)
symbol_scope T marked f a at =
    at_front (map arguments T.symbols.funs) (map (marked_types T.symbols T.rules) marked) f (arguments a) (remap arguments T.symbols.funs f a at)

pub mark_scope : (T : TaskData) (marked : List ℕ) (i f : ℕ) → slice_get marked i ≡ Some f
    → slice_get (scopes_of T marked) (length T.symbols.funs + i) ≡ Some (marked_types T.symbols T.rules f)
mark_scope T marked i f at =
    ap (λ n. slice_get (scopes_of T marked) (n + i)) (sym (length-map T.symbols.funs arguments))
    ∙ slice_get_behind (map arguments T.symbols.funs) (map (marked_types T.symbols T.rules) marked) i
    ∙ remap (marked_types T.symbols T.rules) marked i f at

-- a filter of the order with this number is proper, and low
pub record IsGoodFilter (T : TaskData) (marked : List ℕ) (n : ℕ) (w : WrittenFilter) : Type 0 where
  pub types : List Ty
  pub is : slice_get (scopes_of T marked) n ≡ Some types
  pub proper : IsProperAsWritten types w
  pub low : IsLow (symbol_count T marked) w

module _ (T : TaskData) (marked : List ℕ) (D : FilteringData) (of : IsOfSpace T D) (same : map (λ m. m.symbol) D.marks ≡ marked) where
  marks_long : length D.marks ≡ length marked
  marks_long = sym (length-map D.marks (λ (m : MarkFilter). m.symbol)) ∙ ap length same

  long : length D.symbols + length D.marks ≡ symbol_count T marked
  long = ap₂ (λ m n. m + n) of.filters.each_symbol marks_long

  pub each_good : (n : ℕ) (w : WrittenFilter) → slice_get (all_filters D) n ≡ Some w → IsGoodFilter T marked n w
  each_good n w at = elim (at_append D.symbols (map (λ (m : MarkFilter). m.filter) D.marks) n w at) [
    | inl front ↦
        let within = slice_get_within D.symbols n w front in
        let (a, kind) = some_at T.symbols.funs n (omega (arith, within, of.filters.each_symbol)) in record {
          types = arguments a;
          is = symbol_scope T marked n a kind;
          proper = of.symbols n a w kind front;
          low = subst (λ k. IsLow k w) long (All-contains (IsLow (length D.symbols + length D.marks)) D.symbols w of.symbols_low (contains_at D.symbols n w front));
        }
    | inr (i, n_is, behind) ↦
        let (m, m_at, m_is) = unmap (λ (m : MarkFilter). m.filter) D.marks i w behind in
        let f = m.symbol in
        let there : slice_get marked i ≡ Some f = ap (λ l. slice_get l i) (sym same) ∙ remap (λ (m : MarkFilter). m.symbol) D.marks i m m_at in
        let number : n ≡ length T.symbols.funs + i = n_is ∙ ap (λ k. k + i) of.filters.each_symbol in record {
          types = marked_types T.symbols T.rules f;
          is = ap (slice_get (scopes_of T marked)) number ∙ mark_scope T marked i f there;
          proper = subst (IsProperAsWritten (marked_types T.symbols T.rules f)) m_is (of.marks i m m_at);
          low = subst (IsLow (symbol_count T marked)) m_is
              (subst (λ k. IsLow k m.filter) long (All-contains (λ m. IsLow (length D.symbols + length D.marks) m.filter) D.marks m of.marks_low (contains_at D.marks i m m_at)));
        }
  ]

  abbrev bits : ℕ → Bool
  bits = order_bit (precedence_bits T marked) (scopes_of T marked) (all_filters D)

  low_prec : (n : ℕ) (w : WrittenFilter) → n < symbol_count T marked → IsLow (symbol_count T marked) w → prec_of w < symbol_count T marked
  low_prec n (keeps prec ns) some low = low
  low_prec n (picks place) some low = omega (arith, some)

  each_written : (n : ℕ) (w : WrittenFilter) → slice_get (all_filters D) n ≡ Some w → IsFilterBy T marked bits n w
  each_written n w at =
      let b = precedence_bits T marked in
      let good = each_good n w at in
      let within = slice_get_within (scopes_of T marked) n good.types good.is in
      let low = low_prec n w (omega (arith, within, count_is T marked)) good.low in
      let enough = length_holds (symbol_count T marked) (symbol_count T marked - 1) (omega arith) in
      let fits : prec_of w < 2 ^ b = omega (arith, low, enough) in
      let is = order_bits b (scopes_of T marked) (all_filters D) n good.types w good.is at in record {
        types = good.types;
        is = good.is;
        by_bits = filter_written bits b (bit_from T marked n) good.types w good.proper fits is;
        proper = good.proper;
        low = subst (λ p. p < symbol_count T marked) (sym (precedence_written bits b (bit_from T marked n) good.types w good.proper fits is)) low;
      }

  -- the bits that write the order
  pub order_written : (v : ℕ → Bool) × IsWritten T marked v D
  order_written = (bits, record { count = of.filters.each_symbol; marks = same; each = each_written })

  pub order_filters : AreFilters T.symbols T.rules D
  order_filters = record { each_symbol = of.filters.each_symbol; symbols = of.symbols; marks = of.marks }

-- bits that agree on those of a symbol write the same filter for it
module _ (T : TaskData) (marked : List ℕ) (v g : ℕ → Bool) (n : ℕ)
    (alike : (x : ℕ) → bit_from T marked n ≤ x → x < bit_from T marked (suc n) → v x ≡ g x) where
  near : (types : List Ty) → slice_get (scopes_of T marked) n ≡ Some types → (y : ℕ) → y < 2 * length types + precedence_bits T marked
      → v (bit_from T marked n + y) ≡ g (bit_from T marked n + y)
  near types is y below =
      let within = slice_get_within (scopes_of T marked) n types is in
      let there = some_same (sym (slice_get-get_or (scopes_of T marked) n types within) ∙ is) in
      let next = first_next (precedence_bits T marked) (scopes_of T marked) n types within in
      let many = ap (bits_of (precedence_bits T marked)) there in
      alike (bit_from T marked n + y) (omega arith) (omega (arith, below, next, many))

  pub filter_moved : (w : WrittenFilter) → IsFilterBy T marked v n w → IsFilterBy T marked g n w
  filter_moved w h =
      let b = precedence_bits T marked in
      let x = bit_from T marked n in
      let k = length h.types in record {
        types = h.types;
        is = h.is;
        by_bits = sym (filter_alike v g b x k (near h.types h.is)) ∙ h.by_bits;
        proper = h.proper;
        low = subst (λ p. p < symbol_count T marked) (precedence_alike v g b x k (near h.types h.is)) h.low;
      }

-- the bits of a symbol write one filter
pub one_filter : (T : TaskData) (marked : List ℕ) (v : ℕ → Bool) (n : ℕ) (w u : WrittenFilter) → IsFilterBy T marked v n w → IsFilterBy T marked v n u → w ≡ u
one_filter T marked v n w u h k =
    let types : h.types ≡ k.types = some_one h.is k.is in
    some_same (sym h.by_bits ∙ ap (λ (cs : List Ty). filter_by v (precedence_bits T marked) (bit_from T marked n) (length cs)) types ∙ k.by_bits)
