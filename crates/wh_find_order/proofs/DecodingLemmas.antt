-- Filters that bits write, one symbol after another.
use Rattle.std.proofs.Common.{◌≡◌, ℕ, zero, suc, ◌+◌, ◌*◌, ◌<◌, ◌≤◌, inl, inr, Bool, None, Some, List, [], ◌∷◌, ◌++◌, length, map, get_or, slice_get, ap, ap₂, sym, subst, ◌∙◌, arith}
use Rattle.std.proofs.lemmas.List.{length-map}
use Rattle.std.proofs.lemmas.Option.{slice_get-get_or, slice_get_within}
use Rattle.std.specs.Global.{Vec}
use Rattle.std.specs.Vec.{vec_len}
use Rattle.wh_types.specs.Ty.{Ty, arguments}
use Rattle.wh_types.specs.Erase.{ty, tys}
use Rattle.wh_types.specs.declared.simple_type.SimpleType.{SimpleType}
use Rattle.wh_pairs.proofs.ByPlace.{remap, some_one}
use Rattle.wh_pairs.proofs.ListLemmas.{map-map}
use Rattle.wh_pairs.proofs.SetLemmas.{all_from_members}
use Rattle.wh_pairs.specs.Marked.{AreMarked}
use Rattle.wh_pairs.proofs.ByPlace as by
use Rattle.wh_reduction_pairs.specs.TaskData.{TaskData}
use Rattle.wh_polycheck.specs.Marks.{marked_types}
use Rattle.wh_order_inference.specs.FilterText.{WrittenFilter, keeps, picks}
use Rattle.wh_order_inference.specs.Said.{written_filter}
use Rattle.wh_order_node.specs.Filterings as f
use Rattle.wh_order_node.specs.Filterings.{FilteringData, IsProperAsWritten}
use Rattle.wh_order_node.specs.FilteringView.{mark_filter, filtering_data}
use Rattle.wh_order_node.specs.declared.filters.Filters.{Filters}
use Rattle.wh_order_node.specs.declared.filters.MarkFilter.{MarkFilter}
use Rattle.wh_poly_space.proofs.SpotLemmas.{at_append}
use Rattle.wh_order_space.specs.Space.{symbol_count, IsLow}
use Rattle.wh_order_space.specs.Bits.{bits_of, precedence_bits, filter_by, filter_with, number_from, places_from, bit_from, IsFilterBy, IsWritten}
use Rattle.wh_find_order.specs.Encodings.{task_in, symbols_in, scopes_for, bits_for, PicksSort, IsEncoding, AreFiltersFrom}
use Rattle.wh_find_order.specs.Trials.{IsTried}
use Rattle.wh_find_order.specs.declared.encoding.Encoding.{Encoding}
use Rattle.wh_order_space.proofs.FirstLemmas.{first_next}
use Rattle.wh_find_order.proofs.BitLemmas.{first_within, proper_of_filter, picks_of_proper}
use Rattle.wh_find_order.proofs.SpaceLemmas.{some_same, count_is, symbol_scope, mark_scope}

-- what bits write, by equal tables

pub same_number : (v : ℕ → Bool) (x y k l b c : ℕ) → x ≡ y → k ≡ l → b ≡ c → number_from v (k + (k + x)) b ≡ number_from v (l + (l + y)) c
same_number v x y k l b c xs ks bs = ap₂ (number_from v) (ap₂ (λ m z. m + (m + z)) ks xs) bs

pub same_filter : (v : ℕ → Bool) (x y k l b c : ℕ) → x ≡ y → k ≡ l → b ≡ c → filter_by v b x k ≡ filter_by v c y l
same_filter v x y k l b c xs ks bs = ap₂ (λ m z. filter_by v m z k) bs xs ∙ ap (filter_by v c y) ks

-- one more filter is written
pub filters_next : (e : Encoding) (v : ℕ → Bool) (n : ℕ) (old new : List WrittenFilter) (w : WrittenFilter) (at : ℕ) → new ≡ old ++ w ∷ []
    → at ≡ n + length old → AreFiltersFrom e v n old → IsFilterBy (task_in e) e.marked.now v at w → AreFiltersFrom e v n new
filters_next e v n old new w at is place before here i f found =
    elim (at_append old (w ∷ []) i f (ap (λ l. slice_get l i) (sym is) ∙ found)) [
      | inl early ↦ before i f early
      | inr (k, i_is, last) ↦
          let k_is : k ≡ 0 = omega (arith, slice_get_within (w ∷ []) k f last) in
          let same : w ≡ f = some_same (sym (ap (slice_get (w ∷ [])) k_is) ∙ last) in
          let here_is : at ≡ n + i = omega (arith, place, i_is, k_is) in
          subst (IsFilterBy (task_in e) e.marked.now v (n + i)) same (subst (λ m. IsFilterBy (task_in e) e.marked.now v m w) here_is here)
    ]

pub no_filters : (e : Encoding) (v : ℕ → Bool) (n : ℕ) (ws : List WrittenFilter) → ws ≡ [] → AreFiltersFrom e v n ws
no_filters e v n ws none i f found = absurd (omega (arith, slice_get_within ws i f found, ap length none))

-- the order that is written
pub order_is : (e : Encoding) (v : ℕ → Bool) (filters : Filters) → length filters.funs ≡ symbols_in e
    → map (λ (m : MarkFilter). m.symbol) filters.marks ≡ e.marked.now
    → AreFiltersFrom e v 0 (map written_filter filters.funs)
    → AreFiltersFrom e v (symbols_in e) (map (λ (m : MarkFilter). written_filter m.filter) filters.marks)
    → IsWritten (task_in e) e.marked.now v (filtering_data filters)
order_is e v filters count marks funs others = record {
  count = length-map filters.funs written_filter ∙ count;
  marks = map-map (λ (m : f.MarkFilter). m.symbol) mark_filter filters.marks ∙ marks;
  each = λ n w found. elim (at_append (map written_filter filters.funs) (map (λ (m : f.MarkFilter). m.filter) (map mark_filter filters.marks)) n w found) [
    | inl early ↦
        let same : 0 + n ≡ n = omega arith in
        subst (λ m. IsFilterBy (task_in e) e.marked.now v m w) same (funs n w early)
    | inr (i, n_is, late) ↦
        let place : n ≡ symbols_in e + i = omega (arith, n_is, length-map filters.funs written_filter, count) in
        subst (λ m. IsFilterBy (task_in e) e.marked.now v m w) (sym place)
        (others i w (ap (λ l. slice_get l i) (sym (map-map (λ (m : f.MarkFilter). m.filter) mark_filter filters.marks)) ∙ late))
  ];
}

-- an order that bits write is tried, but for the widths of sides

low_filter : (T : TaskData) (marked : List ℕ) (p : ℕ) (w : WrittenFilter) → p < symbol_count T marked → (kept picked : List ℕ)
    → filter_with p kept picked ≡ Some w → IsLow (symbol_count T marked) w
low_filter T marked p w low kept [] is =
    let same : keeps p kept ≡ w = some_same is in subst (IsLow (symbol_count T marked)) same low
low_filter T marked p w low [] (place ∷ []) is =
    let same : picks place ≡ w = some_same is in subst (IsLow (symbol_count T marked)) same tt
low_filter T marked p w low [] (place ∷ other ∷ picked) is = absurd (cc)
low_filter T marked p w low (m ∷ kept) (place ∷ []) is = absurd (cc)
low_filter T marked p w low (m ∷ kept) (place ∷ other ∷ picked) is = absurd (cc)

number_low : (T : TaskData) (marked : List ℕ) (v : ℕ → Bool) (n : ℕ) (w : WrittenFilter) → IsFilterBy T marked v n w → IsLow (symbol_count T marked) w
number_low T marked v n w h =
    let k = length h.types in
    let x = bit_from T marked n in
    low_filter T marked (number_from v (k + (k + x)) (precedence_bits T marked)) w h.low (places_from v x 1 k) (places_from v (k + x) 1 k) h.by_bits

abbrev AreMarkedIn : TaskData → List ℕ → Type 0
AreMarkedIn T l = AreMarked T.pairs T.set l

front : (xs ys : List WrittenFilter) (i : ℕ) (x : WrittenFilter) → slice_get xs i ≡ Some x → slice_get (xs ++ ys) i ≡ Some x
front [] ys i x e = absurd (cc)
front (z ∷ xs) ys zero x e = e
front (z ∷ xs) ys (suc i) x e = front xs ys i x e

behind : (xs ys : List WrittenFilter) (i : ℕ) (y : WrittenFilter) → slice_get ys i ≡ Some y → slice_get (xs ++ ys) (length xs + i) ≡ Some y
behind [] ys i y e = let z : 0 + i ≡ i = omega arith in ap (slice_get ys) z ∙ e
behind (x ∷ xs) ys i y e =
    let z : length (x ∷ xs) + i ≡ suc (length xs + i) = omega arith in
    ap (slice_get (x ∷ (xs ++ ys))) z ∙ behind xs ys i y e

pub tried_is : (e : Encoding) (v : ℕ → Bool) (D : FilteringData) → IsEncoding e → IsWritten (task_in e) e.marked.now v D → IsTried (task_in e) D
tried_is e v D enc written =
    let T = task_in e in
    let marked = e.marked.now in
    let long : length D.marks ≡ length marked = sym (length-map D.marks (λ (m : f.MarkFilter). m.symbol)) ∙ ap length written.marks in
    let all : symbol_count T marked ≡ length D.symbols + length D.marks = omega (arith, long, written.count) in
    let symbol : (n : ℕ) (w : WrittenFilter) → slice_get D.symbols n ≡ Some w → IsFilterBy T marked v n w =
    λ n w at. written.each n w (front D.symbols (map (λ (m : f.MarkFilter). m.filter) D.marks) n w at) in
    let mark : (i : ℕ) (m : f.MarkFilter) → slice_get D.marks i ≡ Some m → IsFilterBy T marked v (length T.symbols.funs + i) m.filter =
    λ i m at. subst (λ k. IsFilterBy T marked v (k + i) m.filter) written.count
    (written.each (length D.symbols + i) m.filter
    (behind D.symbols (map (λ (m : f.MarkFilter). m.filter) D.marks) i m.filter (remap (λ (m : f.MarkFilter). m.filter) D.marks i m at))) in record {
      filters = record { each_symbol = written.count; marked = subst (λ l. AreMarkedIn T l) (sym written.marks) enc.marked };
      symbols = λ n a w kind at.
          let h = symbol n w at in
          let types : h.types ≡ arguments a = some_one h.is (symbol_scope T marked n a kind) in
          subst (λ cs. IsProperAsWritten cs w) types h.proper;
      marks = λ i m at.
          let h = mark i m at in
          let here : slice_get marked i ≡ Some m.symbol = ap (λ l. slice_get l i) (sym written.marks) ∙ remap (λ (m : f.MarkFilter). m.symbol) D.marks i m at in
          let types : h.types ≡ marked_types T.symbols T.rules m.symbol = some_one h.is (mark_scope T marked i m.symbol here) in
          subst (λ cs. IsProperAsWritten cs m.filter) types h.proper;
      symbols_low = all_from_members (IsLow (length D.symbols + length D.marks)) D.symbols (λ w found.
          let (n, at) = by.place_of D.symbols w found in
          subst (λ k. IsLow k w) all (number_low T marked v n w (symbol n w at)));
      marks_low = all_from_members (λ (m : f.MarkFilter). IsLow (length D.symbols + length D.marks) m.filter) D.marks (λ m found.
          let (i, at) = by.place_of D.marks m found in
          subst (λ k. IsLow k m.filter) all (number_low T marked v (length T.symbols.funs + i) m.filter (mark i m at)));
    }

-- the filter of one symbol

module _ (e : Encoding) (enc : IsEncoding e) where
  pub scopes_count : length e.scopes.items ≡ length (scopes_for e)
  scopes_count = sym (length-map e.scopes.items (λ (l : Vec SimpleType). tys l.items)) ∙ ap length enc.scopes

  pub all_symbols : length e.scopes.items ≡ symbol_count (task_in e) e.marked.now
  all_symbols = scopes_count ∙ count_is (task_in e) e.marked.now

  module _ (n : ℕ) (scope : Vec SimpleType) (at : slice_get e.scopes.items n ≡ Some scope) where
    pub types_at : slice_get (scopes_for e) n ≡ Some (tys scope.items)
    types_at = ap (λ l. slice_get l n) (sym enc.scopes) ∙ remap (λ (l : Vec SimpleType). tys l.items) e.scopes.items n scope at

    number_within : n < length (scopes_for e)
    number_within = slice_get_within (scopes_for e) n (tys scope.items) types_at

    pub starts : get_or e.first_bits.items n 0 ≡ bit_from (task_in e) e.marked.now n
    starts = enc.firsts n (omega (arith, number_within))

    -- its bits are few
    pub bits_few : bit_from (task_in e) e.marked.now n + (2 * length (tys scope.items) + bits_for e) < 4294967296
    bits_few =
        let next = first_next (bits_for e) (scopes_for e) n (tys scope.items) number_within in
        let there = some_same (sym (slice_get-get_or (scopes_for e) n (tys scope.items) number_within) ∙ types_at) in
        let many = ap (bits_of (bits_for e)) there in
        omega (arith, enc.few, first_within (bits_for e) (scopes_for e) (suc n), next, many)

    -- what is looked up of it: its first bit, and how many arguments it has
    module _ (from places : ℕ) (from_is : from ≡ get_or e.first_bits.items n 0) (places_are : places ≡ vec_len scope) where
      abbrev x : ℕ
      x = bit_from (task_in e) e.marked.now n

      abbrev k : ℕ
      k = length (tys scope.items)

      first_is : from ≡ x
      first_is = from_is ∙ starts

      long : places ≡ k
      long = omega (arith, places_are, scope.ok.0, length-map scope.items ty)

      pub looked_few : from + (2 * places + e.precedence_bits) < 4294967296
      looked_few = omega (arith, bits_few, first_is, long, enc.precedence)

      module _ (v : ℕ → Bool) where
        number_is : number_from v (places + (places + from)) e.precedence_bits ≡ number_from v (k + (k + x)) (bits_for e)
        number_is = same_number v from x places k e.precedence_bits (bits_for e) first_is long enc.precedence

        filter_is : filter_by v e.precedence_bits from places ≡ filter_by v (bits_for e) x k
        filter_is = same_filter v from x places k e.precedence_bits (bits_for e) first_is long enc.precedence

        same_types : (f : WrittenFilter) (h : IsFilterBy (task_in e) e.marked.now v n f) → h.types ≡ tys scope.items
        same_types f h = some_one h.is types_at

        pub too_great : length e.scopes.items ≤ number_from v (places + (places + from)) e.precedence_bits
            → (f : WrittenFilter) → IsFilterBy (task_in e) e.marked.now v n f → ⊥
        too_great high f h =
            let same = ap (λ (cs : List Ty). number_from v (length cs + (length cs + x)) (bits_for e)) (same_types f h) in
            omega (arith, high, h.low, same, number_is, all_symbols)

        by_types : (f : WrittenFilter) → IsFilterBy (task_in e) e.marked.now v n f → filter_by v e.precedence_bits from places ≡ Some f
        by_types f h =
            filter_is ∙ sym (ap (λ (cs : List Ty). filter_by v (bits_for e) x (length cs)) (same_types f h)) ∙ h.by_bits

        pub none_written : filter_by v e.precedence_bits from places ≡ None → (f : WrittenFilter) → IsFilterBy (task_in e) e.marked.now v n f → ⊥
        none_written none f h = let wrong : Some f ≡ None = sym (by_types f h) ∙ none in absurd (cc)

        pub not_a_sort : (w : WrittenFilter) → filter_by v e.precedence_bits from places ≡ Some w → (PicksSort (tys scope.items) w → ⊥)
            → (f : WrittenFilter) → IsFilterBy (task_in e) e.marked.now v n f → ⊥
        not_a_sort w is wrong f h =
            let one : f ≡ w = some_same (sym (by_types f h) ∙ is) in
            wrong (subst (PicksSort (tys scope.items)) one (picks_of_proper (tys scope.items) f (subst (λ cs. IsProperAsWritten cs f) (same_types f h) h.proper)))

        pub is_written : (w : WrittenFilter) → filter_by v e.precedence_bits from places ≡ Some w → PicksSort (tys scope.items) w
            → number_from v (places + (places + from)) e.precedence_bits < length e.scopes.items → IsFilterBy (task_in e) e.marked.now v n w
        is_written w is sorted low =
            let by_bits : filter_by v (bits_for e) x k ≡ Some w = sym filter_is ∙ is in record {
              types = tys scope.items;
              is = types_at;
              by_bits = by_bits;
              proper = proper_of_filter v (bits_for e) x (tys scope.items) w by_bits sorted;
              low = omega (arith, low, number_is, all_symbols);
            }
