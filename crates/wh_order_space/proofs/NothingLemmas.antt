-- Where no bits meet what is demanded, no order lets a pair of the set go.
use Rattle.std.proofs.Common.{◌≡◌, ℕ, suc, ◌+◌, ◌-◌, ◌<◌, inl, inr, Bool, true, List, [], ◌∷◌, ◌++◌, length, map, refl, ap, ◌∙◌, sym, subst, Option, Some, slice_get, cond, arith}
use Rattle.std.specs.Global.{Vec}
use Rattle.std.proofs.lemmas.Bool.{lt-ltb, le-ltb}
use Rattle.wh_types.specs.Ty.{Ty, arguments}
use Rattle.wh_types.specs.Erase.{tys}
use Rattle.wh_types.specs.declared.simple_type.SimpleType.{SimpleType}
use Rattle.wh_pairs.specs.PairData.{IsIncreasing}
use Rattle.wh_pairs.specs.Marked.{AreMarked}
use Rattle.wh_reduction_pairs.specs.TaskData.{TaskData}
use Rattle.wh_polycheck.specs.Marks.{marked_types}
use Rattle.wh_order_inference.specs.Filters.{Filter}
use Rattle.wh_order_inference.specs.FilterText.{filter_of}
use Rattle.wh_order_extended.specs.Filtered.{IsProper, precedences}
use Rattle.wh_order_node.specs.Filterings.{FilteringData, MarkFilter, filter_among, mark_among, filters_of}
use Rattle.wh_proof.proofs.InterpretationLemmas.{marked_one}
use Rattle.wh_poly_guesses.specs.Coefficients.{scopes_of}
use Rattle.wh_order_demands.specs.declared.demand.Demand.{Demand}
use Rattle.wh_order_demands.specs.declared.view.Spot.{Spot}
use Rattle.wh_order_demands.specs.Demands.{holds}
use Rattle.wh_order_demands.specs.Claims.{Says, SayFilters, order_bit}
use Rattle.wh_order_demands.proofs.PartLemmas.{at_left, at_right, below_at}
use Rattle.wh_order_space.specs.Bits.{first_bit, bits_of}
use Rattle.wh_order_space.specs.Space.{IsOfSpace, HasNoOrder}
use Rattle.wh_order_space.specs.Spotted.{types_in, IsNumberOf, AreSpotted}
use Rattle.wh_order_space.specs.Circuited.{AreFirstBits, IsDemandOfSet}
use Rattle.wh_order_space.proofs.OrderBits.{bit_in, value, value_at, says, first_part, order_part, symbol_filter, mark_filter_at, at_mapped, mapped_at, front_at, back_at}

map_length : {A B : Type 0} (f : A → B) (xs : List A) → length (map f xs) ≡ length xs
map_length f [] = refl
map_length f (x ∷ xs) = ap suc (map_length f xs)

tys_length : (l : List SimpleType) → length (tys l) ≡ length l
tys_length l = map_length _ l

module _ (T : TaskData) (marked : List ℕ) (D : FilteringData) (of : IsOfSpace T D) (are : AreMarked T.pairs T.set marked) where
  abbrev symbols : ℕ
  symbols = length T.symbols.funs

  -- how many bits each symbol has beside those of its places: one for each symbol and each marked one
  abbrev b : ℕ
  b = symbols + symbols

  abbrev scopes : List (List Ty)
  scopes = scopes_of T marked

  -- the filters of all symbols, and then of the marked ones
  abbrev all_filters : List Filter
  all_filters = map filter_of D.symbols ++ map (λ (m : MarkFilter). filter_of m.filter) D.marks

  marks_are : map (λ m. m.symbol) D.marks ≡ marked
  marks_are = marked_one T.pairs T.set (map (λ m. m.symbol) D.marks) marked of.filters.marked are

  -- a filter with its types
  record Placed (m n : ℕ) (cs : List Ty) : Type 0 where
    there : slice_get all_filters n ≡ Some (filters_of T.symbols D m)
    proper : IsProper cs (filters_of T.symbols D m)

  placed_symbol : (n : ℕ) (cs : List Ty) → n < symbols → slice_get scopes n ≡ Some cs → Placed n n cs
  placed_symbol n cs l e =
      let within : n < length D.symbols = omega (arith, l, of.filters.each_symbol) in
      let at : slice_get (map arguments T.symbols.funs) n ≡ Some cs =
      front_at (map arguments T.symbols.funs) (map (marked_types T.symbols T.rules) marked) n cs (omega (arith, l, map_length arguments T.symbols.funs)) e in
      let (a, here, same) = mapped_at arguments T.symbols.funs n cs at in
      let is : slice_get (map filter_of D.symbols) n ≡ Some (filter_among D.symbols n) = symbol_filter D.symbols n within in
      let (w, written, filter) = mapped_at filter_of D.symbols n (filter_among D.symbols n) is in
      let chosen : filters_of T.symbols D n ≡ filter_among D.symbols n =
      ap (λ c. cond c (filter_among D.symbols n) (mark_among D.marks (n - symbols))) (lt-ltb n symbols l) in
      record {
        there = at_left (map filter_of D.symbols) (map (λ (m : MarkFilter). filter_of m.filter) D.marks) n (filter_among D.symbols n) is ∙ ap Some (sym chosen);
        proper = subst (IsProper cs) (filter ∙ sym chosen) (subst (λ cs. IsProper cs (filter_of w)) same (of.symbols n a w here written).proper);
      }

  placed_mark : (i f : ℕ) (cs : List Ty) → slice_get marked i ≡ Some f → slice_get scopes (symbols + i) ≡ Some cs → Placed (symbols + f) (symbols + i) cs
  placed_mark i f cs at e =
      let symbol_there : slice_get (map (λ (m : MarkFilter). m.symbol) D.marks) i ≡ Some f = subst (λ l. slice_get l i ≡ Some f) (sym marks_are) at in
      let (m, here, same) = mapped_at (λ (m : MarkFilter). m.symbol) D.marks i f symbol_there in
      let is : slice_get (map (λ (m : MarkFilter). filter_of m.filter) D.marks) i ≡ Some (mark_among D.marks f) =
      mark_filter_at D.marks i f (subst (λ (l : List ℕ). IsIncreasing l) (sym marks_are) are.in_order) symbol_there in
      let filter : filter_of m.filter ≡ mark_among D.marks f = one_filter (sym (at_mapped (λ (m : MarkFilter). filter_of m.filter) D.marks i m here) ∙ is) in
      let behind : slice_get (map (marked_types T.symbols T.rules) marked) i ≡ Some cs =
      back_at (map arguments T.symbols.funs) (map (marked_types T.symbols T.rules) marked) i cs
      (subst (λ k. slice_get scopes (k + i) ≡ Some cs) (sym (map_length arguments T.symbols.funs)) e) in
      let types : marked_types T.symbols T.rules m.symbol ≡ cs =
      ap (marked_types T.symbols T.rules) same ∙ one_types (sym (at_mapped (marked_types T.symbols T.rules) marked i f at) ∙ behind) in
      let chosen : filters_of T.symbols D (symbols + f) ≡ mark_among D.marks f =
      ap (λ c. cond c (filter_among D.symbols (symbols + f)) (mark_among D.marks (symbols + f - symbols))) (le-ltb (symbols + f) symbols (omega arith))
      ∙ ap (mark_among D.marks) (less_added symbols f) in
      record {
        there = subst (λ k. slice_get all_filters (k + i) ≡ Some (filters_of T.symbols D (symbols + f))) (map_length filter_of D.symbols ∙ of.filters.each_symbol)
            (at_right (map filter_of D.symbols) (map (λ (m : MarkFilter). filter_of m.filter) D.marks) i (mark_among D.marks f) is ∙ ap Some (sym chosen));
        proper = subst (IsProper cs) (filter ∙ sym chosen) (subst (λ cs. IsProper cs (filter_of m.filter)) types (of.marks i m here).proper);
      }
    where
      one_filter : {F G : Filter} → Some F ≡ Some G → F ≡ G
      one_filter e = cc

      one_types : {F G : List Ty} → Some F ≡ Some G → F ≡ G
      one_types e = cc

      less_added : (m n : ℕ) → m + n - m ≡ n
      less_added m n = omega arith

  placed : (m n : ℕ) (cs : List Ty) → IsNumberOf symbols marked m n → slice_get scopes n ≡ Some cs → Placed m n cs
  placed m n cs (inl (e, l)) at = subst (λ m. Placed m n cs) (sym e) (placed_symbol n cs l at)
  placed m n cs (inr (i, f, is, here, same)) at =
      subst (λ m. Placed m n cs) (sym same) (subst (λ n. Placed (symbols + f) n cs) (sym is) (placed_mark i f cs here (subst (λ n. slice_get scopes n ≡ Some cs) is at)))

  abbrev Φ : ℕ → Filter
  Φ = filters_of T.symbols D

  -- the bits that write the order
  pub order_bits : ℕ → Bool
  order_bits = value (precedences Φ) b scopes all_filters

  -- a spot has the bits of its symbol
  record Spotted (m : ℕ) (spot : Spot) : Type 0 where
    types : List Ty
    proper : IsProper types (Φ m)
    long : length types ≡ spot.places
    bits : (o : ℕ) → o < bits_of b types → order_bits (spot.first + o) ≡ bit_in (precedences Φ) (length types) (Φ m) o

  module _ (lists : List (Vec SimpleType)) (firsts : List ℕ) (spots : List (Option Spot)) (types : types_in lists ≡ scopes)
      (first : AreFirstBits b scopes firsts) (spotted : AreSpotted symbols marked lists firsts spots) (count : length spots ≡ symbols + symbols) where
    spotted_bits : (m : ℕ) (spot : Spot) → slice_get spots m ≡ Some (Some spot) → Spotted m spot
    unfolding order_bits
    spotted_bits m spot at =
        let (n, number, s) = spotted m spot at in
        let cs : List Ty = tys s.types.items in
        let there : slice_get scopes n ≡ Some cs = subst (λ l. slice_get l n ≡ Some cs) types (at_mapped (λ (l : Vec SimpleType). tys l.items) lists n s.types s.is) in
        let p = placed m n cs number there in
        let x : spot.first ≡ first_bit b scopes n = ap (λ (s : Spot). s.first) s.same ∙ first n (below_at scopes n cs there) in
        record {
          types = cs;
          proper = p.proper;
          long = tys_length s.types.items ∙ ap (λ (s : Spot). s.places) (sym s.same);
          bits = λ o l. value_at (precedences Φ) b scopes all_filters n cs (Φ m) o (spot.first + o) there p.there l (ap (λ x. x + o) x);
        }

    pub bits_say : SayFilters spots order_bits Φ
    bits_say = record {
      filters = λ m spot at. (
          let s = spotted_bits m spot at in
          subst (λ k. Says order_bits spot.first k (Φ m)) s.long
          (says order_bits spot.first s.types (Φ m) s.proper (λ o l. s.bits o (omega (arith, l)) ∙ first_part (precedences Φ) (length s.types) (Φ m) o l)));
      orders = λ m g spot at l. (
          let s = spotted_bits m spot at in
          let k = length s.types in
          let within : k + k + g < bits_of b s.types = omega (arith, l, count) in
          let place : order_bit k spot.first g ≡ spot.first + (k + k + g) = omega arith in
          ap (λ k. order_bits (order_bit k spot.first g)) (sym s.long) ∙ ap order_bits place ∙ s.bits (k + k + g) within ∙ order_part (precedences Φ) k (Φ m) g);
    }

-- no order lets a pair go
pub has_no_order : (T : TaskData) (marked : List ℕ) (lists : List (Vec SimpleType)) (firsts : List ℕ) (spots : List (Option Spot)) (demand : Demand)
    → AreMarked T.pairs T.set marked → types_in lists ≡ scopes_of T marked → AreFirstBits (length T.symbols.funs + length T.symbols.funs) (scopes_of T marked) firsts
    → AreSpotted (length T.symbols.funs) marked lists firsts spots → length spots ≡ length T.symbols.funs + length T.symbols.funs → IsDemandOfSet T spots demand
    → ((v : ℕ → Bool) → holds v demand ≡ true → ⊥) → HasNoOrder T
has_no_order T marked lists firsts spots demand are types first spotted count is never D of n go =
    never (order_bits T marked D of are) (is (order_bits T marked D of are) D n (bits_say T marked D of are lists firsts spots types first spotted count) go)
