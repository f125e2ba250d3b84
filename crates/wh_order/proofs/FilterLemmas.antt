-- The filters of symbols and marked symbols by their numbers, and what types the symbols have behind them.
use Rattle.std.proofs.Common.{◌≡◌, ℕ, zero, suc, ◌+◌, ◌-◌, ◌<◌, ◌≤◌, ◌==◌, Bool, true, false, cond, List, [], ◌∷◌, length, map, take, Some, slice_get, refl, ap, subst, sym, ◌∙◌, arith}
use Rattle.std.specs.Prelude.{get_or, nat_lt, option_map, unwrap_or}
use Rattle.std.proofs.Math.Seq.{take-nil}
use Rattle.std.proofs.lemmas.Bool.{lt-ltb, le-ltb, ltb-true, ltb-false, eqb-true}
use Rattle.std.proofs.lemmas.List.{length-append, length-map}
use Rattle.std.proofs.lemmas.Option.{none-some, same_Some, slice_get_within, slice_get-get_or, slice_get-map}
use Rattle.wh_types.specs.Ty.{Ty, sort, arguments}
use Rattle.wh_terms.specs.Typing.{Symbols}
use Rattle.wh_terms.specs.Rules.{RewriteRule}
use Rattle.wh_system.specs.Needs.{need_of}
use Rattle.wh_reduction_pairs.specs.TaskData.{numbers_from}
use Rattle.wh_reduction_pairs.proofs.Numbers.{numbers_at, numbers_length}
use Rattle.wh_hopoly.specs.Evaluation as e
use Rattle.wh_polycheck.specs.Marks.{marked_types}
use Rattle.wh_polycheck.proofs.MoreInterpretations.{slice_get_front, slice_get_behind}
use Rattle.wh_order_inference.specs.Filters.{Filter, keep, pick}
use Rattle.wh_order_inference.specs.FilterText.{WrittenFilter, picks, filter_of}
use Rattle.wh_order_extended.specs.Kinds.{type_at}
use Rattle.wh_order_extended.specs.Filtered.{IsProper, kept_type, kept_types}
use Rattle.wh_order_extended.proofs.LongLaws.{at_is}
use Rattle.wh_order_extended.proofs.FilteredSymbols.{filtered_kept}
use Rattle.wh_order_node.specs.Filterings.{FilteringData, MarkFilter, IsProperAsWritten, argument_types, filter_among, filters_of, filtered_signature, mark_among}
use Rattle.wh_order.specs.Kept.{HasProperMark}
use Rattle.wh_order.specs.TreeSides.{AreFilters}

among_is : (ws : List WrittenFilter) (f : ℕ) (w : WrittenFilter) → slice_get ws f ≡ Some w → filter_among ws f ≡ filter_of w
among_is [] f w e = absurd (none-some w e)
among_is (v ∷ ws) zero w e = ap filter_of (same_Some v w e)
among_is (v ∷ ws) (suc f) w e = among_is ws f w e

-- each symbol has a type, and a filter where there are as many of them

pub type_there : (kinds : List Ty) (f : ℕ) → f < length kinds → slice_get kinds f ≡ Some (type_at kinds f)
type_there [] f low = absurd (omega (arith, low))
type_there (a ∷ kinds) zero low = refl
type_there (a ∷ kinds) (suc f) low = type_there kinds f (omega (arith, low))

pub filter_there : (ws : List WrittenFilter) (f : ℕ) → f < length ws → (w : WrittenFilter) × (slice_get ws f ≡ Some w)
filter_there ws f low = (get_or ws f (picks 0), slice_get-get_or ws f (picks 0) low)

-- the filters by the numbers of all symbols

pub symbol_filter : (S : Symbols) (D : FilteringData) (f : ℕ) (w : WrittenFilter) → f < length S.funs → slice_get D.symbols f ≡ Some w → filters_of S D f ≡ filter_of w
symbol_filter S D f w low at =
    ap (λ b. cond b (filter_among D.symbols f) (mark_among D.marks (f - length S.funs))) (lt-ltb f (length S.funs) low) ∙ among_is D.symbols f w at

pub mark_filter_of : (S : Symbols) (D : FilteringData) (f : ℕ) → filters_of S D (length S.funs + f) ≡ mark_among D.marks f
mark_filter_of S D f =
    ap (λ b. cond b (filter_among D.symbols (length S.funs + f)) (mark_among D.marks (length S.funs + f - length S.funs)))
    (le-ltb (length S.funs + f) (length S.funs) (omega arith))
    ∙ ap (mark_among D.marks) (omega arith)

-- the filter of a marked symbol is proper, or none is given

pub mark_proper : (marks : List MarkFilter) (f : ℕ) (cs : List Ty) → HasProperMark marks f cs → IsProper cs (mark_among marks f)
mark_proper [] f cs h = tt
mark_proper (m ∷ marks) f cs h = by (m.symbol == f) refl (mark_proper marks f cs (λ i n at is. h (suc i) n at is))
  where
    by : (b : Bool) → b ≡ (m.symbol == f) → IsProper cs (mark_among marks f) → IsProper cs (cond b (filter_of m.filter) (mark_among marks f))
    by true e rest = (h 0 m refl (eqb-true m.symbol f (sym e))).proper
    by false e rest = rest

-- no filter that is proper for a symbol without arguments keeps one
kept_none : (F : Filter) → IsProper [] F → kept_type [] F ≡ sort 0
kept_none (keep p []) h = refl
kept_none (keep p (i ∷ is)) h = absurd (omega (arith, h.1))
kept_none (pick i) h = refl

-- there is a sort past the end
type_past : (kinds : List Ty) (i : ℕ) → length kinds ≤ i → type_at kinds i ≡ sort 0
type_past [] i past = refl
type_past (a ∷ kinds) zero past = absurd (omega (arith, past))
type_past (a ∷ kinds) (suc i) past = type_past kinds i (omega (arith, past))

declared_past : (kinds : List Ty) (i : ℕ) → length kinds ≤ i → e.type_at kinds i ≡ sort 0
declared_past [] i past = refl
declared_past (a ∷ kinds) zero past = absurd (omega (arith, past))
declared_past (a ∷ kinds) (suc i) past = declared_past kinds i (omega (arith, past))

kept_length : (Φ : ℕ → Filter) (n : ℕ) (css : List (List Ty)) → length (kept_types Φ n css) ≡ length css
kept_length Φ n [] = refl
kept_length Φ n (cs ∷ css) = ap suc (kept_length Φ (suc n) css)

module _ (S : Symbols) (rules : List RewriteRule) (D : FilteringData) where
  -- what types the symbols of filtered trees have

  symbol-types : (f : ℕ) (a : Ty) → slice_get S.funs f ≡ Some a → slice_get (argument_types S rules) f ≡ Some (arguments a)
  symbol-types f a at =
      slice_get_front (map arguments S.funs) (map (marked_types S rules) (numbers_from 0 (length S.funs))) f (arguments a)
      (slice_get-map arguments S.funs f ∙ ap (option_map arguments) at)

  pub symbol_type : (f : ℕ) (a : Ty) (w : WrittenFilter) → slice_get S.funs f ≡ Some a → slice_get D.symbols f ≡ Some w
      → type_at (filtered_signature S rules D).funs f ≡ kept_type (arguments a) (filter_of w)
  symbol_type f a w at given =
      at_is (filtered_signature S rules D).funs f (kept_type (arguments a) (filters_of S D f))
      (filtered_kept (filters_of S D) (argument_types S rules) f (arguments a) (symbol-types f a at))
      ∙ ap (kept_type (arguments a)) (symbol_filter S D f w (slice_get_within S.funs f a at) given)

  mark-types : (f : ℕ) → f < length S.funs → slice_get (argument_types S rules) (length S.funs + f) ≡ Some (marked_types S rules f)
  mark-types f low =
      let g : ℕ → List Ty = marked_types S rules in
      ap (λ n. slice_get (argument_types S rules) (n + f)) (sym (length-map S.funs arguments))
      ∙ slice_get_behind (map arguments S.funs) (map g (numbers_from 0 (length S.funs))) f
      ∙ slice_get-map g (numbers_from 0 (length S.funs)) f
      ∙ ap (option_map g) (numbers_at 0 (length S.funs) f low) ∙ ap (λ n. Some (g n)) (omega arith)

  signature-length : length (filtered_signature S rules D).funs ≡ length S.funs + length S.funs
  signature-length =
      let marks : List (List Ty) = map (marked_types S rules) (numbers_from 0 (length S.funs)) in
      omega (
        arith,
        kept_length (filters_of S D) 0 (argument_types S rules),
        length-append (map arguments S.funs) marks,
        length-map S.funs arguments,
        length-map (numbers_from 0 (length S.funs)) (marked_types S rules),
        numbers_length 0 (length S.funs),
      )

  no-types : (f : ℕ) → length S.funs ≤ f → marked_types S rules f ≡ []
  no-types f high =
      ap (λ a. take (unwrap_or (need_of rules f) 0) (arguments a)) (declared_past S.funs f high) ∙ take-nil (unwrap_or (need_of rules f) 0)

  pub mark_type : (f : ℕ) → HasProperMark D.marks f (marked_types S rules f)
      → type_at (filtered_signature S rules D).funs (length S.funs + f) ≡ kept_type (marked_types S rules f) (mark_among D.marks f)
  mark_type f proper = by (nat_lt f (length S.funs)) refl
    where
      here : f < length S.funs → type_at (filtered_signature S rules D).funs (length S.funs + f) ≡ kept_type (marked_types S rules f) (mark_among D.marks f)
      here low =
          at_is (filtered_signature S rules D).funs (length S.funs + f) (kept_type (marked_types S rules f) (filters_of S D (length S.funs + f)))
          (filtered_kept (filters_of S D) (argument_types S rules) (length S.funs + f) (marked_types S rules f) (mark-types f low))
          ∙ ap (kept_type (marked_types S rules f)) (mark_filter_of S D f)

      past : length S.funs ≤ f → type_at (filtered_signature S rules D).funs (length S.funs + f) ≡ kept_type (marked_types S rules f) (mark_among D.marks f)
      past high =
          type_past (filtered_signature S rules D).funs (length S.funs + f) (omega (arith, signature-length, high))
          ∙ sym (kept_none (mark_among D.marks f) (subst (λ cs. IsProper cs (mark_among D.marks f)) (no-types f high) (mark_proper D.marks f (marked_types S rules f) proper)))
          ∙ ap (λ cs. kept_type cs (mark_among D.marks f)) (sym (no-types f high))

      by : (b : Bool) → nat_lt f (length S.funs) ≡ b
          → type_at (filtered_signature S rules D).funs (length S.funs + f) ≡ kept_type (marked_types S rules f) (mark_among D.marks f)
      by true low = here (ltb-true f (length S.funs) low)
      by false high = past (ltb-false f (length S.funs) high)

-- the marks of the symbol f have filters that are proper for it
pub proper_marks : (S : Symbols) (rules : List RewriteRule) (D : FilteringData) → AreFilters S rules D → (f : ℕ) → HasProperMark D.marks f (marked_types S rules f)
proper_marks S rules D filters f i m at is = subst (λ g. IsProperAsWritten (marked_types S rules g) m.filter) is (filters.marks i m at)
