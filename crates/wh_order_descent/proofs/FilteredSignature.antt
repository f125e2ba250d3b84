-- Proper filters make a signature for filtered trees and for filtered calls.
use Rattle.std.proofs.Common.{◌≡◌, ℕ, zero, suc, ◌+◌, ◌-◌, ◌<◌, Bool, true, false, cond, List, [], ◌∷◌, length, map, Some, slice_get, refl, ap, sym, subst, ◌∙◌, arith, eqb-true}
use Rattle.std.proofs.lemmas.Bool.{lt-ltb, le-ltb, cond-true, cond-false}
use Rattle.std.proofs.lemmas.List.{length-map}
use Rattle.std.proofs.lemmas.Option.{slice_get_within}
use Rattle.std.specs.Prelude.{nat_lt, ◌==◌}
use Rattle.wh_types.specs.Ty.{Ty, arguments}
use Rattle.wh_terms.specs.Typing.{Symbols}
use Rattle.wh_terms.specs.Rules.{RewriteRule}
use Rattle.wh_pairs.proofs.ByPlace.{remap}
use Rattle.wh_reduction_pairs.specs.TaskData.{numbers_from}
use Rattle.wh_reduction_pairs.proofs.Numbers.{numbers_at}
use Rattle.wh_polycheck.specs.Marks.{marked_types}
use Rattle.wh_polycheck.proofs.MoreInterpretations.{slice_get_front, slice_get_behind}
use Rattle.wh_order_inference.specs.FilterText.{WrittenFilter, filter_of}
use Rattle.wh_order_extended.specs.ExtendedSides.{marked_number}
use Rattle.wh_order_extended.specs.Filtered.{IsProper, Filters, FitsMark}
use Rattle.wh_order_extended.proofs.FilteredSymbols.{filtered_kept, filtered_into}
use Rattle.wh_order_node.specs.Filterings.{MarkFilter, FilteringData, filter_among, mark_among, filters_of, argument_types, filtered_signature, AreProperSymbols, AreProperMarks}

-- what is not in a list is not filtered, and that is proper

among_proper : (cs : List Ty) (ws : List WrittenFilter) (f : ℕ)
    → ((w : WrittenFilter) → slice_get ws f ≡ Some w → IsProper cs (filter_of w)) → IsProper cs (filter_among ws f)
among_proper cs [] f h = tt
among_proper cs (w ∷ ws) zero h = h w refl
among_proper cs (w ∷ ws) (suc f) h = among_proper cs ws f h

marked_proper : (cs : List Ty) (ms : List MarkFilter) (f : ℕ)
    → ((i : ℕ) (m : MarkFilter) → slice_get ms i ≡ Some m → m.symbol ≡ f → IsProper cs (filter_of m.filter)) → IsProper cs (mark_among ms f)
marked_proper cs [] f h = tt
marked_proper cs (m ∷ ms) f h =
    here (m.symbol == f) (λ e. h 0 m refl (eqb-true m.symbol f e)) (marked_proper cs ms f (λ i n at is. h (suc i) n at is))
  where
    here : (b : Bool) → (b ≡ true → IsProper cs (filter_of m.filter)) → IsProper cs (mark_among ms f)
        → IsProper cs (cond b (filter_of m.filter) (mark_among ms f))
    here true first others = first refl
    here false first others = others

module _ (S : Symbols) (rules : List RewriteRule) (D : FilteringData) where
  symbol_filter : (f : ℕ) → f < length S.funs → filters_of S D f ≡ filter_among D.symbols f
  symbol_filter f within =
      cond-true (nat_lt f (length S.funs)) (filter_among D.symbols f) (mark_among D.marks (f - length S.funs)) (lt-ltb f (length S.funs) within)

  mark_filter : (f : ℕ) → filters_of S D (marked_number S f) ≡ mark_among D.marks f
  mark_filter f =
      let place : length S.funs + f - length S.funs ≡ f = omega arith in
      cond-false (nat_lt (length S.funs + f) (length S.funs)) (filter_among D.symbols (length S.funs + f))
      (mark_among D.marks (length S.funs + f - length S.funs)) (le-ltb (length S.funs + f) (length S.funs) (omega arith))
      ∙ ap (mark_among D.marks) place

  -- the types of arguments, by the numbers of symbols and of marked symbols

  symbol_types : (f : ℕ) (a : Ty) → slice_get S.funs f ≡ Some a → slice_get (argument_types S rules) f ≡ Some (arguments a)
  symbol_types f a e = slice_get_front (map arguments S.funs) (map (marked_types S rules) (numbers_from 0 (length S.funs))) f (arguments a)
      (remap arguments S.funs f a e)

  mark_types : (f : ℕ) → f < length S.funs → slice_get (argument_types S rules) (marked_number S f) ≡ Some (marked_types S rules f)
  mark_types f within =
      let behind = map (marked_types S rules) (numbers_from 0 (length S.funs)) in
      let counted : 0 + f ≡ f = omega arith in
      ap (λ n. slice_get (argument_types S rules) (n + f)) (sym (length-map S.funs arguments))
      ∙ slice_get_behind (map arguments S.funs) behind f
      ∙ remap (marked_types S rules) (numbers_from 0 (length S.funs)) f f
      (numbers_at 0 (length S.funs) f within ∙ ap (λ n. Some n) counted)

  pub filters_fit : AreProperSymbols S D → Filters S (filtered_signature S rules D) (filters_of S D)
  filters_fit proper = filtered_into S (filters_of S D) (argument_types S rules) (λ f a e. (
    symbol_types f a e,
    subst (IsProper (arguments a)) (sym (symbol_filter f (slice_get_within S.funs f a e)))
        (among_proper (arguments a) D.symbols f (λ w at. (proper f a w e at).proper)),
  ))

  pub mark_fits : AreProperMarks S rules D → (f : ℕ) → f < length S.funs
      → FitsMark S (filtered_signature S rules D) (filters_of S D) f (marked_types S rules f)
  mark_fits proper f within = record {
    proper = subst (IsProper (marked_types S rules f)) (sym (mark_filter f)) (marked_proper (marked_types S rules f) D.marks f
        (λ i m at is. subst (λ g. IsProper (marked_types S rules g) (filter_of m.filter)) is (proper i m at).proper));
    kept = filtered_kept (filters_of S D) (argument_types S rules) (marked_number S f) (marked_types S rules f) (mark_types f within);
  }
