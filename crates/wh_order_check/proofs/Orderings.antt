-- The conditions of a node of a path order on a set of pairs hold, or there is a first thing wrong with them, and one only.
use Rattle.std.proofs.Common.{◌≡◌, ◌⊎◌, ℕ, inl, inr, Bool, true, false, length, Option, Some, None, slice_get, refl, subst}
use Rattle.std.proofs.lemmas.Option.{slice_get_within}
use Rattle.wh_types.specs.Limits.{greatest_size}
use Rattle.wh_types.specs.Ty.{Ty, arguments}
use Rattle.wh_terms.specs.Rules.{RewriteRule}
use Rattle.wh_system.proofs.TypedDecided.{Decided, both_decided}
use Rattle.wh_pairs.specs.PairData.{PairData}
use Rattle.wh_pairs.specs.Drops.{IsBadDrop}
use Rattle.wh_pairs.proofs.ByPlace.{contains_at, some_one}
use Rattle.wh_pairs.proofs.Searches.{not_decided, not_refuted, at_most_decided, first_place}
use Rattle.wh_reduction_pairs.specs.TaskData.{TaskData}
use Rattle.wh_reduction_pairs.specs.ReductionPair.{Evidence}
use Rattle.wh_reduction_pairs.specs.FirstFault.{AreBadLines, AreCounted}
use Rattle.wh_reduction_pairs.proofs.Lines.{all_or_first, rules_or_first, pairs_or_first, counted_or_not}
use Rattle.wh_order_inference.specs.Inferences.{Inference, Letter, same_trees, bodies, arguments as by_arguments, part, lower, first_less, spine_parts, body, variable, meta_part, letter_of}
use Rattle.wh_order_inference.specs.FilterText.{WrittenFilter}
use Rattle.wh_polycheck.specs.Marks.{marked_types}
use Rattle.wh_order_node.specs.Filterings.{FilteringData, MarkFilter, AreFiltersFor, AreProperSymbols, AreProperMarks, IsProperAsWritten}
use Rattle.wh_order_node.specs.Ordering.{IsGoodRule, IsGoodPair, IsStrictWhere, HasNarrowSides, HasNarrowCalls, IsOrdering}
use Rattle.wh_order_check.specs.OrderingFaults.{IsFirstImproper, IsFirstImproperMark, AreProperFilters, IsPrepared, narrow_lines, wide_lines, good_lines, bad_lines, strict_lines, weak_lines, AreNarrowRules, AreNarrowPairs, AreGoodRules, AreGoodPairs, IsFirstOrderingFault}
use Rattle.wh_order_check.specs.declared.fault.OrderingFault.{OrderingFault}
use Rattle.wh_order_check.specs.declared.fault.OrderingFault.TheVariants.{BadFilter, BadLines, BadDrop, WideRule, WidePair, BadRule, BadPair, NotStrict}
use Rattle.wh_order_check.proofs.ProperFilters.{proper_decided}
use Rattle.wh_order_check.proofs.OrderingWalk.{ordering_holds}

-- decided, as a sum that names a fault
or_fault : {P : Type 0} → Decided P → P ⊎ ((f : Unit {0}) × (P → ⊥))
or_fault (inl p) = inl p
or_fault (inr not) = inr (tt, not)

some_or_none : {A : Type 0} (o : Option A) → (o ≡ None) ⊎ ((a : A) × (o ≡ Some a))
some_or_none None = inl refl
some_or_none (Some a) = inr (a, refl)

is_same_decided : (l : Letter) → Decided (l ≡ same_trees)
is_same_decided same_trees = inl refl
is_same_decided bodies = inr (λ e. cc)
is_same_decided by_arguments = inr (λ e. cc)
is_same_decided part = inr (λ e. cc)
is_same_decided lower = inr (λ e. cc)
is_same_decided first_less = inr (λ e. cc)
is_same_decided spine_parts = inr (λ e. cc)
is_same_decided body = inr (λ e. cc)
is_same_decided variable = inr (λ e. cc)
is_same_decided meta_part = inr (λ e. cc)

strict_decided : (strict : Bool) (i : Inference) → Decided (IsStrictWhere strict i)
strict_decided false i = inl tt
strict_decided true i = not_decided (is_same_decided (letter_of i))

module _ (T : TaskData) (D : FilteringData) (E : Evidence Inference) where
  -- filters

  proper_at : (f : ℕ) → ((a : Ty) (w : WrittenFilter) → slice_get T.symbols.funs f ≡ Some a → slice_get D.symbols f ≡ Some w
      → IsProperAsWritten (arguments a) w)
      ⊎ ((a : Ty) × (w : WrittenFilter) × (slice_get T.symbols.funs f ≡ Some a) × (slice_get D.symbols f ≡ Some w)
      × (IsProperAsWritten (arguments a) w → ⊥))
  proper_at f = go (some_or_none (slice_get T.symbols.funs f)) (some_or_none (slice_get D.symbols f))
    where
      here : (a : Ty) (w : WrittenFilter) → slice_get T.symbols.funs f ≡ Some a → slice_get D.symbols f ≡ Some w
          → Decided (IsProperAsWritten (arguments a) w)
          → ((b : Ty) (u : WrittenFilter) → slice_get T.symbols.funs f ≡ Some b → slice_get D.symbols f ≡ Some u → IsProperAsWritten (arguments b) u)
          ⊎ ((b : Ty) × (u : WrittenFilter) × (slice_get T.symbols.funs f ≡ Some b) × (slice_get D.symbols f ≡ Some u)
          × (IsProperAsWritten (arguments b) u → ⊥))
      here a w at also (inr not) = inr (a, w, at, also, not)
      here a w at also (inl proper) = inl (λ b u there other.
          subst (λ (c : Ty). IsProperAsWritten (arguments c) u) (some_one at there)
          (subst (λ (x : WrittenFilter). IsProperAsWritten (arguments a) x) (some_one also other) proper))

      go : (slice_get T.symbols.funs f ≡ None) ⊎ ((a : Ty) × (slice_get T.symbols.funs f ≡ Some a))
          → (slice_get D.symbols f ≡ None) ⊎ ((w : WrittenFilter) × (slice_get D.symbols f ≡ Some w))
          → ((b : Ty) (u : WrittenFilter) → slice_get T.symbols.funs f ≡ Some b → slice_get D.symbols f ≡ Some u → IsProperAsWritten (arguments b) u)
          ⊎ ((b : Ty) × (u : WrittenFilter) × (slice_get T.symbols.funs f ≡ Some b) × (slice_get D.symbols f ≡ Some u)
          × (IsProperAsWritten (arguments b) u → ⊥))
      go (inl none) o = inl (λ b u there other. absurd (cc (none, there)))
      go (inr (a, at)) (inl none) = inl (λ b u there other. absurd (cc (none, other)))
      go (inr (a, at)) (inr (w, also)) = here a w at also (proper_decided (arguments a) w)

  first_improper : AreProperSymbols T.symbols D ⊎ ((f : ℕ) × IsFirstImproper T.symbols D f)
  first_improper =
      elim (all_or_first
      (λ f. (a : Ty) (w : WrittenFilter) → slice_get T.symbols.funs f ≡ Some a → slice_get D.symbols f ≡ Some w
      → IsProperAsWritten (arguments a) w)
      (λ f. (a : Ty) × (w : WrittenFilter) × (slice_get T.symbols.funs f ≡ Some a) × (slice_get D.symbols f ≡ Some w)
      × (IsProperAsWritten (arguments a) w → ⊥)) proper_at (length T.symbols.funs)) [
        | inl all ↦ inl (λ f a w at. all f (slice_get_within T.symbols.funs f a at) a w at)
        | inr (f, less, (a, w, at, also, not), before) ↦ inr (f, (a, w, at, also, not, λ g b u below. before g below b u))
      ]

  first_improper_mark : AreProperMarks T.symbols T.rules D ⊎ ((f : ℕ) × IsFirstImproperMark T.symbols T.rules D f)
  first_improper_mark =
      elim (first_place (λ (m : MarkFilter). IsProperAsWritten (marked_types T.symbols T.rules m.symbol) m.filter → ⊥)
      (λ (m : MarkFilter). not_decided (proper_decided (marked_types T.symbols T.rules m.symbol) m.filter)) D.marks) [
        | inl (i, m, at, not, before) ↦
            inr (
              m.symbol,
              (
                i,
                m,
                at,
                refl,
                not,
                λ j u less also. not_refuted (proper_decided (marked_types T.symbols T.rules u.symbol) u.filter) (before j u less also),
              ),
            )
        | inr none ↦ inl (λ i m at. not_refuted (proper_decided (marked_types T.symbols T.rules m.symbol) m.filter)
            (none m (contains_at D.marks i m at)))
      ]

  -- lines

  narrow_rule : (r : RewriteRule) (i : Inference) → HasNarrowSides T.symbols r ⊎ ((f : Unit {0}) × (HasNarrowSides T.symbols r → ⊥))
  narrow_rule r i = or_fault (both_decided (at_most_decided _ greatest_size) (at_most_decided _ greatest_size))

  narrow_pair : (p : PairData) (strict : Bool) (i : Inference)
      → HasNarrowCalls T.symbols p ⊎ ((f : Unit {0}) × (HasNarrowCalls T.symbols p → ⊥))
  narrow_pair p strict i = or_fault (both_decided (at_most_decided _ greatest_size) (at_most_decided _ greatest_size))

  good_rule : (r : RewriteRule) (i : Inference)
      → IsGoodRule T.symbols T.rules D r i ⊎ ((e : ℕ) × (bad_lines T.symbols T.rules D).rule r i e)
  good_rule r i = some_or_none _

  good_pair : (p : PairData) (strict : Bool) (i : Inference)
      → IsGoodPair T.symbols T.rules D p i ⊎ ((e : ℕ) × (bad_lines T.symbols T.rules D).pair p strict i e)
  good_pair p strict i = some_or_none _

  any_rule : (r : RewriteRule) (i : Inference) → Unit {0} ⊎ ((f : Unit {0}) × ⊥)
  any_rule r i = inl tt

  strict_pair : (p : PairData) (strict : Bool) (i : Inference) → IsStrictWhere strict i ⊎ ((f : Unit {0}) × (IsStrictWhere strict i → ⊥))
  strict_pair p strict i = or_fault (strict_decided strict i)

  -- all together, from the last condition to the first

  abbrev OrientsOrFault : Type 0
  OrientsOrFault = IsOrdering T D E ⊎ ((f : OrderingFault) × IsFirstOrderingFault T D E f)

  strict_or_fault : AreFiltersFor T D → IsPrepared T D E → AreNarrowRules T D E → AreNarrowPairs T D E → AreGoodRules T D E → AreGoodPairs T D E
      → OrientsOrFault
  strict_or_fault filters ready narrow narrow_too rules pairs =
      elim (pairs_or_first strict_lines weak_lines T any_rule strict_pair E.of_pairs E.drop) [
        | inr (n, f, first) ↦ inr (NotStrict n, (ready, narrow, narrow_too, rules, pairs, first))
        | inl strict ↦ inl (ordering_holds T D E filters ready narrow narrow_too rules pairs strict)
      ]

  good_or_fault : AreFiltersFor T D → IsPrepared T D E → AreNarrowRules T D E → AreNarrowPairs T D E → OrientsOrFault
  good_or_fault filters ready narrow narrow_too =
      elim (rules_or_first (good_lines T.symbols T.rules D) (bad_lines T.symbols T.rules D) T good_rule good_pair E.of_rules) [
        | inr (r, e, first) ↦ inr (BadRule r e, (ready, narrow, narrow_too, first))
        | inl rules ↦
            elim (pairs_or_first (good_lines T.symbols T.rules D) (bad_lines T.symbols T.rules D) T good_rule good_pair E.of_pairs E.drop) [
              | inr (n, e, first) ↦ inr (BadPair n e, (ready, narrow, narrow_too, rules, first))
              | inl pairs ↦ strict_or_fault filters ready narrow narrow_too rules pairs
            ]
      ]

  narrow_or_fault : AreFiltersFor T D → IsPrepared T D E → OrientsOrFault
  narrow_or_fault filters ready =
      elim (rules_or_first (narrow_lines T.symbols) (wide_lines T.symbols) T narrow_rule narrow_pair E.of_rules) [
        | inr (r, f, first) ↦ inr (WideRule r, (ready, first))
        | inl narrow ↦ elim (pairs_or_first (narrow_lines T.symbols) (wide_lines T.symbols) T narrow_rule narrow_pair E.of_pairs E.drop) [
          | inr (n, f, first) ↦ inr (WidePair n, (ready, narrow, first))
          | inl narrow_too ↦ good_or_fault filters ready narrow narrow_too
        ]
      ]

  counted_or_fault : AreFiltersFor T D → AreProperFilters T D
      → AreCounted T E ⊎ (AreBadLines T E ⊎ ((AreBadLines T E → ⊥) × IsBadDrop T.set E.drop)) → OrientsOrFault
  counted_or_fault filters proper (inl counted) = narrow_or_fault filters (record { proper = proper; counted = counted })
  counted_or_fault filters proper (inr (inl bad)) = inr (BadLines, (proper, bad))
  counted_or_fault filters proper (inr (inr (lines, bad))) = inr (BadDrop, (proper, lines, bad))

  marks_or_fault : AreFiltersFor T D → AreProperSymbols T.symbols D
      → AreProperMarks T.symbols T.rules D ⊎ ((f : ℕ) × IsFirstImproperMark T.symbols T.rules D f) → OrientsOrFault
  marks_or_fault filters proper (inr (f, first)) = inr (BadFilter f true, (proper, first))
  marks_or_fault filters proper (inl marks) = counted_or_fault filters (record { symbols = proper; marks = marks }) (counted_or_not T E)

  symbols_or_fault : AreFiltersFor T D → AreProperSymbols T.symbols D ⊎ ((f : ℕ) × IsFirstImproper T.symbols D f) → OrientsOrFault
  symbols_or_fault filters (inr (f, first)) = inr (BadFilter f false, first)
  symbols_or_fault filters (inl proper) = marks_or_fault filters proper first_improper_mark

  pub orients_or_fault : AreFiltersFor T D → OrientsOrFault
  orients_or_fault filters = symbols_or_fault filters first_improper
