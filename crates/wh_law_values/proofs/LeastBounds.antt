-- A value bounds its term, and is at most each number that does.
use Rattle.std.proofs.Common.{ℕ, ◌≤◌, inl, inr, List, subst, arith, le_trans}
use Rattle.wh_types.specs.Ty.{Ty, sort, ◌⇒◌}
use Rattle.wh_terms.specs.Tree.{Tm}
use Rattle.wh_terms.specs.Typing.{Symbols}
use Rattle.wh_terms.specs.Rules.{RewriteRule}
use Rattle.wh_hopoly.specs.Evaluation.{Interpretation}
use Rattle.wh_poly_meaning.specs.Functionals.{Sem, Le}
use Rattle.wh_poly_meaning.specs.TermValues.{of_interpretations}
use Rattle.wh_poly_meaning.proofs.Order.{le_nat, le_same, le_then}
use Rattle.wh_usable_calls.specs.Bounds.{IsFlatCall, IsWholeCall, Bounds, by_reading, by_reading_and_steps, by_steps, Reads, reads_symbol, reads_application}
use Rattle.wh_usable_calls.proofs.FlatCalls.{argument_one, sort_one, call_one}
use Rattle.wh_usable_calls.proofs.BoundLaws.{bounds_more, reads_mono}
use Rattle.wh_law_values.specs.Values.{IsValue, of_listed, of_call, of_other, ReadsValues, value_symbol, value_application}

module _ (S : Symbols) (rules : List RewriteRule) (listed : List ℕ) (symbols : List Interpretation) where
  abbrev IsBound : Tm → ℕ → Type 0
  IsBound = Bounds S rules listed symbols

  abbrev IsRead : Tm → (A : Ty) → Sem A → Type 0
  IsRead = Reads S rules listed symbols

  abbrev HasValue : Tm → ℕ → Type 0
  HasValue = IsValue S rules listed symbols

  abbrev IsReadAt : Tm → (A : Ty) → Sem A → Type 0
  IsReadAt = ReadsValues S rules listed symbols

  mutual
    pub value_bounds : {t : Tm} {n : ℕ} → HasValue t n → IsBound t n
    value_bounds (of_listed {n = n} all read) = by_reading all (values_read read) (le_nat n)
    value_bounds (of_call {n = n} values out read each greatest) =
        by_reading_and_steps (values_read read) greatest.0
        (λ u s. bounds_more S rules listed symbols n (greatest.1 u s) (value_bounds (each u s)))
    value_bounds (of_other {n = n} values other each greatest) =
        by_steps other (λ u s. bounds_more S rules listed symbols n (greatest.1 u s) (value_bounds (each u s)))

    pub values_read : {t : Tm} {A : Ty} {F : Sem A} → IsReadAt t A F → IsRead t A F
    values_read (value_symbol e) = reads_symbol e
    values_read (value_application read value) = reads_application (values_read read) (value_bounds value)

  -- what is read is a call of its type

  read_call : {t : Tm} {A : Ty} {F : Sem A} → IsRead t A F → IsFlatCall S t A
  read_call (reads_symbol e) = e
  read_call (reads_application {s = s} read b) = (s, read_call read)

  read_whole : {t : Tm} {s k : ℕ} → IsRead t (sort s) k → IsWholeCall S t
  read_whole {s = s} read = (s, read_call read)

  -- what is read as a number of two sorts
  same_sort : {t : Tm} {s r k j : ℕ} → IsReadAt t (sort s) k → IsRead t (sort r) j → IsRead t (sort s) j
  same_sort {t = t} {s = s} {r = r} {j = j} read other =
      subst (λ q. IsRead t (sort q) j) (sort_one (call_one S t (sort r) (sort s) (read_call other) (read_call (values_read read)))) other

  mutual
    pub value_least : {t : Tm} {n : ℕ} (m : ℕ) → HasValue t n → IsBound t m → n ≤ m
    value_least m (of_listed all read) (by_reading whole other le) = le_trans (reading_least read (same_sort read other)) le
    value_least m (of_listed all read) (by_reading_and_steps other le reducts) = le_trans (reading_least read (same_sort read other)) le
    value_least m (of_listed all read) (by_steps none reducts) = absurd (none (read_whole (values_read read)))
    value_least m (of_call values out read each greatest) (by_reading whole other le) = absurd (out whole)
    value_least m (of_call {k = k} {n = n} values out read each greatest) (by_reading_and_steps other le reducts) =
        let h = le_trans (reading_least read (same_sort read other)) le in
        elim (greatest.2) [
          | inl same ↦ omega arith
          | inr (u, s, same) ↦ let j = value_least m (each u s) (reducts u s) in omega arith
        ]
    value_least m (of_call values out read each greatest) (by_steps none reducts) = absurd (none (read_whole (values_read read)))
    value_least m (of_other values none each greatest) (by_reading whole other le) = absurd (none (read_whole other))
    value_least m (of_other values none each greatest) (by_reading_and_steps other le reducts) = absurd (none (read_whole other))
    value_least m (of_other values none each greatest) (by_steps also reducts) = elim (greatest.2) [
      | inl same ↦ omega arith
      | inr (u, s, same) ↦ let j = value_least m (each u s) (reducts u s) in omega arith
    ]

    reading_least : {t : Tm} {A : Ty} {F G : Sem A} → IsReadAt t A F → IsRead t A G → Le A F G
    reading_least (value_symbol {f = f} {A = A} e) (reads_symbol d) = le_same A (of_interpretations symbols f A)
    reading_least (value_application {t = t} {s = s} {n = n} {B = B} {F = F} read value) (reads_application {s = r} {n = m} {F = H} other b) =
        let same = sort_one (argument_one (call_one S t (sort r ⇒ B) (sort s ⇒ B) (read_call other) (read_call (values_read read)))) in
        let less = reading_least read (subst (λ q. IsRead t (sort q ⇒ B) H) same other) in
        let mono = reads_mono S rules listed symbols (values_read read) in
        le_then B (F n) (F m) (H m) (mono.1 n m tt tt (value_least m value b)) (less m tt)

  -- a term has at most one value
  pub value_no_more : {t : Tm} {n m : ℕ} → HasValue t n → HasValue t m → n ≤ m
  value_no_more {m = m} a b = value_least m a (value_bounds b)
