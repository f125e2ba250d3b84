-- The signature of filtered trees has one sort, and each symbol with the type that its filter keeps.
use Rattle.std.proofs.Common.{◌≡◌, ℕ, zero, suc, ◌+◌, List, [], ◌∷◌, map, refl, ap, ◌∙◌, subst, Some, slice_get, arith}
use Rattle.wh_types.specs.Ty.{Ty, sort, arguments, result_sort, SortsBelow}
use Rattle.wh_terms.specs.Typing.{Symbols}
use Rattle.wh_step_laws.specs.RootRelations.{KnowsSorts}
use Rattle.wh_order_inference.specs.Filters.{Filter, keep, pick}
use Rattle.wh_order_extended.specs.Kinds.{type_at, arrows}
use Rattle.wh_order_extended.specs.Filtered.{collapse, IsProper, kept_type, kept_types, filtered_symbols, Filters, HasOneSort}
use Rattle.wh_order_extended.proofs.SiftTyped.{collapse-known}

kept_at : (Φ : ℕ → Filter) (n : ℕ) (css : List (List Ty)) (i : ℕ) (cs : List Ty) → slice_get css i ≡ Some cs → slice_get (kept_types Φ n css) i ≡ Some (kept_type cs (Φ (n + i)))
kept_at Φ n [] i cs e = absurd (cc)
kept_at Φ n (ds ∷ css) zero cs e = ap (λ m. Some (kept_type ds (Φ m))) (omega arith) ∙ ap (λ ds. Some (kept_type ds (Φ (n + 0)))) (one e)
  where
    one : Some ds ≡ Some cs → ds ≡ cs
    one e = cc
kept_at Φ n (ds ∷ css) (suc i) cs e = kept_at Φ (suc n) css i cs e ∙ ap (λ m. Some (kept_type cs (Φ m))) (omega arith)

result_kept : (cs : List Ty) (P : Filter) → result_sort (kept_type cs P) ≡ 0
result_kept cs (keep p is) = on is
  where
    on : (is : List ℕ) → result_sort (arrows (map (λ i. collapse (type_at cs i)) is) (sort 0)) ≡ 0
    on [] = refl
    on (i ∷ is) = on is
result_kept cs (pick i) = refl

known_kept : (cs : List Ty) (P : Filter) → SortsBelow 1 (kept_type cs P)
known_kept cs (keep p is) = on is
  where
    on : (is : List ℕ) → SortsBelow 1 (arrows (map (λ i. collapse (type_at cs i)) is) (sort 0))
    on [] = omega arith
    on (i ∷ is) = (collapse-known 1 (omega arith) (type_at cs i), on is)
known_kept cs (pick i) = omega arith

-- what holds of all kept types holds of each symbol's
each_kept : (P : Ty → Type 0) → ((cs : List Ty) (Q : Filter) → P (kept_type cs Q)) → (Φ : ℕ → Filter) (n : ℕ) (css : List (List Ty)) (f : ℕ) (a : Ty)
    → slice_get (kept_types Φ n css) f ≡ Some a → P a
each_kept P h Φ n [] f a e = absurd (cc)
each_kept P h Φ n (cs ∷ css) zero a e = subst P (one e) (h cs (Φ n))
  where
    one : {b : Ty} → Some b ≡ Some a → b ≡ a
    one e = cc
each_kept P h Φ n (cs ∷ css) (suc f) a e = each_kept P h Φ (suc n) css f a e

pub filtered_one_sort : (Φ : ℕ → Filter) (css : List (List Ty)) → HasOneSort (filtered_symbols Φ css)
filtered_one_sort Φ css f a e = each_kept (λ a. result_sort a ≡ 0) result_kept Φ 0 css f a e

pub filtered_known : (Φ : ℕ → Filter) (css : List (List Ty)) → KnowsSorts (filtered_symbols Φ css)
filtered_known Φ css f a e = each_kept (SortsBelow 1) known_kept Φ 0 css f a e

pub filtered_kept : (Φ : ℕ → Filter) (css : List (List Ty)) (f : ℕ) (cs : List Ty) → slice_get css f ≡ Some cs → slice_get (filtered_symbols Φ css).funs f ≡ Some (kept_type cs (Φ f))
filtered_kept Φ css f cs e = kept_at Φ 0 css f cs e ∙ ap (λ m. Some (kept_type cs (Φ m))) (omega arith)

pub filtered_into : (S : Symbols) (Φ : ℕ → Filter) (css : List (List Ty)) → ((f : ℕ) (a : Ty) → slice_get S.funs f ≡ Some a → slice_get css f ≡ Some (arguments a) × IsProper (arguments a) (Φ f))
    → Filters S (filtered_symbols Φ css) Φ
filtered_into S Φ css h = record {
  some_sort = omega arith;
  proper = λ f a e. (h f a e).1;
  kept = λ f a e. filtered_kept Φ css f (arguments a) (h f a e).0;
}
