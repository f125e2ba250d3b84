-- Flat sides, whose meta-variables mean numbers.
use Rattle.std.proofs.Common.{◌≡◌, ℕ, ◌≤◌, List, [], ap, sym, subst₂}
use Rattle.wh_types.specs.Ty.{Ty, sort, ◌⇒◌}
use Rattle.wh_terms.specs.Tree.{Tm, bound, free, fun, meta, lam, app, none, more, tms_of}
use Rattle.wh_terms.specs.Typing.{Symbols, Declared, Typed, typed_app}
use Rattle.wh_hopoly.specs.Evaluation.{Interpretation, interpretation_at}
use Rattle.wh_usable_first_order.specs.FirstOrder.{IsFlatTree, IsNullary}
use Rattle.wh_polycheck.specs.Sides.{arrows}
use Rattle.wh_poly_meaning.specs.Functionals.{Sem, Mono, Le, nothing}
use Rattle.wh_poly_meaning.specs.Valuations.{Valuation, MonoValuation}
use Rattle.wh_poly_meaning.specs.TermValues.{Meanings, MonoMeanings, value_in, fed, of_interpretations}
use Rattle.wh_poly_meaning.specs.Calls.{all_nothing}
use Rattle.wh_poly_meaning.proofs.Order.{le_same, le_then, mono_nothing, reading_mono}
use Rattle.wh_poly_meaning.proofs.TermValues.{declared_is, has_same, type_is, value_app, value_mono}
use Rattle.wh_usable_calls.proofs.FlatCalls.{nullary_sort}

-- each variable of a sort means its number
abbrev pub numbered : (ℕ → ℕ) → Valuation
numbered ν z (sort s) = ν z
numbered ν z (a ⇒ b) = nothing (a ⇒ b)

pub numbered_mono : (ν : ℕ → ℕ) → MonoValuation (numbered ν)
numbered_mono ν z (sort s) = tt
numbered_mono ν z (a ⇒ b) = mono_nothing (a ⇒ b)

-- no number is greater
abbrev pub AreBelow : (ℕ → ℕ) → (ℕ → ℕ) → Type 0
AreBelow μ ν = (z : ℕ) → μ z ≤ ν z

-- what trees are made of means this, where meta-variables mean numbers
abbrev pub by_numbers_of : List Interpretation → (ℕ → ℕ) → Meanings
by_numbers_of symbols ν = record { of_symbols = of_interpretations symbols; of_metas = numbered ν; of_free = all_nothing }

pub nothings_mono : MonoValuation all_nothing
nothings_mono x A = mono_nothing A

pub numbers_mono : (symbols : List Interpretation) (ν : ℕ → ℕ) → MonoMeanings (by_numbers_of symbols ν)
numbers_mono symbols ν = record {
  symbols = λ f A. reading_mono A [] (λ x B. nothing B) (interpretation_at symbols f).polynomial (λ x B. mono_nothing B);
  metas = numbered_mono ν;
  free = nothings_mono;
}

module _ (S : Symbols) (M : List Declared) (symbols : List Interpretation) where
  -- the value of a side at numbers
  abbrev pub at_numbers : Tm → (ℕ → ℕ) → (A : Ty) → Sem A
  at_numbers t ν A = value_in S M (by_numbers_of symbols ν) [] t all_nothing A

  -- a function of the values of sides
  abbrev pub fed_numbers : (ℕ → ℕ) → (cs : List Ty) → Sem (arrows cs (sort 0)) → List Tm → ℕ
  fed_numbers ν cs F ts = fed S M (by_numbers_of symbols ν) [] all_nothing cs (sort 0) F (tms_of ts)

  pub side_mono : (t : Tm) (ν : ℕ → ℕ) (A : Ty) → Mono A (at_numbers t ν A)
  side_mono t ν A = value_mono S M (by_numbers_of symbols ν) (numbers_mono symbols ν) t [] all_nothing nothings_mono A

  pub app_value : (t u : Tm) (ν : ℕ → ℕ) (a A : Ty) → Typed S M [] u a
      → at_numbers (app t u) ν A ≡ at_numbers t ν (a ⇒ A) (at_numbers u ν a)
  app_value t u ν a A q = value_app S M (by_numbers_of symbols ν) [] t u all_nothing A a (type_is [] (has_same []) q)

  pub meta_value : (z : ℕ) (ν : ℕ → ℕ) (s : ℕ) → IsNullary M z → Typed S M [] (meta z none) (sort s)
      → at_numbers (meta z none) ν (sort s) ≡ ν z
  meta_value z ν s flat p =
      let (r, same, at) = nullary_sort S M z (sort s) flat p in
      ap (λ (d : Declared). fed S M (by_numbers_of symbols ν) [] all_nothing d.args (sort s) (numbered ν z (arrows d.args (sort s))) none)
      (declared_is M z (record { args = []; out = sort r }) at)

  -- smaller numbers give smaller values
  pub side_below : (t : Tm) (A : Ty) (μ ν : ℕ → ℕ) → AreBelow μ ν → IsFlatTree S M t → Typed S M [] t A
      → Le A (at_numbers t μ A) (at_numbers t ν A)
  side_below (bound i) A μ ν le flat p = absurd flat
  side_below (free x a) A μ ν le flat p = absurd flat
  side_below (fun f) A μ ν le flat p = le_same A (of_interpretations symbols f A)
  side_below (meta z none) (sort s) μ ν le flat p =
      subst₂ (λ m n. m ≤ n) (sym (meta_value z μ s flat p)) (sym (meta_value z ν s flat p)) (le z)
  side_below (meta z none) (a ⇒ b) μ ν le flat p = let (s, same, at) = nullary_sort S M z (a ⇒ b) flat p in absurd (cc)
  side_below (meta z (more t ts)) A μ ν le flat p = absurd flat
  side_below (lam a t) A μ ν le flat p = absurd flat
  side_below (app t u) A μ ν le flat (typed_app {a = a} p q) =
      let x = at_numbers u μ a in
      let y = at_numbers u ν a in
      let f = at_numbers t μ (a ⇒ A) in
      let g = at_numbers t ν (a ⇒ A) in
      subst₂ (Le A) (sym (app_value t u μ a A q)) (sym (app_value t u ν a A q))
      (le_then A (f x) (g x) (g y) (side_below t (a ⇒ A) μ ν le flat.0 p x (side_mono u μ a))
      ((side_mono t ν (a ⇒ A)).1 x y (side_mono u μ a) (side_mono u ν a) (side_below u a μ ν le flat.1 q)))
