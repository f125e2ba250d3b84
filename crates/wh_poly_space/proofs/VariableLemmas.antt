-- The variables of a scope, listed one after another.
use Rattle.std.proofs.Common.{◌≡◌, ℕ, zero, suc, ◌+◌, ◌<◌, ◌≤◌, Bool, true, false, cond, List, [], ◌∷◌, ◌++◌, length, drop, get_or, append_assoc, refl, ap, sym, ◌∙◌, arith}
use Rattle.std.proofs.lemmas.List.{append-nil}
use Rattle.wh_types.specs.Ty.{Ty}
use Rattle.wh_types.specs.Erase.{ty, tys}
use Rattle.wh_types.specs.declared.simple_type.SimpleType.{SimpleType}
use Rattle.wh_poly.proofs.Walks.{drop_next}
use Rattle.wh_poly_space.specs.Space.{variables_where}

abbrev pub listed_from : (Ty → Bool) → ℕ → List SimpleType → List ℕ
listed_from test i scope = variables_where test i (tys (drop i scope))

listed_next : (test : Ty → Bool) (i : ℕ) (k : SimpleType) (rest : List SimpleType) (b : Bool) → test (ty k) ≡ b
    → variables_where test i (tys (k ∷ rest)) ≡ cond b (i ∷ variables_where test (i + 1) (tys rest)) (variables_where test (i + 1) (tys rest))
listed_next test i k rest b is =
    let e : suc i ≡ i + 1 = omega arith in
    ap (λ (b : Bool). cond b (i ∷ variables_where test (suc i) (tys rest)) (variables_where test (suc i) (tys rest))) is
    ∙ ap (λ (j : ℕ). cond b (i ∷ variables_where test j (tys rest)) (variables_where test j (tys rest))) e

nothing_listed : (test : Ty → Bool) (n : ℕ) (scope : List SimpleType) (i : ℕ) → length scope ≤ i → variables_where test n (tys (drop i scope)) ≡ []
nothing_listed test n [] zero past = refl
nothing_listed test n [] (suc i) past = refl
nothing_listed test n (k ∷ scope) zero past = absurd (omega (arith, past))
nothing_listed test n (k ∷ scope) (suc i) past = nothing_listed test n scope i (omega (arith, past))

module _ (test : Ty → Bool) (whole out : List ℕ) (scope : List SimpleType) (i : ℕ) (before : out ++ listed_from test i scope ≡ whole) where
  pub listed_takes : (k : SimpleType) (new : List ℕ) → i < length scope → k ≡ get_or scope i k → test (ty k) ≡ true → new ≡ out ++ i ∷ []
      → new ++ listed_from test (i + 1) scope ≡ whole
  listed_takes k new within is passes pushed =
      ap (λ l. l ++ listed_from test (i + 1) scope) pushed
      ∙ append_assoc out (i ∷ []) (listed_from test (i + 1) scope)
      ∙ ap (λ l. out ++ l) (sym (ap (λ l. variables_where test i (tys l)) (drop_next scope i k within is) ∙ listed_next test i k (drop (i + 1) scope) true passes))
      ∙ before

  pub listed_passes : (k : SimpleType) → i < length scope → k ≡ get_or scope i k → test (ty k) ≡ false → out ++ listed_from test (i + 1) scope ≡ whole
  listed_passes k within is fails =
      ap (λ l. out ++ l) (sym (ap (λ l. variables_where test i (tys l)) (drop_next scope i k within is) ∙ listed_next test i k (drop (i + 1) scope) false fails))
      ∙ before

  pub listed_ends : length scope ≤ i → out ≡ whole
  listed_ends past = sym (append-nil out) ∙ ap (λ l. out ++ l) (sym (nothing_listed test i scope i past)) ∙ before
