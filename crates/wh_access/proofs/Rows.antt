-- The small systems, computed by hand.
use Rattle.std.proofs.Common.{◌≡◌, ◌≢◌, ℕ, zero, suc, ◌<◌, inl, inr, true, [], ◌∷◌, Some, slice_get, AllPairs, refl, ap, subst, arith}
use Rattle.std.proofs.lemmas.List.Elements.{All-nil, All-cons, All-head}
use Rattle.wh_types.specs.Ty.{Ty, sort, ◌⇒◌, arguments, result_sort}
use Rattle.wh_terms.specs.Typing.{Symbols}
use Rattle.wh_terms.specs.Rules.{RewriteRule}
use Rattle.wh_step_laws.specs.Ranks.{rank_of, RanksBelow, IsAccessibleIn, IsAccessible}
use Rattle.wh_access.specs.Readings.{Place}
use Rattle.wh_access.specs.Demands.{LeadsStrictly, IsStrictCycle}
use Rattle.wh_access.specs.Passing.{AllAccessible, EachUsed, Passes, Passing, IsFirstBreak}
use Rattle.wh_access.specs.Samples.{place, lists, map_nil, map_cons, map_rules, function_lists, apply_nil, apply_cons, apply_rules, untyped, untyped_rules, ordinals, ordinal_rules}

-- two rules one after another
two_pass : (S : Symbols) (rank : ℕ → ℕ) (q r : RewriteRule) → EachUsed (Passes S rank) q → EachUsed (Passes S rank) r → Passing S rank (q ∷ (r ∷ []))
two_pass S rank q r first second s (zero, within, e) = subst (EachUsed (Passes S rank)) e first
two_pass S rank q r first second s (suc zero, within, e) = subst (EachUsed (Passes S rank)) e second
two_pass S rank q r first second s (suc (suc k), within, e) = absurd (omega arith)

nil_passes : (rank : ℕ → ℕ) → EachUsed (Passes function_lists rank) apply_nil
nil_passes rank z (inl e) = subst (Passes function_lists rank apply_nil.left) e ([], refl, All-nil (λ p. IsAccessible function_lists rank p.symbol p.index))
nil_passes rank z (inr none) = absurd none

cons_passes : EachUsed (Passes function_lists (rank_of (0 ∷ (1 ∷ [])))) apply_cons
cons_passes z o =
    let rank = rank_of (0 ∷ (1 ∷ [])) in
    let P : Place → Type 0 = λ p. IsAccessible function_lists rank p.symbol p.index in
    let by : (y : ℕ) → Passes function_lists rank apply_cons.left y → y ≡ z → Passes function_lists rank apply_cons.left z = λ y h e. subst (Passes function_lists rank apply_cons.left) e h in
    let rest = by 1 (place 1 1 ∷ [], refl, All-cons P (place 1 1) [] (sort 1, (sort 0 ⇒ sort 0) ⇒ (sort 1 ⇒ sort 1), refl, refl, omega arith) (All-nil P)) in
    let function = by 0 (place 1 0 ∷ [], refl, All-cons P (place 1 0) [] (sort 0 ⇒ sort 0, (sort 0 ⇒ sort 0) ⇒ (sort 1 ⇒ sort 1), refl, refl, (omega arith, omega arith)) (All-nil P)) in
    let last = by 2 ([], refl, All-nil P) in
    elim o [
      | inl (inl none) ↦ absurd none
      | inl (inr (inl e)) ↦ rest e
      | inl (inr (inr none)) ↦ absurd none
      | inr (inl e) ↦ function e
      | inr (inr (inl (inl e))) ↦ last e
      | inr (inr (inl (inr none))) ↦ absurd none
      | inr (inr (inr none)) ↦ absurd none
    ]

pub lists_pass : Passing function_lists (rank_of (0 ∷ (1 ∷ []))) apply_rules
lists_pass = two_pass function_lists (rank_of (0 ∷ (1 ∷ []))) apply_nil apply_cons (nil_passes (rank_of (0 ∷ (1 ∷ [])))) cons_passes

-- the arguments of cons are of sorts, so that equal ranks do
maps_pass_cons : EachUsed (Passes lists (rank_of (0 ∷ (0 ∷ [])))) map_cons
maps_pass_cons z o =
    let rank = rank_of (0 ∷ (0 ∷ [])) in
    let P : Place → Type 0 = λ p. IsAccessible lists rank p.symbol p.index in
    let by : (y : ℕ) → Passes lists rank map_cons.left y → y ≡ z → Passes lists rank map_cons.left z = λ y h e. subst (Passes lists rank map_cons.left) e h in
    let function = by 0 ([], refl, All-nil P) in
    let first = by 1 (place 1 0 ∷ [], refl, All-cons P (place 1 0) [] (sort 0, sort 0 ⇒ (sort 1 ⇒ sort 1), refl, refl, omega arith) (All-nil P)) in
    let rest = by 2 (place 1 1 ∷ [], refl, All-cons P (place 1 1) [] (sort 1, sort 0 ⇒ (sort 1 ⇒ sort 1), refl, refl, omega arith) (All-nil P)) in
    elim o [
      | inl (inl none) ↦ absurd none
      | inl (inr (inl e)) ↦ function e
      | inl (inr (inr (inl (inl e)))) ↦ first e
      | inl (inr (inr (inl (inr none)))) ↦ absurd none
      | inl (inr (inr (inr none))) ↦ absurd none
      | inr (inl (inl none)) ↦ absurd none
      | inr (inl (inr (inl e))) ↦ function e
      | inr (inl (inr (inr (inl none)))) ↦ absurd none
      | inr (inl (inr (inr (inr none)))) ↦ absurd none
      | inr (inr (inl e)) ↦ rest e
      | inr (inr (inr none)) ↦ absurd none
    ]

pub maps_pass : Passing lists (rank_of (0 ∷ (0 ∷ []))) map_rules
maps_pass = two_pass lists (rank_of (0 ∷ (0 ∷ []))) map_nil map_cons (λ z none. absurd none) maps_pass_cons

-- under equal ranks the place of the function is closed
shut : IsAccessible function_lists (rank_of (0 ∷ (0 ∷ []))) 1 0 → ⊥
shut (a, b, has, at, within) =
    let rank : ℕ → ℕ = rank_of (0 ∷ (0 ∷ [])) in
    let function : Ty = sort 0 ⇒ sort 0 in
    let kind : b ≡ function ⇒ (sort 1 ⇒ sort 1) = cc in
    let argument : a ≡ function = cc (at, ap (λ b. slice_get (arguments b) 0) kind) in
    let low : RanksBelow rank 0 function = subst (λ t. RanksBelow rank (rank t) function) (ap result_sort kind) (subst (λ u. IsAccessibleIn rank (result_sort b) u) argument within) in
    omega (arith, low.0)

functions_closed : Passes function_lists (rank_of (0 ∷ (0 ∷ []))) apply_cons.left 0 → ⊥
functions_closed (way, e, all) =
    let rank : ℕ → ℕ = rank_of (0 ∷ (0 ∷ [])) in
    let P : Place → Type 0 = λ p. IsAccessible function_lists rank p.symbol p.index in
    let same : way ≡ place 1 0 ∷ [] = cc in
    shut (All-head P (place 1 0) [] (subst (AllAccessible function_lists rank) same all))

before_cons : (j : ℕ) (r : RewriteRule) → j < 1 → slice_get apply_rules j ≡ Some r → EachUsed (Passes function_lists (rank_of (0 ∷ (0 ∷ [])))) r
before_cons zero r low e = let same : apply_nil ≡ r = cc in subst (EachUsed (Passes function_lists (rank_of (0 ∷ (0 ∷ []))))) same (nil_passes (rank_of (0 ∷ (0 ∷ []))))
before_cons (suc j) r low e = absurd (omega arith)

pub lists_break : IsFirstBreak function_lists (rank_of (0 ∷ (0 ∷ []))) apply_rules 1 0
lists_break = record {
  here = (apply_cons, refl, inr (inl refl), functions_closed, λ y low. absurd (omega arith));
  before = before_cons;
}

-- the demands that lead from a sort to itself

one_apart : (s : ℕ) → AllPairs (λ x y. x ≢ y) (s ∷ [])
one_apart s i j d less within = absurd (omega arith)

untyped_demand : LeadsStrictly untyped untyped_rules 0 0
untyped_demand = (_, (0, omega arith, refl), (0, (inl refl, (place 0 0 ∷ [], refl, (place 0 0, (0, omega arith, refl), (sort 0 ⇒ sort 0, (sort 0 ⇒ sort 0) ⇒ sort 0, refl, refl, (inl refl, refl, refl)))))))

pub untyped_cycle : IsStrictCycle untyped untyped_rules (0 ∷ [])
untyped_cycle = (one_apart 0, (true, untyped_demand), untyped_demand)

ordinal_demand : LeadsStrictly ordinals ordinal_rules 1 1
ordinal_demand = (_, (0, omega arith, refl), (0, (inl (inr (inl refl)), (place 0 0 ∷ [], refl, (place 0 0, (0, omega arith, refl), (sort 0 ⇒ sort 1, (sort 0 ⇒ sort 1) ⇒ sort 1, refl, refl, (inr refl, refl, refl)))))))

pub ordinal_cycle : IsStrictCycle ordinals ordinal_rules (1 ∷ [])
ordinal_cycle = (one_apart 1, (true, ordinal_demand), ordinal_demand)
