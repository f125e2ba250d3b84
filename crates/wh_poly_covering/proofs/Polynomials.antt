-- What is asked of polynomials is decided: that they are normal, that one is at least another, and that moves show it.
use Rattle.std.proofs.Common.{◌≡◌, ◌<◌, ◌≤◌, ◌⊎◌, ℕ, zero, suc, inl, inr, List, [], ◌∷◌, ◌++◌, refl, sym, subst, arith}
use Rattle.std.proofs.lemmas.Bool.{cases_lt}
use Rattle.std.specs.declared.cmp.Ordering.{Ordering}
use Rattle.std.specs.declared.cmp.Ordering.TheVariants.{Less, Equal, Greater}
use Rattle.wh_types.specs.Ty.{Ty, sort, ◌⇒◌, arguments}
use Rattle.wh_system.proofs.TypedDecided.{Decided, decided_by, both_decided, below_decided}
use Rattle.wh_poly.specs.Polynomials.{Polynomial, zero_poly, plus, Factors, no_factors, times, Arguments, no_arguments, argument, HasType, compare_factors, compare_factor, FactorBefore, MonomialBefore, Normal, NormalFactors, NormalArguments}
use Rattle.wh_hopoly.specs.Covers.{Has, AtLeast}
use Rattle.wh_poly.specs.Limits.{weight}
use Rattle.wh_hopoly.specs.Moves.{Transfer, ArgumentsAtLeast, FactorsAtLeast, MonomialAt, Good, given_by, taken_by, NotOverSpent, Covered, IsCover, IsStrictCover}
use Rattle.wh_poly.proofs.OrderLaws.{factors_equal, factors_same}
use Rattle.wh_hopoly.proofs.NormalWalk.{one_type}
use Rattle.wh_polycheck.specs.CoverFaults.{AreGood, IsOverSpent, IsNotCovered, LeavesConstant, IsFirstCoverFault, IsFirstStrictCoverFault}
use Rattle.wh_polycheck.specs.declared.fault.CoverFault.{CoverFault}
use Rattle.wh_polycheck.specs.declared.fault.CoverFault.TheVariants.{BadMove, OverSpent, NotCovered, NotStrict}
use Rattle.wh_polycheck.proofs.GoodWalk.{one_monomial}
use Rattle.wh_pairs.proofs.Searches.{not_decided, not_refuted, equal_decided, at_most_decided, first_place}
use Rattle.wh_reduction_pairs.proofs.Lines.{all_or_first}

-- orders

less_decided : (o : Ordering) → Decided (o ≡ Less)
less_decided Less = inl refl
less_decided Equal = inr (λ e. cc)
less_decided Greater = inr (λ e. cc)

equal_order_decided : (o : Ordering) → Decided (o ≡ Equal)
equal_order_decided Less = inr (λ e. cc)
equal_order_decided Equal = inl refl
equal_order_decided Greater = inr (λ e. cc)

greater_decided : (o : Ordering) → Decided (o ≡ Greater)
greater_decided Less = inr (λ e. cc)
greater_decided Equal = inr (λ e. cc)
greater_decided Greater = inl refl

same_factors_decided : (us vs : Factors) → Decided (us ≡ vs)
same_factors_decided us vs =
    decided_by (factors_equal us vs) (λ same. subst (λ z. compare_factors us z ≡ Equal) same (factors_same us))
    (equal_order_decided (compare_factors us vs))

-- normal polynomials

monomial_before_decided : (us : Factors) (p : Polynomial) → Decided (MonomialBefore us p)
monomial_before_decided us zero_poly = inl tt
monomial_before_decided us (plus d vs q) = less_decided (compare_factors us vs)

factor_before_decided : (x : ℕ) (ps : Arguments) (us : Factors) → Decided (FactorBefore x ps us)
factor_before_decided x ps no_factors = inl tt
factor_before_decided x ps (times y qs vs) = not_decided (greater_decided (compare_factor x ps y qs))

type_or_none : (Γ : List Ty) (x : ℕ) → ((A : Ty) × HasType Γ x A) ⊎ ((A : Ty) → HasType Γ x A → ⊥)
type_or_none [] x = inr (λ A there. there)
type_or_none (B ∷ Γ) zero = inl (B, refl)
type_or_none (B ∷ Γ) (suc x) = type_or_none Γ x

times_decided : (Γ : List Ty) (x : ℕ) (ps : Arguments) (us : Factors) → ((A : Ty) → Decided (NormalArguments Γ A ps))
    → Decided (NormalFactors Γ us) → Decided (NormalFactors Γ (times x ps us))
times_decided Γ x ps us each rest = go (type_or_none Γ x)
  where
    go : ((A : Ty) × HasType Γ x A) ⊎ ((A : Ty) → HasType Γ x A → ⊥) → Decided (NormalFactors Γ (times x ps us))
    go (inr none) = inr (λ (A, there, normal, before, others). none A there)
    go (inl (A, there)) =
        decided_by (λ (normal, (before, others)). (A, there, normal, before, others))
        (λ (B, also, normal, before, others). ((one_type Γ x ps A there).0 (B, also, normal), (before, others)))
        (both_decided (each A) (both_decided (factor_before_decided x ps us) rest))

mutual
  pub normal_decided : (Γ : List Ty) (p : Polynomial) → Decided (Normal Γ p)
  normal_decided Γ zero_poly = inl tt
  normal_decided Γ (plus c us p) =
      decided_by (λ (some, (factors, (before, rest))). (some, factors, before, rest))
      (λ (some, factors, before, rest). (some, (factors, (before, rest))))
      (both_decided (at_most_decided 1 c) (both_decided (normal_factors_decided Γ us)
      (both_decided (monomial_before_decided us p) (normal_decided Γ p))))

  normal_factors_decided : (Γ : List Ty) (us : Factors) → Decided (NormalFactors Γ us)
  normal_factors_decided Γ no_factors = inl tt
  normal_factors_decided Γ (times x ps us) = times_decided Γ x ps us (λ A. normal_arguments_decided Γ A ps) (normal_factors_decided Γ us)

  normal_arguments_decided : (Γ : List Ty) (A : Ty) (ps : Arguments) → Decided (NormalArguments Γ A ps)
  normal_arguments_decided Γ (sort s) no_arguments = inl tt
  normal_arguments_decided Γ (sort s) (argument p ps) = inr (λ normal. normal)
  normal_arguments_decided Γ (A ⇒ B) no_arguments = inr (λ normal. normal)
  normal_arguments_decided Γ (A ⇒ B) (argument p ps) = both_decided (normal_decided (Γ ++ arguments A) p) (normal_arguments_decided Γ B ps)

-- one polynomial at least another

has_decided : (p : Polynomial) (d : ℕ) (vs : Factors) → Decided (Has p d vs)
has_decided zero_poly d vs = inr (λ has. has)
has_decided (plus c us p) d vs = go (both_decided (same_factors_decided us vs) (at_most_decided d c)) (has_decided p d vs)
  where
    go : Decided ((us ≡ vs) × (d ≤ c)) → Decided (Has p d vs) → Decided (Has (plus c us p) d vs)
    go (inl here) rest = inl (inl here)
    go (inr not) (inl later) = inl (inr later)
    go (inr not) (inr none) = inr (λ has. elim has [ inl here ↦ not here | inr later ↦ none later ])

at_least_decided : (p q : Polynomial) → Decided (AtLeast p q)
at_least_decided p zero_poly = inl tt
at_least_decided p (plus d vs q) = both_decided (has_decided p d vs) (at_least_decided p q)

arguments_at_least_decided : (ps qs : Arguments) → Decided (ArgumentsAtLeast ps qs)
arguments_at_least_decided no_arguments no_arguments = inl tt
arguments_at_least_decided no_arguments (argument q qs) = inr (λ not. not)
arguments_at_least_decided (argument p ps) no_arguments = inr (λ not. not)
arguments_at_least_decided (argument p ps) (argument q qs) = both_decided (at_least_decided p q) (arguments_at_least_decided ps qs)

factors_at_least_decided : (us vs : Factors) → Decided (FactorsAtLeast us vs)
factors_at_least_decided no_factors no_factors = inl tt
factors_at_least_decided no_factors (times y qs vs) = inr (λ not. not)
factors_at_least_decided (times x ps us) no_factors = inr (λ not. not)
factors_at_least_decided (times x ps us) (times y qs vs) =
    decided_by (λ (same, (arguments, rest)). (same, arguments, rest)) (λ (same, arguments, rest). (same, (arguments, rest)))
    (both_decided (equal_decided x y) (both_decided (arguments_at_least_decided ps qs) (factors_at_least_decided us vs)))

-- monomials by their places

-- there is one at the place, or none
abbrev MonomialOrNone : Polynomial → ℕ → Type 0
MonomialOrNone p i = ((c : ℕ) × (us : Factors) × MonomialAt p i c us) ⊎ ((c : ℕ) (us : Factors) → MonomialAt p i c us → ⊥)

monomial_or_none : (p : Polynomial) (i : ℕ) → MonomialOrNone p i
monomial_or_none zero_poly i = inr (λ c us at. at)
monomial_or_none (plus d vs p) zero = inl (d, vs, (refl, refl))
monomial_or_none (plus d vs p) (suc i) = monomial_or_none p i

monomial_counted : (p : Polynomial) (i c : ℕ) (us : Factors) → MonomialAt p i c us → i < weight p
monomial_counted zero_poly i c us at = absurd at
monomial_counted (plus d vs p) zero c us at = omega arith
monomial_counted (plus d vs p) (suc i) c us at = let less = monomial_counted p i c us at in omega (arith, less)

-- moves

good_decided : (left right : Polynomial) (m : Transfer) → Decided (Good left right m)
good_decided left right m = go (monomial_or_none left m.from) (monomial_or_none right m.to)
  where
    go : MonomialOrNone left m.from → MonomialOrNone right m.to → Decided (Good left right m)
    go (inr none) other = inr (λ good. none good.given good.giver good.source)
    go (inl found) (inr none) = inr (λ good. none good.taken good.taker good.target)
    go (inl (c, us, at)) (inl (d, vs, also)) =
        decided_by (λ fits. record { given = c; taken = d; giver = us; taker = vs; source = at; target = also; fits = fits })
        (λ good.
        let giver = (one_monomial left m.from good.given c good.giver us good.source at).1 in
        let taker = (one_monomial right m.to good.taken d good.taker vs good.target also).1 in
        subst (λ (z : Factors). FactorsAtLeast us z) taker (subst (λ (z : Factors). FactorsAtLeast z good.taker) giver good.fits))
        (factors_at_least_decided us vs)

spent_or_not : (left : Polynomial) (ms : List Transfer) (i : ℕ) → NotOverSpent left ms i ⊎ IsOverSpent left ms i
spent_or_not left ms i = go (monomial_or_none left i)
  where
    at_monomial : (c : ℕ) (us : Factors) → MonomialAt left i c us → Decided (c < given_by i ms) → NotOverSpent left ms i
        ⊎ IsOverSpent left ms i
    at_monomial c us at (inl more) = inr (c, us, at, more)
    at_monomial c us at (inr not) =
        inl (λ d vs also. let same : d ≡ c = (one_monomial left i d c vs us also at).0 in elim (cases_lt c (given_by i ms)) [
          | inl more ↦ absurd (not more)
          | inr le ↦ omega (arith, le, same)
        ])

    go : MonomialOrNone left i → NotOverSpent left ms i ⊎ IsOverSpent left ms i
    go (inr none) = inl (λ c us at. absurd (none c us at))
    go (inl (c, us, at)) = at_monomial c us at (below_decided c (given_by i ms))

covered_or_not : (right : Polynomial) (ms : List Transfer) (j : ℕ) → Covered right ms j ⊎ IsNotCovered right ms j
covered_or_not right ms j = go (monomial_or_none right j)
  where
    at_monomial : (c : ℕ) (us : Factors) → MonomialAt right j c us → Decided (taken_by j ms < c) → Covered right ms j
        ⊎ IsNotCovered right ms j
    at_monomial c us at (inl fewer) = inr (c, us, at, fewer)
    at_monomial c us at (inr not) =
        inl (λ d vs also. let same : d ≡ c = (one_monomial right j d c vs us also at).0 in elim (cases_lt (taken_by j ms) c) [
          | inl fewer ↦ absurd (not fewer)
          | inr le ↦ omega (arith, le, same)
        ])

    go : MonomialOrNone right j → Covered right ms j ⊎ IsNotCovered right ms j
    go (inr none) = inl (λ c us at. absurd (none c us at))
    go (inl (c, us, at)) = at_monomial c us at (below_decided (taken_by j ms) c)

abbrev pub CoverOrFault : Polynomial → Polynomial → List Transfer → Type 0
CoverOrFault left right ms = IsCover left right ms ⊎ ((f : CoverFault) × IsFirstCoverFault left right ms f)

targets_or_fault : (left right : Polynomial) (ms : List Transfer) → AreGood left right ms → ((i : ℕ) → NotOverSpent left ms i)
    → CoverOrFault left right ms
targets_or_fault left right ms good enough =
    elim (all_or_first (Covered right ms) (IsNotCovered right ms) (covered_or_not right ms) (weight right)) [
      | inl all ↦ inl (record { good = good; not_over_spent = enough; covered = λ j c us at. all j (monomial_counted right j c us at) c us at })
      | inr (j, less, missing, before) ↦ inr (NotCovered j, (good, enough, (missing, before)))
    ]

sources_or_fault : (left right : Polynomial) (ms : List Transfer) → AreGood left right ms → CoverOrFault left right ms
sources_or_fault left right ms good =
    elim (all_or_first (NotOverSpent left ms) (IsOverSpent left ms) (spent_or_not left ms) (weight left)) [
      | inl all ↦ targets_or_fault left right ms good (λ i c us at. all i (monomial_counted left i c us at) c us at)
      | inr (i, less, spent, before) ↦ inr (OverSpent i, (good, (spent, before)))
    ]

pub cover_or_fault : (left right : Polynomial) (ms : List Transfer) → CoverOrFault left right ms
cover_or_fault left right ms = elim (first_place (λ m. Good left right m → ⊥) (λ m. not_decided (good_decided left right m)) ms) [
  | inl (e, m, at, bad, before) ↦ inr
      (BadMove e, (m, at, bad, λ i n less also. not_refuted (good_decided left right n) (before i n less also)))
  | inr none ↦ sources_or_fault left right ms (λ m found. not_refuted (good_decided left right m) (none m found))
]

constant_decided : (left : Polynomial) (ms : List Transfer) → Decided (LeavesConstant left ms)
constant_decided left ms = go (monomial_or_none left 0)
  where
    go : MonomialOrNone left 0 → Decided (LeavesConstant left ms)
    go (inr none) = inr (λ (c, at, less). none c no_factors at)
    go (inl (c, us, at)) =
        decided_by (λ (plain, less). (c, subst (λ (z : Factors). MonomialAt left 0 c z) plain at, less))
        (λ (d, also, less). let same = one_monomial left 0 d c no_factors us also at in
        (sym same.1, subst (λ n. given_by 0 ms < n) same.0 less))
        (both_decided (same_factors_decided us no_factors) (below_decided (given_by 0 ms) c))

abbrev pub StrictCoverOrFault : Polynomial → Polynomial → List Transfer → Type 0
StrictCoverOrFault left right ms = IsStrictCover left right ms ⊎ ((f : CoverFault) × IsFirstStrictCoverFault left right ms f)

weak_is_strict : (left right : Polynomial) (ms : List Transfer) (f : CoverFault) → IsFirstCoverFault left right ms f
    → IsFirstStrictCoverFault left right ms f
weak_is_strict left right ms (BadMove e) first = first
weak_is_strict left right ms (OverSpent i) first = first
weak_is_strict left right ms (NotCovered j) first = first
weak_is_strict left right ms NotStrict first = absurd first

pub strict_cover_or_fault : (left right : Polynomial) (ms : List Transfer) → StrictCoverOrFault left right ms
strict_cover_or_fault left right ms = go (cover_or_fault left right ms) (constant_decided left ms)
  where
    go : CoverOrFault left right ms → Decided (LeavesConstant left ms) → StrictCoverOrFault left right ms
    go (inr (f, first)) decided = inr (f, weak_is_strict left right ms f first)
    go (inl is) (inl (c, at, less)) = inl (record { cover = is; constant = c; first = at; left_over = less })
    go (inl is) (inr nothing) = inr (NotStrict, (is, nothing))
