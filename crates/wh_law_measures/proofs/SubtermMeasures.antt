-- The measure by a node `subterm`.
use Rattle.std.proofs.Common.{◌≡◌, ℕ, zero, suc, ◌+◌, ◌<◌, ◌≤◌, inl, inr, List, [], ◌∷◌, length, Some, slice_get, Contains, refl, ap₂, subst, arith}
use Rattle.std.proofs.lemmas.Option.{slice_get_within}
use Rattle.wh_terms.specs.Tree.{Tm}
use Rattle.wh_terms.specs.Typing.{Symbols}
use Rattle.wh_terms.specs.Rules.{RewriteRule, AreWellMade}
use Rattle.wh_step.specs.Step.{Step}
use Rattle.wh_step_laws.specs.Ends.{StepsIn, step_here, step_there}
use Rattle.wh_system.proofs.TypedDecided.{Decided, decided_by, both_decided}
use Rattle.wh_pairs.specs.PairData.{PairData, IsIncreasing}
use Rattle.wh_pairs.specs.Sets.{IsSetOf, IsKept}
use Rattle.wh_pairs.proofs.DropLemmas.{contains_or_not}
use Rattle.wh_pairs.proofs.Searches.{equal_decided, some_below, member_decided}
use Rattle.wh_subterm.specs.Projections.{Chosen, IsProjected}
use Rattle.wh_subterm.specs.SubtermRows.{chosen_symbols, IsProjection}
use Rattle.wh_proof_calls.specs.MarkedCalls.{MarkedCall, PairLeads, ArgumentsStep}
use Rattle.wh_law_projection.specs.LongestSequences.{IsProjectedLength, IsBoundedCall}
use Rattle.wh_law_projection.proofs.ProjectedLaws.{projected_longest, length_one, below_lowers, equal_keeps, steps_lower}
use Rattle.wh_law_measures.specs.Lexicographic.{IsLess}
use Rattle.wh_law_measures.specs.Measures.{Measure, Measures, IsSubtermNumber, IsSubtermMeasure}
use Rattle.wh_law_measures.proofs.Lexicographic.{headed_less, behind_less, headed_not_more}

-- whether the choices project an argument is decided

chosen_decided : (a b : Chosen) → Decided (a ≡ b)
chosen_decided a b =
    decided_by (λ (e, d). choice_one a b e d) (λ same. (cc, cc))
    (both_decided (equal_decided a.symbol b.symbol) (equal_decided a.argument b.argument))
  where
    choice_one : (a b : Chosen) → a.symbol ≡ b.symbol → a.argument ≡ b.argument → a ≡ b
    choice_one a b e d = ap₂ {C = Chosen} (λ s n. record { symbol = s; argument = n }) e d

some_at : (ts : List Tm) (i : ℕ) → i < length ts → (t : Tm) × (slice_get ts i ≡ Some t)
some_at [] i h = absurd (omega arith)
some_at (t ∷ ts) zero h = (t, refl)
some_at (t ∷ ts) (suc i) h = some_at ts i (omega arith)

projected_decided : (args : List Chosen) (f : ℕ) (ts : List Tm) → Decided ((t : Tm) × IsProjected args f ts t)
projected_decided args f ts =
    decided_by (λ (i, h, found). let (t, at) = some_at ts i h in (t, (i, found, at)))
    (λ (t, is). (is.0, slice_get_within ts is.0 t is.2, is.1))
    (some_below (λ i. Contains args (record { symbol = f; argument = i + 1 }))
    (λ i. member_decided chosen_decided args (record { symbol = f; argument = i + 1 })) (length ts))

-- where a list steps, it has members at the same places
step_from : {R : Tm → Tm → Type 0} {ts us : List Tm} (i : ℕ) (u : Tm) → StepsIn R ts us → slice_get us i ≡ Some u
    → (t : Tm) × (slice_get ts i ≡ Some t)
step_from zero u (step_here {a = t} s) e = (t, refl)
step_from (suc i) u (step_here s) e = (u, e)
step_from zero u (step_there s) e = (u, e)
step_from (suc i) u (step_there s) e = step_from i u s e

none_before : {R : Tm → Tm → Type 0} (args : List Chosen) (c d : MarkedCall) → ArgumentsStep R c d
    → ((t : Tm) → IsProjected args c.symbol c.arguments t → ⊥) → (u : Tm) → IsProjected args d.symbol d.arguments u → ⊥
none_before args c d s none u (i, found, at) =
    let (t, there) = step_from i u s.arguments at in
    none t (i, subst (λ f. Contains args (record { symbol = f; argument = i + 1 })) s.symbol found, there)

-- the number of a call whose argument is projected
number_is : {rules : List RewriteRule} (args : List Chosen) (c : MarkedCall) (n m : ℕ) → IsIncreasing (chosen_symbols args)
    → IsSubtermNumber rules args c n → IsProjectedLength rules args c m → n ≡ m
number_is args c n m up (inl is) there = length_one args c n m up is there
number_is args c n m up (inr (none, e)) (t, here, best) = absurd (none t here)

module _ (S : Symbols) (rules : List RewriteRule) (made : AreWellMade S rules) (args : List Chosen) where
  subterm_number : (c : MarkedCall) → IsBoundedCall S rules c → Decided ((t : Tm) × IsProjected args c.symbol c.arguments t)
      → (n : ℕ) × IsSubtermNumber rules args c n
  subterm_number c good (inl (t, here)) = let (n, best) = projected_longest made args c t good here in (n, inl (t, here, best))
  subterm_number c good (inr none) = (0, inr (λ t here. none (t, here), refl))

  pub subterm_measure : (child : Measure S rules) → (f : Measure S rules) × IsSubtermMeasure S rules args child f
  subterm_measure child = (
    λ c good. (subterm_number c good (projected_decided args c.symbol c.arguments)).0 ∷ child c good,
    λ c good. let (n, is) = subterm_number c good (projected_decided args c.symbol c.arguments) in (n, is, refl),
  )

  number_steps : (c d : MarkedCall) (n m : ℕ) → IsIncreasing (chosen_symbols args) → IsBoundedCall S rules c → ArgumentsStep (Step rules) c d
      → IsSubtermNumber rules args c n → IsSubtermNumber rules args d m → m ≤ n
  number_steps c d n m up good s (inl here) there =
      let (k, is, le) = steps_lower made args c d n good s here in
      let same = number_is args d m k up there is in
      omega arith
  number_steps c d n m up good s (inr (none, e)) (inl (t, there, best)) = absurd (none_before args c d s none t there)
  number_steps c d n m up good s (inr (none, e)) (inr (not, k)) = omega arith

  module _ (pairs : List PairData) (set drop rest : List ℕ) (is : IsProjection rules pairs set args drop)
      (kept : IsSetOf (IsKept set drop) rest) (child f : Measure S rules) (under : Measures S rules pairs rest child)
      (by_kind : IsSubtermMeasure S rules args child f) where
    -- a pair that is below lowers the number
    lowered : (p : PairData) (c d : MarkedCall) (good : IsBoundedCall S rules c) (also : IsBoundedCall S rules d) → PairLeads S p c d
        → (n m : ℕ) → IsSubtermNumber rules args c n → IsSubtermNumber rules args d m
        → ((k j : ℕ) × IsProjectedLength rules args c k × IsProjectedLength rules args d j × (j < k)) → m < n
    lowered p c d good also s n m here there (k, j, left, right, less) =
        let a = number_is args c n k is.marked.in_order here left in
        let b = number_is args d m j is.marked.in_order there right in
        omega arith

    kept_as_long : (c d : MarkedCall) (n m : ℕ) → IsSubtermNumber rules args c n → IsSubtermNumber rules args d m
        → ((k : ℕ) × IsProjectedLength rules args c k × IsProjectedLength rules args d k) → m ≤ n
    kept_as_long c d n m here there (k, left, right) =
        let a = number_is args c n k is.marked.in_order here left in
        let b = number_is args d m k is.marked.in_order there right in
        omega arith

    pair_lowers : (n : ℕ) (p : PairData) (c d : MarkedCall) (good : IsBoundedCall S rules c) (also : IsBoundedCall S rules d)
        → Contains set n → slice_get pairs n ≡ Some p → PairLeads S p c d → IsLess (f d also) (f c good)
    pair_lowers n p c d good also inside at s =
        let (k, here, e) = by_kind c good in
        let (j, there, i) = by_kind d also in
        elim (contains_or_not drop n) [
          | inl found ↦ headed_less j k (child d also) (child c good) i e
              (lowered p c d good also s k j here there (below_lowers made args p c d (is.below n p found at) good s))
          | inr stays ↦ elim (is.decreasing n p inside at) [
            | inl equal ↦ behind_less j k (child d also) (child c good) i e
                (kept_as_long c d k j here there (equal_keeps made args p c d equal good s))
                (under.each_pair_lowers p c d good also (n, (kept.each n).1 (inside, stays), at) s)
            | inr below ↦ headed_less j k (child d also) (child c good) i e
                (lowered p c d good also s k j here there (below_lowers made args p c d below good s))
          ]
        ]

    pub subterm_measures : Measures S rules pairs set f
    subterm_measures = record {
      no_step_raises = λ c d good also s.
          let (n, here, e) = by_kind c good in
          let (m, there, k) = by_kind d also in
          headed_not_more m n (child d also) (child c good) k e
          (number_steps c d n m is.marked.in_order good s here there) (under.no_step_raises c d good also s);
      each_pair_lowers = λ p c d good also (n, inside, at) s. pair_lowers n p c d good also inside at s;
    }
