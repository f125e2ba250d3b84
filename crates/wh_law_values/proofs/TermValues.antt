-- Terms that end have values, by induction on steps and direct subterms together.
use Rattle.std.proofs.Common.{◌≡◌, ℕ, ◌≤◌, ◌<◌, ◌⊎◌, inl, inr, List, [], ◌∷◌, refl, subst, arith}
use Rattle.std.proofs.lemmas.Bool.{cases_lt}
use Rattle.wh_types.specs.Ty.{Ty, sort, ◌⇒◌}
use Rattle.wh_terms.specs.Tree.{Tm, bound, free, fun, meta, lam, app}
use Rattle.wh_terms.specs.Typing.{Symbols}
use Rattle.wh_terms.specs.Rules.{RewriteRule, AreWellMade}
use Rattle.wh_step.specs.Step.{Step}
use Rattle.wh_step_laws.specs.Ends.{Ends, ends}
use Rattle.wh_step_laws.specs.DirectSubterms.{HasPart, function_part, argument_part, StepOrPart}
use Rattle.wh_step_laws.proofs.Listed.{In}
use Rattle.wh_step_laws.proofs.PartLaws.{ends-parts}
use Rattle.wh_step_laws.proofs.SystemSteps.{IsShutTerm, shut-step, steps_listed}
use Rattle.wh_system.proofs.TypedDecided.{Decided}
use Rattle.wh_hopoly.specs.Evaluation.{Interpretation}
use Rattle.wh_poly_meaning.specs.Functionals.{Sem}
use Rattle.wh_poly_meaning.specs.TermValues.{of_interpretations}
use Rattle.wh_usable_calls.specs.Bounds.{IsFlatCall, IsWholeCall, HasListedHead}
use Rattle.wh_usable_calls.proofs.FlatCalls.{whole_or_not}
use Rattle.wh_usable_calls.proofs.BoundLaws.{steps_pass}
use Rattle.wh_law_values.specs.Values.{IsGreatest, IsValue, of_listed, of_call, of_other, ReadsValues, value_symbol, value_application}
use Rattle.wh_law_values.proofs.ListedHeads.{head_listed}
use Rattle.wh_law_values.proofs.LeastBounds.{value_no_more}

shut_part : (t u : Tm) → IsShutTerm t → HasPart t u → IsShutTerm u
shut_part t u shut function_part = (shut.0.0, shut.1.0)
shut_part t u shut argument_part = (shut.0.1, shut.1.1)

module _ (S : Symbols) (rules : List RewriteRule) (listed : List ℕ) (symbols : List Interpretation) where
  abbrev Value : Tm → ℕ → Type 0
  Value = IsValue S rules listed symbols

  abbrev ReadAt : Tm → (A : Ty) → Sem A → Type 0
  ReadAt = ReadsValues S rules listed symbols

  abbrev HasOne : Tm → Type 0
  HasOne t = (n : ℕ) × Value t n

  abbrev HasReadings : Tm → Type 0
  HasReadings t = (A : Ty) → IsFlatCall S t A → (F : Sem A) × ReadAt t A F

  -- the greatest of k and of the values of the members of a list
  abbrev GreatestIn : ℕ → List Tm → ℕ → Type 0
  GreatestIn k l n = (k ≤ n) × ((u : Tm) → In u l → (m : ℕ) → Value u m → m ≤ n) × ((n ≡ k) ⊎ ((u : Tm) × In u l × Value u n))

  greater : (k : ℕ) (v : Tm) (l : List Tm) (n m : ℕ) → Value v m → GreatestIn k l n → (m < n) ⊎ (n ≤ m)
      → (j : ℕ) × GreatestIn k (v ∷ l) j
  greater k v l n m is best (inl less) = (n, (best.0, below, found))
    where
      below : (u : Tm) → In u (v ∷ l) → (j : ℕ) → Value u j → j ≤ n
      below u (inl same) j value =
          let h = value_no_more S rules listed symbols (subst (λ w. Value w j) same value) is in omega arith
      below u (inr later) j value = best.1 u later j value

      found : (n ≡ k) ⊎ ((u : Tm) × In u (v ∷ l) × Value u n)
      found = elim (best.2) [
        | inl same ↦ inl same
        | inr (u, later, value) ↦ inr (u, inr later, value)
      ]
  greater k v l n m is best (inr le) = (m, (let h = best.0 in omega arith, below, inr (v, inl refl, is)))
    where
      below : (u : Tm) → In u (v ∷ l) → (j : ℕ) → Value u j → j ≤ m
      below u (inl same) j value = value_no_more S rules listed symbols (subst (λ w. Value w j) same value) is
      below u (inr later) j value = let h = best.1 u later j value in omega arith

  greatest_in : (k : ℕ) (l : List Tm) → ((u : Tm) → In u l → HasOne u) → (n : ℕ) × GreatestIn k l n
  greatest_in k [] each = (k, (omega arith, λ u i m value. absurd i, inl refl))
  greatest_in k (v ∷ l) each =
      let (n, best) = greatest_in k l (λ u i. each u (inr i)) in
      let (m, is) = each v (inl refl) in
      greater k v l n m is best (cases_lt m n)

  -- the greatest of k and of the values of all reducts
  greatest_reduct : (k : ℕ) (t : Tm) (l : List Tm) → ((u : Tm) → Step rules t u → In u l) → ((u : Tm) → In u l → Step rules t u)
      → (values : (u : Tm) → Step rules t u → ℕ) → ((u : Tm) (s : Step rules t u) → Value u (values u s))
      → (n : ℕ) × IsGreatest rules t values k n
  greatest_reduct k t l all only values are =
      let (n, best) = greatest_in k l (λ u i. (values u (only u i), are u (only u i))) in
      (n, (best.0, λ u s. best.1 u (all u s) (values u s) (are u s), attained n best))
    where
      attained : (n : ℕ) → GreatestIn k l n → (n ≡ k) ⊎ ((u : Tm) × (s : Step rules t u) × (n ≡ values u s))
      attained n best = elim (best.2) [
        | inl same ↦ inl same
        | inr (u, i, value) ↦
            let s = only u i in
            let h = value_no_more S rules listed symbols value (are u s) in
            let j = value_no_more S rules listed symbols (are u s) value in
            inr (u, s, omega arith)
      ]

  readings_by_parts : (t : Tm) → ((v : Tm) → HasPart t v → HasOne v × HasReadings v) → HasReadings t
  readings_by_parts (bound i) parts A p = absurd p
  readings_by_parts (free x a) parts A p = absurd p
  readings_by_parts (fun f) parts A p = (of_interpretations symbols f A, value_symbol p)
  readings_by_parts (meta z ts) parts A p = absurd p
  readings_by_parts (lam a t) parts A p = absurd p
  readings_by_parts (app t u) parts A (s, p) =
      let (F, read) = (parts t function_part).1 (sort s ⇒ A) p in
      let (n, value) = (parts u argument_part).0 in
      (F n, value_application read value)

  -- the three cases
  by_cases : (t : Tm) (l : List Tm) → ((u : Tm) → Step rules t u → In u l) → ((u : Tm) → In u l → Step rules t u)
      → (values : (u : Tm) → Step rules t u → ℕ) → ((u : Tm) (s : Step rules t u) → Value u (values u s)) → HasReadings t
      → IsWholeCall S t ⊎ (IsWholeCall S t → ⊥) → Decided (HasListedHead rules listed t) → HasOne t
  by_cases t l all only values are reads (inl (s, p)) (inl lists) =
      let (k, read) = reads (sort s) p in (k, of_listed lists read)
  by_cases t l all only values are reads (inl (s, p)) (inr out) =
      let (k, read) = reads (sort s) p in
      let (n, best) = greatest_reduct k t l all only values are in
      (n, of_call values out read are best)
  by_cases t l all only values are reads (inr other) lists =
      let (n, best) = greatest_reduct 0 t l all only values are in
      (n, of_other values other are best)

  has_both : {S' : Symbols} → AreWellMade S' rules → (t : Tm) → IsShutTerm t → Ends (StepOrPart (Step rules)) t → HasOne t × HasReadings t
  has_both made t shut (ends k) =
      let (l, all, only) = steps_listed made t shut in
      let reads = readings_by_parts t (λ v p. has_both made v (shut_part t v shut p) (k v (inr p))) in (
        by_cases t l all only (λ u s. (has_both made u (shut-step made t u shut s) (k u (inl s))).0.0)
            (λ u s. (has_both made u (shut-step made t u shut s) (k u (inl s))).0.1) reads (whole_or_not S t)
            (head_listed rules listed t),
        reads,
      )

  -- a term that ends has a value
  pub ending_value : AreWellMade S rules → (t : Tm) → IsShutTerm t → Ends (Step rules) t → HasOne t
  ending_value made t shut e = (has_both made t shut (ends-parts t (steps_pass rules) e)).0
