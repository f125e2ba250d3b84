-- Laws of bounds: they are upward closed, and terms that end have some.
use Rattle.std.proofs.Common.{ℕ, ◌+◌, ◌≤◌, ◌⊎◌, inl, inr, List, [], ◌∷◌, refl, sym, subst, arith, le_trans}
use Rattle.wh_types.specs.Ty.{Ty, sort, ◌⇒◌}
use Rattle.wh_terms.specs.Tree.{Tm, bound, free, fun, meta, lam, app}
use Rattle.wh_terms.specs.Typing.{Symbols}
use Rattle.wh_terms.specs.Rules.{RewriteRule, AreWellMade}
use Rattle.wh_step.specs.Step.{Step, in_function, in_argument}
use Rattle.wh_step_laws.specs.Ends.{Ends, ends}
use Rattle.wh_step_laws.specs.DirectSubterms.{HasPart, function_part, argument_part, StepOrPart}
use Rattle.wh_step_laws.proofs.Listed.{In}
use Rattle.wh_step_laws.proofs.PartLaws.{PassesToParts, ends-parts}
use Rattle.wh_step_laws.proofs.SystemSteps.{IsShutTerm, shut-step, steps_listed}
use Rattle.wh_hopoly.specs.Evaluation.{Interpretation, interpretation_at}
use Rattle.wh_poly_meaning.specs.Functionals.{Sem, Mono, nothing}
use Rattle.wh_poly_meaning.specs.TermValues.{of_interpretations}
use Rattle.wh_poly_meaning.proofs.Order.{mono_nothing, reading_mono}
use Rattle.wh_usable_calls.specs.Bounds.{IsFlatCall, IsWholeCall, Bounds, by_reading, by_reading_and_steps, by_steps, Reads, reads_symbol, reads_application}
use Rattle.wh_usable_calls.proofs.FlatCalls.{whole_or_not}

pub steps_pass : (rules : List RewriteRule) → PassesToParts (Step rules)
steps_pass rules = record {
  function = λ t t' u s. in_function s;
  argument = λ t u u' s. in_argument s;
}

shut_part : (t u : Tm) → IsShutTerm t → HasPart t u → IsShutTerm u
shut_part t u shut function_part = (shut.0.0, shut.1.0)
shut_part t u shut argument_part = (shut.0.1, shut.1.1)

module _ (S : Symbols) (rules : List RewriteRule) (listed : List ℕ) (symbols : List Interpretation) where
  abbrev IsBound : Tm → ℕ → Type 0
  IsBound = Bounds S rules listed symbols

  abbrev IsRead : Tm → (A : Ty) → Sem A → Type 0
  IsRead = Reads S rules listed symbols

  -- a greater number bounds what a smaller one does
  pub bounds_more : {t : Tm} {n : ℕ} (m : ℕ) → n ≤ m → IsBound t n → IsBound t m
  bounds_more m le (by_reading whole r under) = by_reading whole r (le_trans under le)
  bounds_more m le (by_reading_and_steps r under reducts) =
      by_reading_and_steps r (le_trans under le) (λ u s. bounds_more m le (reducts u s))
  bounds_more m le (by_steps other reducts) = by_steps other (λ u s. bounds_more m le (reducts u s))

  -- what a call is read as is monotone
  pub reads_mono : {t : Tm} {A : Ty} {F : Sem A} → IsRead t A F → Mono A F
  reads_mono (reads_symbol {f = f} {A = A} e) =
      reading_mono A [] (λ x C. nothing C) (interpretation_at symbols f).polynomial (λ x C. mono_nothing C)
  reads_mono (reads_application {n = n} r b) = (reads_mono r).0 n tt

  -- a whole call that has a bound is read as something that is at most this bound
  pub bound_reading : {t : Tm} {n : ℕ} → IsWholeCall S t → IsBound t n → (s : ℕ) × (k : ℕ) × IsRead t (sort s) k × (k ≤ n)
  bound_reading whole (by_reading {s = s} {k = k} all r under) = (s, k, r, under)
  bound_reading whole (by_reading_and_steps {s = s} {k = k} r under reducts) = (s, k, r, under)
  bound_reading whole (by_steps other reducts) = absurd (other whole)

  -- one bound for all terms of a list
  common : (l : List Tm) → ((u : Tm) → In u l → (n : ℕ) × IsBound u n) → (n : ℕ) × ((u : Tm) → In u l → IsBound u n)
  common [] h = (0, λ u i. absurd i)
  common (v ∷ l) h =
      let (m, b) = h v (inl refl) in
      let (k, rest) = common l (λ u i. h u (inr i)) in
      (m + k, λ u i. on m b k rest u i)
    where
      on : (m : ℕ) → IsBound v m → (k : ℕ) → ((u : Tm) → In u l → IsBound u k) → (u : Tm) → In u (v ∷ l) → IsBound u (m + k)
      on m b k rest u (inl e) = subst (λ u. IsBound u (m + k)) (sym e) (bounds_more (m + k) (omega arith) b)
      on m b k rest u (inr i) = bounds_more (m + k) (omega arith) (rest u i)

  -- what a term is read as where it is a call
  abbrev HasReadings : Tm → Type 0
  HasReadings t = (A : Ty) → IsFlatCall S t A → (F : Sem A) × IsRead t A F

  abbrev HasBound : Tm → Type 0
  HasBound t = (n : ℕ) × IsBound t n

  readings_by_parts : (t : Tm) → ((v : Tm) → HasPart t v → HasBound v × HasReadings v) → HasReadings t
  readings_by_parts (bound i) parts A p = absurd p
  readings_by_parts (free x a) parts A p = absurd p
  readings_by_parts (fun f) parts A p = (of_interpretations symbols f A, reads_symbol p)
  readings_by_parts (meta z ts) parts A p = absurd p
  readings_by_parts (lam a t) parts A p = absurd p
  readings_by_parts (app t u) parts A (s, p) =
      let (F, r) = (parts t function_part).1 (sort s ⇒ A) p in
      let (n, b) = (parts u argument_part).0 in
      (F n, reads_application r b)

  bound_by_readings : (t : Tm) (n : ℕ) → ((u : Tm) → Step rules t u → IsBound u n) → HasReadings t
      → IsWholeCall S t ⊎ (IsWholeCall S t → ⊥) → HasBound t
  bound_by_readings t n reducts reads (inl (s, p)) =
      let (k, r) = reads (sort s) p in
      (k + n, by_reading_and_steps r (omega arith) (λ u step. bounds_more (k + n) (omega arith) (reducts u step)))
  bound_by_readings t n reducts reads (inr other) = (n, by_steps other reducts)

  -- an induction on steps and direct subterms
  has_both : AreWellMade S rules → (t : Tm) → IsShutTerm t → Ends (StepOrPart (Step rules)) t → HasBound t × HasReadings t
  has_both made t shut (ends k) =
      let (l, all, only) = steps_listed made t shut in
      let (n, each) = common l (λ u i. (has_both made u (shut-step made t u shut (only u i)) (k u (inl (only u i)))).0) in
      let reads = readings_by_parts t (λ v p. has_both made v (shut_part t v shut p) (k v (inr p))) in
      (bound_by_readings t n (λ u s. each u (all u s)) reads (whole_or_not S t), reads)

  -- a term that ends has a bound
  pub ending_bound : AreWellMade S rules → (t : Tm) → IsShutTerm t → Ends (Step rules) t → HasBound t
  ending_bound made t shut e = (has_both made t shut (ends-parts t (steps_pass rules) e)).0
