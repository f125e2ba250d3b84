-- Steps keep bounds, where the rules of the list are closed and covered.
use Rattle.std.proofs.Common.{◌≡◌, ℕ, ◌≤◌, ◌⊎◌, inl, inr, List, Contains, Some, slice_get, refl, ap, ◌∙◌, sym, subst, le_trans}
use Rattle.wh_types.specs.Ty.{Ty, sort, ◌⇒◌}
use Rattle.wh_terms.specs.Tree.{Tm, fun, app, head}
use Rattle.wh_terms.specs.Sight.{Occurs}
use Rattle.wh_terms.specs.Typing.{Symbols}
use Rattle.wh_terms.specs.Value.{Body, Value}
use Rattle.wh_terms.specs.Rules.{RewriteRule, IsWellMade, AreWellMade}
use Rattle.wh_terms.proofs.ValueForm.{value}
use Rattle.wh_terms.proofs.ValueLaws.{value_is}
use Rattle.wh_terms.proofs.ValueTyping.{head-value}
use Rattle.wh_step.specs.Step.{Step, beta, by_rule, in_function, in_argument, in_body}
use Rattle.wh_step.proofs.Instances.{spine_left}
use Rattle.wh_pairs.proofs.ByPlace.{place_of}
use Rattle.wh_hopoly.specs.Evaluation.{Interpretation, NormalInterpretations}
use Rattle.wh_polycheck.specs.Sides.{Interprets, RuleIsCovered}
use Rattle.wh_usable.specs.Closed.{IsClosedRule}
use Rattle.wh_poly_meaning.specs.Functionals.{Sem}
use Rattle.wh_poly_meaning.specs.Calls.{all_nothing}
use Rattle.wh_poly_meaning.proofs.Order.{le_nat}
use Rattle.wh_poly_meaning.proofs.Steps.{covered_le}
use Rattle.wh_usable_calls.specs.Bounds.{HasListedHead, Bounds, by_reading, by_reading_and_steps, by_steps, Reads, reads_application}
use Rattle.wh_usable_calls.proofs.FlatCalls.{head_headed}
use Rattle.wh_usable_calls.proofs.BoundLaws.{bounds_more}
use Rattle.wh_usable_calls.proofs.Numbers.{numbered_mono, by_numbers_of}
use Rattle.wh_usable_calls.proofs.SideBounds.{side_numbers, side_lowers, reading_type, side_bound}

-- a rule with a number of the list
abbrev pub IsListedRule : List RewriteRule → List ℕ → RewriteRule → Type 0
IsListedRule rules listed r = (n : ℕ) × Contains listed n × (slice_get rules n ≡ Some r)

module _ (S : Symbols) (rules : List RewriteRule) (listed : List ℕ) (symbols : List Interpretation) (made : AreWellMade S rules)
    (interprets : Interprets S symbols) (normal : NormalInterpretations symbols)
    (closed : (r : RewriteRule) → IsListedRule rules listed r → IsClosedRule S rules listed r)
    (covered : (r : RewriteRule) → IsListedRule rules listed r → RuleIsCovered symbols r) where
  abbrev IsBound : Tm → ℕ → Type 0
  IsBound = Bounds S rules listed symbols

  abbrev IsRead : Tm → (A : Ty) → Sem A → Type 0
  IsRead = Reads S rules listed symbols

  -- a bound of the left side of a listed rule is one of the right side
  rule_bound : (r : RewriteRule) (g : ℕ → Body) (n : ℕ) → IsWellMade S r → IsClosedRule S rules listed r → RuleIsCovered symbols r
      → IsBound (value g r.left) n → IsBound (value g r.right) n
  rule_bound r g n w c (ms, cover) b =
      let (s, left, right) = c.of_a_sort in
      let (ν, bodies) = side_numbers S rules listed symbols r.metas g r.left s n c.left left b in
      let (μ, below, fits, under) = side_lowers S rules listed symbols r.metas g r.left (λ z. Occurs z r.left) ν s n bodies c.left left b in
      let le = covered_le S symbols interprets normal (by_numbers_of symbols μ) (λ f A. refl) r.metas r.left r.right (sort s) left
      w.left_closed right w.right_closed ms cover (numbered_mono μ) all_nothing in
      bounds_more S rules listed symbols n (le_trans le under)
      (side_bound S rules listed symbols r.metas g μ r.right s c.right right c.calls (λ z o. fits z (w.known z o)))

  -- the number bounds the term, where a call of a sort is read as this number
  abbrev IsBoundAt : Tm → (A : Ty) → Sem A → Type 0
  IsBoundAt u (sort s) n = IsBound u n
  IsBoundAt u (a ⇒ b) F = ⊥

  -- what becomes of a call that steps: one that is read the same, or a term with what it was read as for a bound
  abbrev Outcome : Tm → (A : Ty) → Sem A → Type 0
  Outcome u A F = (IsRead u A F × HasListedHead rules listed u) ⊎ IsBoundAt u A F

  -- a step by a rule at the root: all arguments of the call are those of the rule's left side
  root_bound : (r : RewriteRule) (g : ℕ → Body) (t u : Tm) (A : Ty) (F : Sem A) → Contains rules r → Value g r.left t → Value g r.right u
      → HasListedHead rules listed t → IsRead t A F → IsBoundAt u A F
  root_bound r g t u A F inside v w all read = by_type A F same_type there
    where
      m : IsWellMade S r
      m = made.each r inside

      is_left : t ≡ value g r.left
      is_left = (value_is v).1

      heads : head t ≡ fun m.headed.0
      heads = ap head is_left ∙ head-value 0 g r.left (spine_left S r m) m.headed.0 m.headed.1

      listed_rule : IsListedRule rules listed r
      listed_rule = let (n, at) = place_of rules r inside in (n, all m.headed.0 heads n r at m.headed.1, at)

      c : IsClosedRule S rules listed r
      c = closed r listed_rule

      there : IsRead (value g r.left) A F
      there = subst (λ t. IsRead t A F) is_left read

      same_type : sort c.of_a_sort.0 ≡ A
      same_type = reading_type S rules listed symbols r.metas g r.left (sort c.of_a_sort.0) A F
          (head_headed r.left m.headed.0 m.headed.1) c.left c.of_a_sort.1 there

      by_type : (A : Ty) (F : Sem A) → sort c.of_a_sort.0 ≡ A → IsRead (value g r.left) A F → IsBoundAt u A F
      by_type (sort s) n same there =
          subst (λ u. IsBound u n) (sym (value_is w).1)
          (rule_bound r g n m c (covered r listed_rule)
          (by_reading (subst (HasListedHead rules listed) is_left all) there (le_nat n)))
      by_type (a ⇒ b) F same there = absurd (cc)

  kept_bound : (u : Tm) (s k n : ℕ) → k ≤ n → Outcome u (sort s) k → IsBound u n
  kept_bound u s k n under (inl (read, all)) = by_reading all read under
  kept_bound u s k n under (inr b) = bounds_more S rules listed symbols n under b

  in_front : (t u : Tm) (s n : ℕ) (A : Ty) (F : Sem (sort s ⇒ A)) → IsBound u n → Outcome t (sort s ⇒ A) F → Outcome (app t u) A (F n)
  in_front t u s n A F b (inl (read, all)) = inl (reads_application read b, all)
  in_front t u s n A F b (inr never) = absurd never

  mutual
    -- what a step leads to has the same bound
    pub step_bound : {t u : Tm} {n : ℕ} → IsBound t n → Step rules t u → IsBound u n
    step_bound {u = u} (by_reading {s = s} {k = k} {n = n} all read under) step = kept_bound u s k n under (step_reading all read step)
    step_bound {u = u} (by_reading_and_steps read under reducts) step = reducts u step
    step_bound {u = u} (by_steps other reducts) step = reducts u step

    step_reading : {t u : Tm} {A : Ty} {F : Sem A} → HasListedHead rules listed t → IsRead t A F → Step rules t u → Outcome u A F
    step_reading {t = t} {u = u} {A = A} {F = F} all read (by_rule r g inside whole v w) = inr (root_bound r g t u A F inside v w all read)
    step_reading all (reads_application {s = s} {n = n} {B = B} {F = F} read b) (in_function {t' = t} {u = u} step) =
        in_front t u s n B F b (step_reading all read step)
    step_reading all (reads_application read b) (in_argument step) = inl (reads_application read (step_bound b step), all)
    step_reading all (reads_application read b) (beta e) = elim read [ ]
    step_reading all read (in_body {a = a} {t = t} x fresh fresh' step) = elim read [ ]
