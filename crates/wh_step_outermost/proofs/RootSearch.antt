-- What a search for a step at the root of a tree tells.
use Rattle.std.proofs.Common.{◌≡◌, ℕ, zero, suc, ◌+◌, ◌<◌, ◌≤◌, ◌⊎◌, inl, inr, List, length, Bool, true, false, Option, Some, None, slice_get, refl, ap, sym, ◌∙◌, subst, arith}
use Rattle.std.specs.Prelude.{IsTrue, ◌↔◌, MatchOption, is_some}
use Rattle.std.proofs.lemmas.Option.{slice_get_within}
use Rattle.wh_types.specs.Ty.{Ty}
use Rattle.wh_terms.specs.Tree.{Tm, lam, app}
use Rattle.wh_terms.specs.Substitution.{opened}
use Rattle.wh_terms.specs.Rules.{RewriteRule}
use Rattle.wh_terms.specs.declared.subst.MetaBody.{MetaBody}
use Rattle.wh_match.specs.Matching.{IsMatch, HasNoMatch}
use Rattle.wh_step.specs.Reducts.{IsEarlier}
use Rattle.wh_step.specs.Roots.{BetaStep, RuleStep}
use Rattle.wh_step.proofs.RootLaws.{same_rule}
use Rattle.wh_step_outermost.specs.Redexes.{StepsBy, IsFirstBy}

-- an answer that it is so, and one that it is not

pub it_is : (P : Type 0) → P → IsTrue true ↔ P
it_is P p = (λ yes. p, λ q. refl)

pub it_is_not : (P : Type 0) → (P → ⊥) → IsTrue false ↔ P
it_is_not P none = (λ wrong. absurd (cc), λ p. absurd (none p))

-- beta

pub beta_there : (w t u : Tm) (a : Ty) → w ≡ app (lam a t) u → (v : Tm) × BetaStep w v
beta_there w t u a is = subst (λ (s : Tm). (v : Tm) × BetaStep s v) (sym is) (opened u t, refl)

-- the rules, one after another

below_or_at : (k i : ℕ) → k < i + 1 → (k < i) ⊎ (k ≡ i)
below_or_at zero zero h = inr refl
below_or_at zero (suc i) h = inl (omega arith)
below_or_at (suc k) zero h = absurd (omega arith)
below_or_at (suc k) (suc i) h = one_more (below_or_at k i (omega arith))
  where
    one_more : (k < i) ⊎ (k ≡ i) → (suc k < suc i) ⊎ (suc k ≡ suc i)
    one_more (inl low) = inl (omega arith)
    one_more (inr is) = inr (ap suc is)

-- t steps neither by beta nor by one of the first i rules
abbrev pub NoneBefore : List RewriteRule → Tm → ℕ → Type 0
NoneBefore rules t i = (j : Option ℕ) → StepsBy rules t j → IsEarlier j (Some i) → ⊥

abbrev pub StepsByRule : RewriteRule → Tm → Type 0
StepsByRule r t = (v : Tm) × RuleStep r t v

-- what a match tells of the step by a rule
pub told_rule : (r : RewriteRule) (t : Tm) (o : Option (List MetaBody)) (b : Bool) → b ≡ is_some o → ((bs : List MetaBody) → IsMatch r.left t bs → StepsByRule r t) → MatchOption o (HasNoMatch r.left t) (IsMatch r.left t)
    → IsTrue b ↔ StepsByRule r t
told_rule r t None b is meets none = subst (λ (c : Bool). IsTrue c ↔ StepsByRule r t) (sym is) (it_is_not (StepsByRule r t) (λ step. none step.1.0 step.1.1))
told_rule r t (Some bs) b is meets found = subst (λ (c : Bool). IsTrue c ↔ StepsByRule r t) (sym is) (it_is (StepsByRule r t) (meets bs found))

module _ (rules : List RewriteRule) (t : Tm) where
  pub none_yet : (((v : Tm) × BetaStep t v) → ⊥) → NoneBefore rules t 0
  none_yet none None step early = none step
  none_yet none (Some k) step early = omega arith

  pub none_by_next : (i : ℕ) (r : RewriteRule) → slice_get rules i ≡ Some r → NoneBefore rules t i → (StepsByRule r t → ⊥) → NoneBefore rules t (i + 1)
  none_by_next i r here none other None step early = none None step tt
  none_by_next i r here none other (Some k) (v, (q, e, s)) early = at_or_below (below_or_at k i early)
    where
      at_or_below : (k < i) ⊎ (k ≡ i) → ⊥
      at_or_below (inl low) = none (Some k) (v, (q, e, s)) low
      at_or_below (inr is) = other (v, subst (λ (p : RewriteRule). RuleStep p t v) (same_rule rules i r q here (ap (slice_get rules) (sym is) ∙ e)) s)

  pub none_at_all : (i : ℕ) → length rules ≤ i → NoneBefore rules t i → (j : Option ℕ) → StepsBy rules t j → ⊥
  none_at_all i all none None step = none None step tt
  none_at_all i all none (Some k) (v, (r, e, s)) = let within : k < length rules = slice_get_within rules k r e in none (Some k) (v, (r, e, s)) (omega arith)

  pub first_by_beta : ((v : Tm) × BetaStep t v) → IsFirstBy rules t None
  first_by_beta step = record { steps = step; first = λ j other early. before_none j early }
    where
      before_none : (j : Option ℕ) → IsEarlier j None → ⊥
      before_none None early = early
      before_none (Some k) early = early

  pub first_by_rule : (i : ℕ) (r : RewriteRule) → slice_get rules i ≡ Some r → NoneBefore rules t i → StepsByRule r t → (k : ℕ) → k ≡ i → IsFirstBy rules t (Some k)
  first_by_rule i r here none (v, s) k is = subst (λ (n : ℕ). IsFirstBy rules t (Some n)) (sym is) (record { steps = (v, (r, here, s)); first = none })
