-- Steps can be followed to their end, or there is a first that does not apply or whose result does not fit.
use Rattle.std.proofs.Common.{◌≡◌, ℕ, suc, ◌⊎◌, inl, inr, Bool, true, false, List, [], ◌∷◌, Option, Some, None, slice_get, refl, sym, ◌∙◌, subst}
use Rattle.wh_terms.specs.Tree.{Tm, lam, app}
use Rattle.wh_terms.specs.Substitution.{opened}
use Rattle.wh_terms.specs.Sight.{LooseBelow, IsTerm}
use Rattle.wh_terms.specs.Typing.{Symbols}
use Rattle.wh_terms.specs.Value.{Body, Value}
use Rattle.wh_terms.specs.Measures.{Fits}
use Rattle.wh_terms.specs.Places.{part_at}
use Rattle.wh_terms.specs.Rules.{RewriteRule, IsWellMade, AreWellMade}
use Rattle.wh_terms.specs.declared.path.Step as taken
use Rattle.wh_terms.proofs.ValueForm.{value, value_agree}
use Rattle.wh_terms.proofs.ValueLaws.{value_is, has_value}
use Rattle.wh_step_laws.proofs.Reading.{candidate_for, candidate_is, typed-fits}
use Rattle.wh_step.specs.Replay.{StepAt, Replays}
use Rattle.wh_step.specs.Reducts.{FailsAt, TooBigAt}
use Rattle.wh_step.specs.Roots.{BetaStep, RuleStep, RootStep, put_at}
use Rattle.wh_step.proofs.RootLaws.{rule_made}
use Rattle.wh_step.proofs.PlaceLemmas.{step_there, no_step_nowhere, no_step_there}
use Rattle.wh_step.proofs.ReplayLemmas.{step_shut, step_term}
use Rattle.wh_system.proofs.TypedDecided.{Decided}
use Rattle.wh_pairs.proofs.ByPlace.{some_one}
use Rattle.wh_pairs.proofs.Searches.{SomeOrNone}
use Rattle.wh_step_laws.proofs.SameTree.{same_tm, same_tm-equal, same_tm-self}
use Rattle.wh_no.proofs.Meant.{fits_decided}

pub tree_decided : (t u : Tm) → Decided (t ≡ u)
tree_decided t u = go (same_tm t u) refl
  where
    go : (b : Bool) → same_tm t u ≡ b → Decided (t ≡ u)
    go true e = inl (same_tm-equal t u e)
    go false e = inr (λ same. let yes : same_tm t u ≡ true = subst (λ v. same_tm t v ≡ true) same (same_tm-self t) in cc (yes, e))

-- at the root

beta_or_not : (t : Tm) → SomeOrNone (BetaStep t)
beta_or_not (app (lam a t) u) = inl (opened u t, refl)
beta_or_not t = inr (λ v step. step)

rule_or_not : (S : Symbols) (r : RewriteRule) → IsWellMade S r → (t : Tm) → SomeOrNone (RuleStep r t)
rule_or_not S r w t = go (tree_decided (value g r.left) t)
  where
    g : ℕ → Body
    g = candidate_for r.metas r.left t

    go : Decided (value g r.left ≡ t) → SomeOrNone (RuleStep r t)
    go (inl same) =
        let left = subst (Value g r.left) same (has_value g r.left (typed-fits w.typed.1)) in
        inl (value g r.right, (g, left, has_value g r.right (typed-fits w.typed.2)))
    go (inr other) = inr (λ v (h, left, right).
        let (fits, is) = value_is left in
        other (value_agree g h r.left (candidate_is r.metas h r.left t w.pattern_left (typed-fits w.typed.1) fits is) ∙ sym is))

root_or_not : (S : Symbols) (rules : List RewriteRule) → AreWellMade S rules → (k : Option ℕ) (t : Tm) → SomeOrNone (RootStep rules k t)
root_or_not S rules w None t = beta_or_not t
root_or_not S rules w (Some k) t = go (slice_get rules k) refl
  where
    by_one : (r : RewriteRule) → slice_get rules k ≡ Some r → SomeOrNone (RuleStep r t) → SomeOrNone (RootStep rules (Some k) t)
    by_one r at (inl (v, step)) = inl (v, (r, at, step))
    by_one r at (inr none) = inr (λ v (s, also, step). none v (subst (λ q. RuleStep q t v) (some_one also at) step))

    go : (o : Option RewriteRule) → slice_get rules k ≡ o → SomeOrNone (RootStep rules (Some k) t)
    go None e = inr (λ v (r, at, step). cc (e, at))
    go (Some r) e = by_one r e (rule_or_not S r (rule_made S w k r e) t)

-- at a place
step_or_not : (S : Symbols) (rules : List RewriteRule) → AreWellMade S rules → (k : Option ℕ) (path : List ℕ) (t : Tm) → LooseBelow 0 t → IsTerm t
    → SomeOrNone (StepAt rules k path t)
step_or_not S rules w k path t shut plain = go (part_at path t) refl
  where
    at_part : (r : Tm) → part_at path t ≡ Some r → SomeOrNone (RootStep rules k r) → SomeOrNone (StepAt rules k path t)
    at_part r here (inl (v, step)) = inl (put_at path v t, step_there S w k path t r v (put_at path v t) shut plain here step refl)
    at_part r here (inr none) = inr (no_step_there S w k path t r here none)

    go : (o : Option Tm) → part_at path t ≡ o → SomeOrNone (StepAt rules k path t)
    go None e = inr (no_step_nowhere S w k path t e)
    go (Some r) e = at_part r e (root_or_not S rules w k r)

-- one after another

-- a step of the list stops the others
abbrev pub Stops : List RewriteRule → List taken.Step → Tm → Type 0
Stops rules steps t = ((i : ℕ) × FailsAt rules steps t i) ⊎ ((i : ℕ) × TooBigAt rules steps t i)

abbrev pub EndsOrStops : List RewriteRule → List taken.Step → Tm → Type 0
EndsOrStops rules steps t = ((u : Tm) × Replays rules steps t u) ⊎ Stops rules steps t

-- the steps behind the first, which leads to v
ends_behind : (rules : List RewriteRule) (s : taken.Step) (steps : List taken.Step) (t v : Tm) → StepAt rules s.rule s.path t v → Fits v
    → EndsOrStops rules steps v → EndsOrStops rules (s ∷ steps) t
ends_behind rules s steps t v step fits (inl (u, rest)) = inl (u, (v, step, fits, rest))
ends_behind rules s steps t v step fits (inr (inl (i, f))) =
    inr (inl (suc i, record { step = f.step; here = f.here; term = f.term; before = (v, step, fits, f.before); none = f.none }))
ends_behind rules s steps t v step fits (inr (inr (i, b))) =
    inr (inr (
      suc i,
      record {
        step = b.step;
        here = b.here;
        term = b.term;
        before = (v, step, fits, b.before);
        result = b.result;
        applies = b.applies;
        big = b.big;
      },
    ))

pub ends_or_stops : (S : Symbols) (rules : List RewriteRule) → AreWellMade S rules → (steps : List taken.Step) (t : Tm) → LooseBelow 0 t → IsTerm t
    → EndsOrStops rules steps t
ends_or_stops S rules w [] t shut plain = inl (t, refl)
ends_or_stops S rules w (s ∷ steps) t shut plain = elim (step_or_not S rules w s.rule s.path t shut plain) [
  | inr none ↦ inr (inl (0, record { step = s; here = refl; term = t; before = refl; none = none }))
  | inl (v, step) ↦ elim (fits_decided v) [
    | inr big ↦ inr (inr (0, record { step = s; here = refl; term = t; before = refl; result = v; applies = step; big = big }))
    | inl fits ↦ ends_behind rules s steps t v step fits (ends_or_stops S rules w steps v (step_shut S w s step shut) (step_term S w s step plain))
  ]
]
