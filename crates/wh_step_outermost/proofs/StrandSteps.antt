-- A step along a path, and the same step in the whole tree.
use Rattle.std.proofs.Common.{◌≡◌, ℕ, zero, suc, ◌+◌, ◌-◌, ◌<◌, ◌≤◌, List, [], ◌∷◌, take, Some, slice_get, refl, ap, sym, ◌∙◌, subst, arith}
use Rattle.wh_terms.specs.Tree.{Tm}
use Rattle.wh_terms.specs.Sight.{IsTerm, LooseBelow}
use Rattle.wh_terms.specs.Measures.{size, Fits}
use Rattle.wh_terms.specs.Places.{part_at}
use Rattle.wh_terms.specs.Typing.{Symbols}
use Rattle.wh_terms.specs.Rules.{RewriteRule, AreWellMade}
use Rattle.wh_terms.specs.declared.path.Step as taken
use Rattle.wh_step.specs.Replay.{StepAt, Replays}
use Rattle.wh_step.specs.Reducts.{FailsAt, TooBigAt}
use Rattle.wh_step.specs.Roots.{RootStep, put_at}
use Rattle.wh_step.specs.Stepping.{TakesTo, IsPast}
use Rattle.wh_step.proofs.RootLaws.{some_one, at_of_step}
use Rattle.wh_step.proofs.PlaceLemmas.{step_there}
use Rattle.wh_step_outermost.specs.Strands.{strand}
use Rattle.wh_step_outermost.proofs.StrandLaws.{part_put, strand_part, strand_shut, strand_term, whole_size, fits_whole, past_whole}

-- a replay of one step

one_step : (s r : taken.Step) (i : ℕ) → slice_get (s ∷ []) i ≡ Some r → (i ≡ 0) × (s ≡ r)
one_step s r zero e = (refl, cc)
one_step s r (suc i) e = absurd (cc)

taken_one : (rules : List RewriteRule) (s : taken.Step) (t u : Tm) → Replays rules (s ∷ []) t u → StepAt rules s.rule s.path t u × Fits u
taken_one rules s t u (v, step, fits, same) = (subst (StepAt rules s.rule s.path t) same step, subst Fits same fits)

pub result_small : (rules : List RewriteRule) (s : taken.Step) (t u : Tm) → Replays rules (s ∷ []) t u → size u ≤ 65536
result_small rules s t u replays = let fits = (taken_one rules s t u replays).1 in fits.small

big_one : (rules : List RewriteRule) (s : taken.Step) (t : Tm) (i : ℕ) → TooBigAt rules (s ∷ []) t i → IsPast rules s t
big_one rules s t i big =
    let (zero_is, same) = one_step s big.step i big.here in
    let here : t ≡ big.term = subst (λ (j : ℕ). Replays rules (take j (s ∷ [])) t big.term) zero_is big.before in
    let step : StepAt rules s.rule s.path t big.result =
    subst (λ (u : Tm). StepAt rules s.rule s.path u big.result) (sym here) (subst (λ (r : taken.Step). StepAt rules r.rule r.path big.term big.result) (sym same) big.applies) in
    (big.result, step, big.big)

failed_one : (rules : List RewriteRule) (s : taken.Step) (t : Tm) (i : ℕ) → FailsAt rules (s ∷ []) t i → (u : Tm) → StepAt rules s.rule s.path t u → ⊥
failed_one rules s t i fails u step =
    let (zero_is, same) = one_step s fails.step i fails.here in
    let here : t ≡ fails.term = subst (λ (j : ℕ). Replays rules (take j (s ∷ [])) t fails.term) zero_is fails.before in
    fails.none u (subst (λ (w : Tm). StepAt rules fails.step.rule fails.step.path w u) here (subst (λ (r : taken.Step). StepAt rules r.rule r.path t u) same step))

module _ {rules : List RewriteRule} (S : Symbols) (w : AreWellMade S rules) (s : taken.Step) (t : Tm) (shut : LooseBelow 0 t) (plain : IsTerm t) where
  -- what a step in the whole tree tells of the tree along the path

  pub redex_there : ((u : Tm) × StepAt rules s.rule s.path t u) → (r : Tm) × (part_at s.path t ≡ Some r)
  redex_there (u, step) = let at = at_of_step S w step in (at.redex, at.here)

  module _ (r : Tm) (here : part_at s.path t ≡ Some r) where
    along_shut : LooseBelow 0 (strand s.path t)
    along_shut = strand_shut r s.path t here 0 shut

    along_term : IsTerm (strand s.path t)
    along_term = strand_term r s.path t here plain

    -- a step along the path: its contractum, with the same step in the whole tree
    record BothWays (u : Tm) : Type 0 where
      part : Tm
      whole : StepAt rules s.rule s.path t (put_at s.path part t)
      along : u ≡ put_at s.path part (strand s.path t)

    both_ways : (u : Tm) → StepAt rules s.rule s.path (strand s.path t) u → BothWays u
    both_ways u step =
        let at = at_of_step S w step in
        let same : at.redex ≡ r = some_one at.redex r (sym at.here ∙ strand_part r s.path t here) in
        let root : RootStep rules s.rule r at.contractum = subst (λ q. RootStep rules s.rule q at.contractum) same at.steps in
        record { part = at.contractum; whole = step_there S w s.rule s.path t r at.contractum (put_at s.path at.contractum t) shut plain here root refl; along = at.whole }

    -- the part at the path of the result is the contractum
    part_is : (u v : Tm) (b : BothWays u) → part_at s.path u ≡ Some v → b.part ≡ v
    part_is u v b e = some_one b.part v (sym (part_put b.part r s.path (strand s.path t) (strand_part r s.path t here)) ∙ ap (part_at s.path) (sym b.along) ∙ e)

    pub result_part : (u : Tm) → Replays rules (s ∷ []) (strand s.path t) u → (v : Tm) × (part_at s.path u ≡ Some v)
    result_part u replays =
        let b = both_ways u (taken_one rules s (strand s.path t) u replays).0 in
        (b.part, ap (part_at s.path) b.along ∙ part_put b.part r s.path (strand s.path t) (strand_part r s.path t here))

    module _ (fits : Fits t) (u : Tm) (replays : Replays rules (s ∷ []) (strand s.path t) u) (n : ℕ) (sum : n ≡ size t - size (strand s.path t) + size u) where
      pub takes_whole : (v : Tm) → part_at s.path u ≡ Some v → n ≤ 65536 → TakesTo rules s t (put_at s.path v t) n
      takes_whole v e within =
          let (step, small) = taken_one rules s (strand s.path t) u replays in
          let b = both_ways u step in
          let part = part_is u v b e in
          let along : u ≡ put_at s.path v (strand s.path t) = b.along ∙ ap (λ x. put_at s.path x (strand s.path t)) part in
          let sized : n ≡ size (put_at s.path v t) = omega (arith, sum, ap size along, whole_size r s.path t v here) in
          record {
            step = subst (λ x. StepAt rules s.rule s.path t (put_at s.path x t)) part b.whole;
            fits = fits_whole r s.path t v here fits (subst Fits along small) (omega (arith, sized, within));
            sized = sized;
          }

      pub past_size : 65536 < n → IsPast rules s t
      past_size past =
          let b = both_ways u (taken_one rules s (strand s.path t) u replays).0 in
          let sized : n ≡ size (put_at s.path b.part t) = omega (arith, sum, ap size b.along, whole_size r s.path t b.part here) in
          (put_at s.path b.part t, b.whole, λ f. absurd (omega (arith, f.small, sized, past)))

    pub past_along : Fits t → (i : ℕ) → TooBigAt rules (s ∷ []) (strand s.path t) i → IsPast rules s t
    past_along fits i big =
        let (u, step, past) = big_one rules s (strand s.path t) i big in
        let b = both_ways u step in
        (put_at s.path b.part t, b.whole, past_whole r s.path t b.part here fits (λ f. past (subst Fits (sym b.along) f)))

    pub never_fails : (i : ℕ) → FailsAt rules (s ∷ []) (strand s.path t) i → ((u : Tm) × StepAt rules s.rule s.path t u) → ⊥
    never_fails i fails (u, step) =
        let at = at_of_step S w step in
        let same : at.redex ≡ r = some_one at.redex r (sym at.here ∙ here) in
        let root : RootStep rules s.rule r at.contractum = subst (λ q. RootStep rules s.rule q at.contractum) same at.steps in
        let v = put_at s.path at.contractum (strand s.path t) in
        failed_one rules s (strand s.path t) i fails v (step_there S w s.rule s.path (strand s.path t) r at.contractum v along_shut along_term (strand_part r s.path t here) root refl)
