-- What has no redex to the left of a place: the parts of a tree, and a tree after a step there.
use Rattle.std.proofs.Common.{◌≡◌, ℕ, zero, suc, ◌<◌, ◌⊎◌, inl, inr, List, [], ◌∷◌, length, Option, Some, refl, ap, sym, ◌∙◌, subst, arith}
use Rattle.wh_types.specs.Ty.{Ty}
use Rattle.wh_terms.specs.Tree.{Tm, lam, app}
use Rattle.wh_terms.specs.Sight.{IsTerm, LooseBelow}
use Rattle.wh_terms.specs.Places.{part_at}
use Rattle.wh_terms.specs.Typing.{Symbols}
use Rattle.wh_terms.specs.Rules.{RewriteRule, AreWellMade}
use Rattle.wh_step.specs.Replay.{StepAt}
use Rattle.wh_step.specs.Reducts.{IsBefore}
use Rattle.wh_step.specs.Roots.{put_at}
use Rattle.wh_step.proofs.RootLaws.{at_of_step}
use Rattle.wh_step.proofs.PlaceLemmas.{along, step_there}
use Rattle.wh_step_outermost.specs.Leftmost.{StepsFirstBy}
use Rattle.wh_step_outermost.specs.Redexes.{HasNone, IsLeftOf, NoneLeft}
use Rattle.wh_step_outermost.proofs.FirstRedexes.{below}

-- nothing is to the left of the root

not_left_of_root : (p : List ℕ) → IsLeftOf p [] → ⊥
not_left_of_root [] h = h
not_left_of_root (d ∷ p) h = h

-- what is to the left of a place comes before it
left_before : (p q : List ℕ) → IsLeftOf p q → IsBefore p q
left_before [] q h = absurd h
left_before (d ∷ p) [] h = absurd h
left_before (d ∷ p) (e ∷ q) (inl h) = inl h
left_before (d ∷ p) (e ∷ q) (inr h) = inr (h.0, left_before p q h.1)

module _ (rules : List RewriteRule) where
  pub none_left_root : (path : List ℕ) (t : Tm) → length path ≡ 0 → NoneLeft rules path t
  none_left_root [] t e a here left = not_left_of_root a.path left
  none_left_root (d ∷ path) t e a here left = omega arith

  -- of the parts

  module _ (path : List ℕ) (d : ℕ) (rest : List ℕ) (is : path ≡ d ∷ rest) where
    module _ (t u : Tm) (none : NoneLeft rules path (app t u)) where
      there : NoneLeft rules (d ∷ rest) (app t u)
      there = subst (λ p. NoneLeft rules p (app t u)) is none

      pub none_left_function : d ≡ 0 → NoneLeft rules rest t
      none_left_function e a here left = there (below 0 a) here (inr (sym e, left))

      pub none_in_function : 0 < d → HasNone rules t
      none_in_function more a here = there (below 0 a) here (inl more)

      pub none_left_argument : 0 < d → NoneLeft rules rest u
      none_left_argument more a here left = there (below 1 a) here (one_or_more d more)
        where
          one_or_more : (d : ℕ) → 0 < d → (1 < d) ⊎ ((1 ≡ d) × IsLeftOf a.path rest)
          one_or_more zero more = absurd (omega arith)
          one_or_more (suc zero) more = inr (refl, left)
          one_or_more (suc (suc d)) more = inl (omega arith)

    pub none_left_body : (s : Ty) (t : Tm) → NoneLeft rules path (lam s t) → NoneLeft rules rest t
    none_left_body s t none a here left = subst (λ p. NoneLeft rules p (lam s t)) is none (below 0 a) here (none_or_more d)
      where
        none_or_more : (d : ℕ) → (0 < d) ⊎ ((0 ≡ d) × IsLeftOf a.path rest)
        none_or_more zero = inr (refl, left)
        none_or_more (suc d) = inl (omega arith)

-- a part that is put at a place changes nothing to the left of it

abbrev SameLeft : Tm → List ℕ → Tm → Type 0
SameLeft v path t = (q : List ℕ) → IsLeftOf q path → part_at q (put_at path v t) ≡ part_at q t

left_front : (v : Tm) (path : List ℕ) (t u : Tm) → SameLeft v path t → SameLeft v (0 ∷ path) (app t u)
left_front v path t u same [] left = absurd left
left_front v path t u same (zero ∷ q) (inl h) = absurd (omega arith)
left_front v path t u same (zero ∷ q) (inr h) = same q h.1
left_front v path t u same (suc d ∷ q) (inl h) = absurd (omega arith)
left_front v path t u same (suc d ∷ q) (inr h) = absurd (omega (arith, h.0))

left_last : (v : Tm) (path : List ℕ) (t u : Tm) → SameLeft v path u → SameLeft v (1 ∷ path) (app t u)
left_last v path t u same [] left = absurd left
left_last v path t u same (zero ∷ q) left = refl
left_last v path t u same (suc zero ∷ q) (inl h) = absurd (omega arith)
left_last v path t u same (suc zero ∷ q) (inr h) = same q h.1
left_last v path t u same (suc (suc d) ∷ q) left = refl

left_body : (v : Tm) (path : List ℕ) (a : Ty) (t : Tm) → SameLeft v path t → SameLeft v (0 ∷ path) (lam a t)
left_body v path a t same [] left = absurd left
left_body v path a t same (zero ∷ q) (inl h) = absurd (omega arith)
left_body v path a t same (zero ∷ q) (inr h) = same q h.1
left_body v path a t same (suc d ∷ q) (inl h) = absurd (omega arith)
left_body v path a t same (suc d ∷ q) (inr h) = absurd (omega (arith, h.0))

same_left : (v r : Tm) (path : List ℕ) (t : Tm) → part_at path t ≡ Some r → SameLeft v path t
same_left v r =
    along r (SameLeft v)
    (λ t e q left. absurd (not_left_of_root q left))
    (λ path t u e h. left_front v path t u h)
    (λ path t u e h. left_last v path t u h)
    (λ path a t e h. left_body v path a t h)

module _ {rules : List RewriteRule} (S : Symbols) (w : AreWellMade S rules) (k : Option ℕ) (path : List ℕ) (t : Tm) where
  -- where the first step is, nothing is to the left
  pub none_left_of_first : LooseBelow 0 t → IsTerm t → StepsFirstBy rules t k path → NoneLeft rules path t
  none_left_of_first shut plain (u, f) a (r, here, (v, steps)) left =
      f.first a (put_at a.path v t) (step_there S w a.rule a.path t r v (put_at a.path v t) shut plain here steps refl) (inl (left_before a.path path left))

  -- a step brings nothing to the left of its place
  pub none_left_after : (u : Tm) → StepAt rules k path t u → NoneLeft rules path t → NoneLeft rules path u
  none_left_after u step none a (r, here, steps) left =
      let at = at_of_step S w step in
      let same : part_at a.path u ≡ part_at a.path t = ap (part_at a.path) at.whole ∙ same_left at.contractum at.redex path t at.here a.path left in
      none a (r, sym same ∙ here, steps) left
