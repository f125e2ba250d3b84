-- The first redex of a tree, from those of its parts.
use Rattle.std.proofs.Common.{◌≡◌, ℕ, zero, suc, ◌<◌, inl, inr, List, [], ◌∷◌, Option, Some, None, refl, ap, sym, ◌∙◌, subst, arith}
use Rattle.std.proofs.lemmas.List.Elements.{All-nil, All-cons}
use Rattle.std.specs.Prelude.{option_and_then, MatchOption, reverse}
use Rattle.wh_types.specs.Ty.{Ty}
use Rattle.wh_terms.specs.Tree.{Tm, lam, app}
use Rattle.wh_terms.specs.Sight.{IsTerm, LooseBelow}
use Rattle.wh_terms.specs.declared.path.Step as taken
use Rattle.wh_terms.specs.Places.{child, part_at, IsPath}
use Rattle.wh_terms.specs.Typing.{Symbols}
use Rattle.wh_terms.specs.Rules.{RewriteRule, AreWellMade}
use Rattle.wh_step.specs.Replay.{StepAt}
use Rattle.wh_step.specs.Reducts.{Redex, Precedes}
use Rattle.wh_step.specs.Roots.{put_at}
use Rattle.wh_step.proofs.RootLaws.{some_one, at_of_step}
use Rattle.wh_step.proofs.Places.{step-step_at}
use Rattle.wh_step.proofs.PlaceLemmas.{along, step_there}
use Rattle.wh_step_outermost.specs.Leftmost.{IsNormal, StepsFirstBy}
use Rattle.wh_step_outermost.specs.Redexes.{StepsBy, HasRedex, HasNone, IsFirst, IsFirstBy, redex_of}
use Rattle.wh_step_outermost.specs.declared.searching.Found.{Found}

no_part : (r : Tm) → None ≡ Some r → ⊥
no_part r e = absurd (cc)

abbrev pub below : ℕ → Redex → Redex
below d a = record { rule = a.rule; path = d ∷ a.path }

abbrev pub at_root : Option ℕ → Redex
at_root k = record { rule = k; path = [] }

tail_is : (d : ℕ) (p q : List ℕ) → d ∷ p ≡ d ∷ q → p ≡ q
tail_is d p q e = cc

same_head : (d e : ℕ) (p q : List ℕ) → d ∷ p ≡ e ∷ q → d ≡ e
same_head d e p q h = cc

-- the order of redexes below one place
precedes_above : (d : ℕ) (k : Option ℕ) (q : List ℕ) (a : Redex) → Precedes (record { rule = k; path = d ∷ q }) (below d a) → Precedes (record { rule = k; path = q }) a
precedes_above d k q a (inl (inl h)) = absurd (omega arith)
precedes_above d k q a (inl (inr h)) = inl h.1
precedes_above d k q a (inr h) = inr (tail_is d q a.path h.0, h.1)

later_part : (d e : ℕ) (k : Option ℕ) (q : List ℕ) (a : Redex) → e < d → Precedes (record { rule = k; path = d ∷ q }) (below e a) → ⊥
later_part d e k q a less (inl (inl h)) = omega arith
later_part d e k q a less (inl (inr h)) = omega (arith, h.0)
later_part d e k q a less (inr h) = omega (arith, same_head d e q a.path h.0)

module _ (rules : List RewriteRule) where
  abbrev pub NoneAtRoot : Tm → Type 0
  NoneAtRoot t = (k : Option ℕ) → StepsBy rules t k → ⊥

  root_steps : (t : Tm) (k : Option ℕ) → HasRedex rules t (at_root k) → StepsBy rules t k
  root_steps t k (r, here, steps) = subst (λ (s : Tm). StepsBy rules s k) (sym (some_one t r here)) steps

  -- at the root

  at_root_first : (t : Tm) (k : Option ℕ) → IsFirstBy rules t k → (j : Option ℕ) (path : List ℕ) → HasRedex rules t (record { rule = j; path = path }) → Precedes (record { rule = j; path = path }) (at_root k) → ⊥
  at_root_first t k f j [] here (inl h) = h
  at_root_first t k f j [] here (inr h) = f.first j (root_steps t j here) h.1
  at_root_first t k f j (d ∷ path) here (inl h) = h
  at_root_first t k f j (d ∷ path) here (inr h) = let wrong : d ∷ path ≡ [] = h.0 in absurd (cc)

  pub first_root : (t : Tm) (k : Option ℕ) → IsFirstBy rules t k → IsFirst rules t (at_root k)
  first_root t k f = record {
    here = (t, refl, f.steps);
    first = λ b here h. at_root_first t k f b.rule b.path here h;
  }

  -- in an application

  module _ (t u : Tm) (none : NoneAtRoot (app t u)) where
    function_first : (a : Redex) → IsFirst rules t a → (k : Option ℕ) (path : List ℕ) → HasRedex rules (app t u) (record { rule = k; path = path }) → Precedes (record { rule = k; path = path }) (below 0 a) → ⊥
    function_first a f k [] here h = none k (root_steps (app t u) k here)
    function_first a f k (zero ∷ path) here h = f.first (record { rule = k; path = path }) here (precedes_above 0 k path a h)
    function_first a f k (suc d ∷ path) here h = later_part (suc d) 0 k path a (omega arith) h

    pub first_function : (a : Redex) → IsFirst rules t a → IsFirst rules (app t u) (below 0 a)
    first_function a f = record { here = f.here; first = λ b here h. function_first a f b.rule b.path here h }

    argument_first : HasNone rules t → (a : Redex) → IsFirst rules u a → (k : Option ℕ) (path : List ℕ) → HasRedex rules (app t u) (record { rule = k; path = path }) → Precedes (record { rule = k; path = path }) (below 1 a) → ⊥
    argument_first empty a f k [] here h = none k (root_steps (app t u) k here)
    argument_first empty a f k (zero ∷ path) here h = empty (record { rule = k; path = path }) here
    argument_first empty a f k (suc zero ∷ path) here h = f.first (record { rule = k; path = path }) here (precedes_above 1 k path a h)
    argument_first empty a f k (suc (suc d) ∷ path) (r, here, steps) h = no_part r here

    pub first_argument : HasNone rules t → (a : Redex) → IsFirst rules u a → IsFirst rules (app t u) (below 1 a)
    first_argument empty a f = record { here = f.here; first = λ b here h. argument_first empty a f b.rule b.path here h }

    nowhere : HasNone rules t → HasNone rules u → (k : Option ℕ) (path : List ℕ) → HasRedex rules (app t u) (record { rule = k; path = path }) → ⊥
    nowhere left right k [] here = none k (root_steps (app t u) k here)
    nowhere left right k (zero ∷ path) here = left (record { rule = k; path = path }) here
    nowhere left right k (suc zero ∷ path) here = right (record { rule = k; path = path }) here
    nowhere left right k (suc (suc d) ∷ path) (r, here, steps) = no_part r here

    pub none_app : HasNone rules t → HasNone rules u → HasNone rules (app t u)
    none_app left right a here = nowhere left right a.rule a.path here

  -- in an abstraction

  module _ (s : Ty) (t : Tm) (none : NoneAtRoot (lam s t)) where
    body_first : (a : Redex) → IsFirst rules t a → (k : Option ℕ) (path : List ℕ) → HasRedex rules (lam s t) (record { rule = k; path = path }) → Precedes (record { rule = k; path = path }) (below 0 a) → ⊥
    body_first a f k [] here h = none k (root_steps (lam s t) k here)
    body_first a f k (zero ∷ path) here h = f.first (record { rule = k; path = path }) here (precedes_above 0 k path a h)
    body_first a f k (suc d ∷ path) here h = later_part (suc d) 0 k path a (omega arith) h

    pub first_body : (a : Redex) → IsFirst rules t a → IsFirst rules (lam s t) (below 0 a)
    first_body a f = record { here = f.here; first = λ b here h. body_first a f b.rule b.path here h }

    nowhere_in : HasNone rules t → (k : Option ℕ) (path : List ℕ) → HasRedex rules (lam s t) (record { rule = k; path = path }) → ⊥
    nowhere_in empty k [] here = none k (root_steps (lam s t) k here)
    nowhere_in empty k (zero ∷ path) here = empty (record { rule = k; path = path }) here
    nowhere_in empty k (suc zero ∷ path) (r, here, steps) = no_part r here
    nowhere_in empty k (suc (suc d) ∷ path) (r, here, steps) = no_part r here

    pub none_lam : HasNone rules t → HasNone rules (lam s t)
    none_lam empty a here = nowhere_in empty a.rule a.path here

  -- in what has no parts

  part_of_leaf : (t : Tm) → ((d : ℕ) → child d t ≡ None) → (d : ℕ) (path : List ℕ) (r : Tm) → part_at (d ∷ path) t ≡ Some r → ⊥
  part_of_leaf t leaf d path r e = no_part r (sym (ap (option_and_then (part_at path)) (leaf d)) ∙ e)

  nowhere_there : (t : Tm) → NoneAtRoot t → ((d : ℕ) → child d t ≡ None) → (k : Option ℕ) (path : List ℕ) → HasRedex rules t (record { rule = k; path = path }) → ⊥
  nowhere_there t none leaf k [] here = none k (root_steps t k here)
  nowhere_there t none leaf k (d ∷ path) (r, here, steps) = part_of_leaf t leaf d path r here

  pub none_leaf : (t : Tm) → NoneAtRoot t → ((d : ℕ) → child d t ≡ None) → HasNone rules t
  none_leaf t none leaf a here = nowhere_there t none leaf a.rule a.path here

  -- what a search answers

  abbrev pub Told : Tm → Option Found → Type 0
  Told t o = MatchOption o (HasNone rules t) (λ f. IsFirst rules t (redex_of f))

  abbrev pub OneUp : ℕ → Option Found → Option Found → Type 0
  OneUp d f o = MatchOption f (o ≡ None) (λ f. MatchOption o ⊥ (λ g. (g.rule ≡ f.rule) × (reverse g.back.items ≡ d ∷ reverse f.back.items)))

  redex_is : (g : Found) (k : Option ℕ) (p : List ℕ) → g.rule ≡ k → reverse g.back.items ≡ p → redex_of g ≡ record { rule = k; path = p }
  redex_is g k p e d = cc

  pub first_up : (t s : Tm) (d : ℕ) (f : Found) (o : Option Found) → ((a : Redex) → IsFirst rules t a → IsFirst rules s (below d a)) → Told t (Some f) → OneUp d (Some f) o → Told s o
  first_up t s d f None first told up = absurd up
  first_up t s d f (Some g) first told up =
      subst (IsFirst rules s) (sym (redex_is g f.rule (d ∷ reverse f.back.items) up.0 up.1)) (first (redex_of f) told)

  pub told_up : (t s : Tm) (d : ℕ) (f o : Option Found) → (HasNone rules t → HasNone rules s) → ((a : Redex) → IsFirst rules t a → IsFirst rules s (below d a)) → Told t f → OneUp d f o → Told s o
  told_up t s d None None none first told up = none told
  told_up t s d None (Some g) none first told up = let wrong : Some g ≡ None = up in absurd (cc)
  told_up t s d (Some f) o none first told up = first_up t s d f o first told up

  pub first_found : (t : Tm) (f : Found) → f.back.items ≡ [] → IsFirstBy rules t f.rule → IsFirst rules t (redex_of f)
  first_found t f none first = subst (IsFirst rules t) (sym (redex_is f f.rule [] refl (ap reverse none))) (first_root t f.rule first)

-- on terms without loose variables

module _ {rules : List RewriteRule} (S : Symbols) (w : AreWellMade S rules) (t : Tm) where
  redex_of_step : (a : Redex) (v : Tm) → StepAt rules a.rule a.path t v → HasRedex rules t a
  redex_of_step a v step = let at = at_of_step S w step in (at.redex, at.here, (at.contractum, at.steps))

  pub normal_if_none : HasNone rules t → IsNormal rules t
  normal_if_none none u step = let (k, path, at) = step-step_at step in none (record { rule = k; path = path }) (redex_of_step (record { rule = k; path = path }) u at)

  steps_by_first : LooseBelow 0 t → IsTerm t → (a : Redex) → IsFirst rules t a → StepsFirstBy rules t a.rule a.path
  steps_by_first shut plain a f =
      let (r, here, (v, steps)) = f.here in (
        put_at a.path v t,
        record { applies = step_there S w a.rule a.path t r v (put_at a.path v t) shut plain here steps refl; first = λ b x step h. f.first b (redex_of_step b x step) h },
      )

  -- the same of a step that the redex is
  pub steps_first_as : LooseBelow 0 t → IsTerm t → (a : Redex) (s : taken.Step) → IsFirst rules t a → s.rule ≡ a.rule → s.path ≡ a.path → StepsFirstBy rules t s.rule s.path
  steps_first_as shut plain a s f rule path =
      subst (λ (p : List ℕ). StepsFirstBy rules t s.rule p) (sym path) (subst (λ (k : Option ℕ). StepsFirstBy rules t k a.path) (sym rule) (steps_by_first shut plain a f))

-- a path to a part is one
pub path_of_part : (path : List ℕ) (t r : Tm) → part_at path t ≡ Some r → IsPath path
path_of_part path t r e =
    along r (λ path t. IsPath path)
    (λ t e. All-nil (λ (d : ℕ). d < 2))
    (λ path t u e h. All-cons (λ (d : ℕ). d < 2) 0 path (omega arith) h)
    (λ path t u e h. All-cons (λ (d : ℕ). d < 2) 1 path (omega arith) h)
    (λ path a t e h. All-cons (λ (d : ℕ). d < 2) 0 path (omega arith) h)
    path t e

pub first_path : (rules : List RewriteRule) (t : Tm) (a : Redex) → IsFirst rules t a → IsPath a.path
first_path rules t a f = let (r, here, steps) = f.here in path_of_part a.path t r here
