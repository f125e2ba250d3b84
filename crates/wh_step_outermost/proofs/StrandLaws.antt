-- The tree along a path: a step there fits in the whole tree exactly where it fits along the path, but for the size.
use Rattle.std.proofs.Common.{◌≡◌, ℕ, zero, suc, ◌+◌, ◌-◌, ◌<◌, ◌≤◌, List, [], ◌∷◌, length, Some, refl, ap, ◌∙◌, arith}
use Rattle.wh_types.specs.Ty.{Ty}
use Rattle.wh_terms.specs.Tree.{Tm, bound, free, fun, meta, lam, app, argument_count}
use Rattle.wh_terms.specs.Sight.{IsTerm, LooseBelow}
use Rattle.wh_terms.specs.Measures.{size, height, risen, SpinesWithin, Fits}
use Rattle.wh_terms.specs.Places.{part_at}
use Rattle.wh_step.specs.Roots.{put_at}
use Rattle.wh_step.specs.Context.{reach, is_front, one_more_if, joined_arguments, FitsThere}
use Rattle.wh_step.proofs.PlaceLemmas.{along}
use Rattle.wh_step.proofs.ContextLemmas.{size_put, fits_there}
use Rattle.wh_step_outermost.specs.Strands.{strand}

-- one step of the walk

pub strand_here : (path : List ℕ) (t : Tm) → length path ≡ 0 → strand path t ≡ t
strand_here [] t e = refl
strand_here (d ∷ path) t e = absurd (omega arith)

pub strand_in_function : (path : List ℕ) (d : ℕ) (rest : List ℕ) (t u : Tm) → path ≡ d ∷ rest → d ≡ 0 → strand path (app t u) ≡ app (strand rest t) (fun 0)
strand_in_function path zero rest t u e z = ap (λ p. strand p (app t u)) e
strand_in_function path (suc d) rest t u e z = absurd (omega arith)

pub strand_in_argument : (path : List ℕ) (d : ℕ) (rest : List ℕ) (t u : Tm) → path ≡ d ∷ rest → 0 < d → strand path (app t u) ≡ app (fun 0) (strand rest u)
strand_in_argument path zero rest t u e z = absurd (omega arith)
strand_in_argument path (suc d) rest t u e z = ap (λ p. strand p (app t u)) e

pub strand_in_body : (path : List ℕ) (d : ℕ) (rest : List ℕ) (a : Ty) (t : Tm) → path ≡ d ∷ rest → strand path (lam a t) ≡ lam a (strand rest t)
strand_in_body path zero rest a t e = ap (λ p. strand p (lam a t)) e
strand_in_body path (suc d) rest a t e = ap (λ p. strand p (lam a t)) e

-- a part that is put at a place stands there
pub part_put : (v r : Tm) (path : List ℕ) (t : Tm) → part_at path t ≡ Some r → part_at path (put_at path v t) ≡ Some v
part_put v r =
    along r (λ path t. part_at path (put_at path v t) ≡ Some v)
    (λ t e. refl)
    (λ path t u e h. h)
    (λ path t u e h. h)
    (λ path a t e h. h)

module _ (r : Tm) where
  pub strand_part : (path : List ℕ) (t : Tm) → part_at path t ≡ Some r → part_at path (strand path t) ≡ Some r
  strand_part =
      along r (λ path t. part_at path (strand path t) ≡ Some r)
      (λ t e. ap Some e)
      (λ path t u e h. h)
      (λ path t u e h. h)
      (λ path a t e h. h)

  -- its measures

  pub strand_size : (path : List ℕ) (t : Tm) → part_at path t ≡ Some r → size (strand path t) ≤ size t
  strand_size =
      along r (λ path t. size (strand path t) ≤ size t)
      (λ t e. omega arith)
      (λ path t u e h. omega (arith, h, some_size u))
      (λ path t u e h. omega (arith, h, some_size t))
      (λ path a t e h. omega (arith, h))
    where
      some_size : (t : Tm) → 1 ≤ size t
      some_size (bound i) = omega arith
      some_size (free x a) = omega arith
      some_size (fun f) = omega arith
      some_size (meta z ts) = omega arith
      some_size (lam a t) = omega arith
      some_size (app t u) = omega arith

  risen_is : (t : Tm) (n : ℕ) → risen t n ≡ n + risen t 0
  risen_is (app t u) n = omega arith
  risen_is (bound i) n = omega arith
  risen_is (free x a) n = omega arith
  risen_is (fun f) n = omega arith
  risen_is (meta z ts) n = omega arith
  risen_is (lam a t) n = omega arith

  risen_strand : (path : List ℕ) (t : Tm) → part_at path t ≡ Some r → risen (strand path t) 0 ≡ risen t 0
  risen_strand =
      along r (λ path t. risen (strand path t) 0 ≡ risen t 0)
      (λ t e. refl)
      (λ path t u e h. refl)
      (λ path t u e h. refl)
      (λ path a t e h. refl)

  strand_height : (path : List ℕ) (t : Tm) → part_at path t ≡ Some r → height (strand path t) ≤ height t
  strand_height =
      along r (λ path t. height (strand path t) ≤ height t)
      (λ t e. omega arith)
      (λ path t u e h. omega (arith, h, risen_strand path t e, risen_is t (height t), risen_is (strand path t) (height (strand path t))))
      (λ path t u e h. omega (arith, h))
      (λ path a t e h. omega (arith, h))

  strand_count : (path : List ℕ) (t : Tm) → part_at path t ≡ Some r → argument_count (strand path t) ≤ argument_count t
  strand_count =
      along r (λ path t. argument_count (strand path t) ≤ argument_count t)
      (λ t e. omega arith)
      (λ path t u e h. omega (arith, h))
      (λ path t u e h. omega arith)
      (λ path a t e h. omega arith)

  strand_narrow : (n : ℕ) (path : List ℕ) (t : Tm) → part_at path t ≡ Some r → SpinesWithin n t → SpinesWithin n (strand path t)
  strand_narrow n =
      along r (λ path t. SpinesWithin n t → SpinesWithin n (strand path t))
      (λ t e w. w)
      (λ path t u e h w. (omega (arith, w.0, strand_count path t e), h w.1, tt))
      (λ path t u e h w. (omega (arith, w.0), tt, h w.2))
      (λ path a t e h w. h w)

  pub strand_fits : (path : List ℕ) (t : Tm) → part_at path t ≡ Some r → Fits t → Fits (strand path t)
  strand_fits path t e f = record {
    low = omega (arith, f.low, strand_height path t e);
    narrow = strand_narrow 32 path t e f.narrow;
    small = omega (arith, f.small, strand_size path t e);
  }

  -- it is a term without loose variables where the whole tree is

  pub strand_shut : (path : List ℕ) (t : Tm) → part_at path t ≡ Some r → (k : ℕ) → LooseBelow k t → LooseBelow k (strand path t)
  strand_shut =
      along r (λ path t. (k : ℕ) → LooseBelow k t → LooseBelow k (strand path t))
      (λ t e k l. l)
      (λ path t u e h k l. (h k l.0, tt))
      (λ path t u e h k l. (tt, h k l.1))
      (λ path a t e h k l. h (k + 1) l)

  pub strand_term : (path : List ℕ) (t : Tm) → part_at path t ≡ Some r → IsTerm t → IsTerm (strand path t)
  strand_term =
      along r (λ path t. IsTerm t → IsTerm (strand path t))
      (λ t e p. p)
      (λ path t u e h p. (h p.0, tt))
      (λ path t u e h p. (tt, h p.1))
      (λ path a t e h p. h p)

  -- what a part brings to it

  risen_put : (v : Tm) (path : List ℕ) (t : Tm) → part_at path t ≡ Some r → (n : ℕ) → risen (put_at path v (strand path t)) n ≡ risen (put_at path v t) n
  risen_put v =
      along r (λ path t. (n : ℕ) → risen (put_at path v (strand path t)) n ≡ risen (put_at path v t) n)
      (λ t e n. refl)
      (λ path t u e h n. refl)
      (λ path t u e h n. refl)
      (λ path a t e h n. refl)

  strand_reach : (v : Tm) (path : List ℕ) (t : Tm) → part_at path t ≡ Some r → reach path v (strand path t) ≡ reach path v t
  strand_reach v =
      along r (λ path t. reach path v (strand path t) ≡ reach path v t)
      (λ t e. refl)
      (λ path t u e h. risen_put v path t e (reach path v (strand path t)) ∙ ap (risen (put_at path v t)) h)
      (λ path t u e h. ap (λ n. 1 + n) h)
      (λ path a t e h. ap (λ n. 1 + n) h)

  strand_front : (path : List ℕ) (t : Tm) → part_at path t ≡ Some r → is_front path (strand path t) ≡ is_front path t
  strand_front =
      along r (λ path t. is_front path (strand path t) ≡ is_front path t)
      (λ t e. refl)
      (λ path t u e h. h)
      (λ path t u e h. refl)
      (λ path a t e h. refl)

  strand_joined : (v : Tm) (path : List ℕ) (t : Tm) → part_at path t ≡ Some r → joined_arguments path v (strand path t) ≡ joined_arguments path v t
  strand_joined v =
      along r (λ path t. joined_arguments path v (strand path t) ≡ joined_arguments path v t)
      (λ t e. refl)
      (λ path t u e h. ap (λ b. one_more_if b (joined_arguments path v (strand path t))) (strand_front path t e) ∙ ap (one_more_if (is_front path t)) h)
      (λ path t u e h. h)
      (λ path a t e h. h)

  -- the step's result

  module _ (path : List ℕ) (t v : Tm) (here : part_at path t ≡ Some r) where
    -- the size of the whole is that along the path, and that of what is beside it
    pub whole_size : size (put_at path v t) ≡ size t - size (strand path t) + size (put_at path v (strand path t))
    whole_size = omega (arith, strand_size path t here, size_put v r path t here, size_put v r path (strand path t) (strand_part path t here))

    pub fits_whole : Fits t → Fits (put_at path v (strand path t)) → size (put_at path v t) ≤ 65536 → Fits (put_at path v t)
    fits_whole f g within =
        let there : FitsThere path v (strand path t) r = (fits_there path v (strand path t) r (strand_part path t here) (strand_fits path t here f)).0 g in
        (fits_there path v t r here f).1 (record {
          part = there.part;
          small = omega (arith, within, size_put v r path t here);
          low = omega (arith, there.low, strand_reach v path t here);
          narrow = omega (arith, there.narrow, strand_joined v path t here);
        })

    pub past_whole : Fits t → (Fits (put_at path v (strand path t)) → ⊥) → Fits (put_at path v t) → ⊥
    past_whole f past g =
        let there : FitsThere path v t r = (fits_there path v t r here f).0 g in
        past ((fits_there path v (strand path t) r (strand_part path t here) (strand_fits path t here f)).1 (record {
          part = there.part;
          small = omega (arith, there.small, strand_size path t here);
          low = omega (arith, there.low, strand_reach v path t here);
          narrow = omega (arith, there.narrow, strand_joined v path t here);
        }))
