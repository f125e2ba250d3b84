-- Leftmost-outermost steps that follow each other: one more at the end, as a reduction, and that they end in one way.
use Rattle.std.proofs.Common.{◌≡◌, ℕ, suc, ◌+◌, ◌<◌, ◌≤◌, List, [], ◌∷◌, ◌++◌, length, All, refl, ap, sym, ◌∙◌, subst, arith}
use Rattle.std.proofs.lemmas.List.Elements.{All-nil, All-cons, All-head, All-tail, All-append}
use Rattle.wh_terms.specs.Tree.{Tm}
use Rattle.wh_terms.specs.Measures.{size, Fits}
use Rattle.wh_terms.specs.Sight.{LooseBelow, IsTerm}
use Rattle.wh_terms.specs.Typing.{Symbols}
use Rattle.wh_terms.specs.Rules.{RewriteRule, AreWellMade}
use Rattle.wh_terms.specs.declared.path.Step as taken
use Rattle.wh_step.specs.Replay.{StepAt}
use Rattle.wh_step.specs.Stepping.{TakesTo, IsPast}
use Rattle.wh_step.specs.Reduction.{Walk, last_of, Reduction}
use Rattle.wh_step.proofs.ReplayLemmas.{step_shut, step_term}
use Rattle.wh_step_outermost.specs.Leftmost.{Leftmost, IsNormal, LeadsTo, StepsFirstBy}
use Rattle.wh_step_outermost.specs.Redexes.{NoneLeft}
use Rattle.wh_step_outermost.specs.Reducing.{EndsBy, Reduces}
use Rattle.wh_step_outermost.specs.declared.reducing.End.{End}
use Rattle.wh_step_outermost.specs.declared.reducing.End.TheVariants.{Normal, Spent, TooBig}
use Rattle.wh_step_outermost.proofs.LeftLaws.{none_left_root, none_left_of_first, none_left_after}
use Rattle.wh_step_outermost.proofs.FirstSteps.{leftmost_step, leftmost_one}

-- no step, and one more

pub leads_nowhere : (rules : List RewriteRule) (t u : Tm) → t ≡ u → LeadsTo rules t 0 u
leads_nowhere rules t u same = record { results = []; steps = tt; fit = All-nil Fits; counted = refl; last = same }

walk_more : (rules : List RewriteRule) (t v : Tm) (l : List Tm) → Walk (Leftmost rules) t l → Leftmost rules (last_of t l) v → Walk (Leftmost rules) t (l ++ v ∷ [])
walk_more rules t v [] walk step = (step, tt)
walk_more rules t v (u ∷ l) walk step = (walk.0, walk_more rules u v l walk.1 step)

last_more : (t v : Tm) (l : List Tm) → last_of t (l ++ v ∷ []) ≡ v
last_more t v [] = refl
last_more t v (u ∷ l) = last_more u v l

length_more : (v : Tm) (l : List Tm) → length (l ++ v ∷ []) ≡ length l + 1
length_more v [] = refl
length_more v (u ∷ l) = omega (arith, length_more v l)

pub leads_on : {rules : List RewriteRule} (t u v : Tm) (n : ℕ) → LeadsTo rules t n u → Leftmost rules u v → Fits v → LeadsTo rules t (n + 1) v
leads_on {rules} t u v n l step fits = record {
  results = l.results ++ v ∷ [];
  steps = walk_more rules t v l.results l.steps (subst (λ (s : Tm). Leftmost rules s v) (sym l.last) step);
  fit = All-append Fits l.results (v ∷ []) l.fit (All-cons Fits v [] fits (All-nil Fits));
  counted = length_more v l.results ∙ ap (λ (k : ℕ). k + 1) l.counted;
  last = last_more t v l.results;
}

-- as a reduction

walk_reduction : (rules : List RewriteRule) (t : Tm) (l : List Tm) → Walk (Leftmost rules) t l → Reduction rules t l
walk_reduction rules t [] walk = tt
walk_reduction rules t (u ∷ l) walk = (leftmost_step walk.0, walk_reduction rules u l walk.1)

pub leads_reduction : {rules : List RewriteRule} (t u : Tm) (n : ℕ) → LeadsTo rules t n u → (l : List Tm) × Reduction rules t l × (length l ≡ n) × (last_of t l ≡ u)
leads_reduction {rules} t u n l = (l.results, walk_reduction rules t l.results l.steps, l.counted, l.last)

-- one end

module _ {rules : List RewriteRule} (S : Symbols) (w : AreWellMade S rules) (asked : ℕ) where
  -- no end where one more step is taken
  no_end : (t v : Tm) (k : ℕ) (e : End) → k < asked → Leftmost rules t v → Fits v → EndsBy rules asked k t e → ⊥
  no_end t v k Normal more step fits normal = normal v (leftmost_step step)
  no_end t v k Spent more step fits (all, some) = omega arith
  no_end t v k TooBig more step fits (fewer, (u, next, big)) = big (subst Fits (leftmost_one S w step next) fits)

  ends_one : (l m : List Tm) (t : Tm) (k : ℕ) (d e : End) → Walk (Leftmost rules) t l → Walk (Leftmost rules) t m → All Fits l → All Fits m → k + length l ≤ asked → k + length m ≤ asked
      → EndsBy rules asked (k + length l) (last_of t l) d → EndsBy rules asked (k + length m) (last_of t m) e → (length l ≡ length m) × (last_of t l ≡ last_of t m)
  ends_one [] [] t k d e a b f g h i x y = (refl, refl)
  ends_one [] (v ∷ m) t k d e a b f g h i x y =
      absurd (no_end t v k d (omega arith) b.0 (All-head Fits v m g) (subst (λ (n : ℕ). EndsBy rules asked n t d) (omega arith) x))
  ends_one (u ∷ l) [] t k d e a b f g h i x y =
      absurd (no_end t u k e (omega arith) a.0 (All-head Fits u l f) (subst (λ (n : ℕ). EndsBy rules asked n t e) (omega arith) y))
  ends_one (u ∷ l) (v ∷ m) t k d e a b f g h i x y =
      let same : u ≡ v = leftmost_one S w a.0 b.0 in
      let (long, last) =
      ends_one l m u (k + 1) d e a.1 (subst (λ (s : Tm). Walk (Leftmost rules) s m) (sym same) b.1) (All-tail Fits u l f) (All-tail Fits v m g) (omega arith) (omega arith)
      (subst (λ (n : ℕ). EndsBy rules asked n (last_of u l) d) (omega arith) x)
      (subst (λ (s : Tm). EndsBy rules asked (k + 1 + length m) (last_of s m) e) (sym same) (subst (λ (n : ℕ). EndsBy rules asked n (last_of v m) e) (omega arith) y)) in
      (ap suc long, last ∙ ap (λ (s : Tm). last_of s m) same)

  reason_one : (t : Tm) (n : ℕ) (d e : End) → EndsBy rules asked n t d → EndsBy rules asked n t e → d ≡ e
  reason_one t n Normal Normal x y = refl
  reason_one t n Normal Spent x (all, (v, step)) = absurd (x v step)
  reason_one t n Normal TooBig x (fewer, (v, step, big)) = absurd (x v (leftmost_step step))
  reason_one t n Spent Normal (all, (v, step)) y = absurd (y v step)
  reason_one t n Spent Spent x y = refl
  reason_one t n Spent TooBig (all, some) (fewer, other) = absurd (omega arith)
  reason_one t n TooBig Normal (fewer, (v, step, big)) y = absurd (y v (leftmost_step step))
  reason_one t n TooBig Spent (fewer, other) (all, some) = absurd (omega arith)
  reason_one t n TooBig TooBig x y = refl

  pub reduces_one : (t u v : Tm) (m n : ℕ) (d e : End) → Reduces rules t asked m u d → Reduces rules t asked n v e → (m ≡ n) × (u ≡ v) × (d ≡ e)
  reduces_one t u v m n d e x y =
      let l = x.steps in
      let r = y.steps in
      let many_l : m ≡ 0 + length l.results = omega (arith, l.counted) in
      let many_r : n ≡ 0 + length r.results = omega (arith, r.counted) in
      let end_l : EndsBy rules asked (0 + length l.results) (last_of t l.results) d =
      subst (λ (k : ℕ). EndsBy rules asked k (last_of t l.results) d) many_l (subst (λ (s : Tm). EndsBy rules asked m s d) (sym l.last) x.end) in
      let end_r : EndsBy rules asked (0 + length r.results) (last_of t r.results) e =
      subst (λ (k : ℕ). EndsBy rules asked k (last_of t r.results) e) many_r (subst (λ (s : Tm). EndsBy rules asked n s e) (sym r.last) y.end) in
      let (long, last) = ends_one l.results r.results t 0 d e l.steps r.steps l.fit r.fit (omega (arith, l.counted, x.within)) (omega (arith, r.counted, y.within)) end_l end_r in
      let many : m ≡ n = sym l.counted ∙ long ∙ r.counted in
      let same : u ≡ v = sym l.last ∙ last ∙ r.last in
      (many, same, reason_one v n d e (subst (λ (k : ℕ). EndsBy rules asked k v d) many (subst (λ (s : Tm). EndsBy rules asked m s d) same x.end)) y.end)

-- what holds of the term while steps are taken, and where they end

pub record Stands (rules : List RewriteRule) (t : Tm) (n : ℕ) (place : List ℕ) (u : Tm) (total : ℕ) : Type 0 where
  pub steps : LeadsTo rules t n u
  pub fits : Fits u
  pub shut : LooseBelow 0 u
  pub plain : IsTerm u
  pub none_left : NoneLeft rules place u
  pub sized : total ≡ size u

pub stands_first : (rules : List RewriteRule) (t u : Tm) (place : List ℕ) (total : ℕ) → u ≡ t → Fits t → LooseBelow 0 t → IsTerm t → length place ≡ 0 → total ≡ size t → Stands rules t 0 place u total
stands_first rules t u place total is fits shut plain root sized = record {
  steps = leads_nowhere rules t u (sym is);
  fits = subst Fits (sym is) fits;
  shut = subst (LooseBelow 0) (sym is) shut;
  plain = subst IsTerm (sym is) plain;
  none_left = none_left_root rules place u root;
  sized = sized ∙ ap size (sym is);
}

-- the step that was found is the first of its term
leftmost_there : (rules : List RewriteRule) (u v : Tm) (s : taken.Step) → StepsFirstBy rules u s.rule s.path → StepAt rules s.rule s.path u v → Leftmost rules u v
leftmost_there rules u v s (w, f) step = (record { rule = s.rule; path = s.path }, record { applies = step; first = f.first })

pub stands_next : (S : Symbols) (rules : List RewriteRule) → AreWellMade S rules → (t u v : Tm) (n : ℕ) (place : List ℕ) (total next : ℕ) (s : taken.Step) → Stands rules t n place u total → StepsFirstBy rules u s.rule s.path
    → TakesTo rules s u v next → Stands rules t (n + 1) s.path v next
stands_next S rules w t u v n place total next s l first takes = record {
  steps = leads_on t u v n l.steps (leftmost_there rules u v s first takes.step) takes.fits;
  fits = takes.fits;
  shut = step_shut S w s takes.step l.shut;
  plain = step_term S w s takes.step l.plain;
  none_left = none_left_after S w s.rule s.path u v takes.step (none_left_of_first S w s.rule s.path u l.shut l.plain first);
  sized = takes.sized;
}

pub stands_past : (rules : List RewriteRule) (u : Tm) (s : taken.Step) → StepsFirstBy rules u s.rule s.path → IsPast rules s u → (v : Tm) × Leftmost rules u v × (Fits v → ⊥)
stands_past rules u s first (v, step, big) = (v, leftmost_there rules u v s first step, big)

pub ends_normal : (rules : List RewriteRule) (t u : Tm) (asked n : ℕ) (place : List ℕ) (total : ℕ) → Stands rules t n place u total → n < asked → IsNormal rules u → Reduces rules t asked n u Normal
ends_normal rules t u asked n place total s more normal = record { steps = s.steps; within = omega arith; end = normal }

pub ends_big : (rules : List RewriteRule) (t u : Tm) (asked n : ℕ) (place : List ℕ) (total : ℕ) → Stands rules t n place u total → n < asked → ((v : Tm) × Leftmost rules u v × (Fits v → ⊥)) → Reduces rules t asked n u TooBig
ends_big rules t u asked n place total s more big = record { steps = s.steps; within = omega arith; end = (more, big) }

pub ends_all : (rules : List RewriteRule) (t u v : Tm) (asked n m : ℕ) (e : End) (place : List ℕ) (total : ℕ) → Stands rules t n place u total → n ≡ asked → m ≡ asked → v ≡ u → EndsBy rules asked asked u e → Reduces rules t asked m v e
ends_all rules t u v asked n m e place total s all is same end = record {
  steps = subst (λ (x : Tm). LeadsTo rules t m x) (sym same) (subst (λ (k : ℕ). LeadsTo rules t k u) (all ∙ sym is) s.steps);
  within = omega arith;
  end = subst (λ (x : Tm). EndsBy rules asked m x e) (sym same) (subst (λ (k : ℕ). EndsBy rules asked k u e) (sym is) end);
}
