-- A term that reduces to a tree that holds an instance of it has reductions of every length.
-- Steps are taken on raw bodies, where no binder is opened. What is put for free variables may then have loose variables,
-- so that the instance, which stands below binders, is one more substituted term; and no variable has to be renamed.
use Rattle.std.proofs.Common.{◌≡◌, ◌≢◌, ℕ, zero, suc, ◌+◌, ◌<◌, List, [], ◌∷◌, length, map, Some, Bool, true, false, refl, ap, sym, ◌∙◌, subst, arith, eq-eqb, ne_eqb}
use Rattle.std.proofs.lemmas.List.{length-map}
use Rattle.std.specs.Prelude.{if◌then◌else◌, ◌==◌}
use Rattle.wh_types.specs.Ty.{Ty}
use Rattle.wh_terms.specs.Tree.{Tm, bound, free, lam, app}
use Rattle.wh_terms.specs.Substitution.{rename, up, up_free, act, cons, opened}
use Rattle.wh_terms.specs.Sight.{IsTerm, LooseBelow, Fresh}
use Rattle.wh_terms.specs.Places.{opened_part_at}
use Rattle.wh_terms.specs.Typing.{Symbols}
use Rattle.wh_terms.specs.Rules.{RewriteRule, AreWellMade}
use Rattle.wh_terms.proofs.ActLaws.{act_same, act-act, act-opened-cons}
use Rattle.wh_terms.proofs.SightLaws.{act_fresh}
use Rattle.wh_terms.proofs.TermLaws.{term-act, term-rename, term-up}
use Rattle.wh_terms.proofs.FreshLaws.{Above, fresh-opened}
use Rattle.wh_terms.proofs.StepOver.{StepOver, over_function, over_argument, over_body, AreTerms, AreFreeTerms, IsKept, over-act, over-loose, over-term}
use Rattle.wh_step.specs.Reduction.{Walk, last_of, Reduction}
use Rattle.wh_step.proofs.Instances.{instances_loose, instances_terms}
use Rattle.wh_step.proofs.RawStep.{RawStep, step_raw, raw_step}
use Rattle.wh_no.proofs.Reaching.{Reaches, at_end, in_body, in_function, in_argument, reaches}
use Rattle.wh_no.proofs.FreshSteps.{instances_fresh, over-fresh}

-- a walk of n steps
abbrev pub Walks : {A : Type 0} → (A → A → Type 0) → ℕ → A → Type 0
Walks {A = A} R n a = (l : List A) × Walk R a l × (length l ≡ n)

first : {A : Type 0} (R : A → A → Type 0) (a b : A) (n : ℕ) → R a b → Walks R n b → Walks R (suc n) a
first R a b n r (l, w, e) = (b ∷ l, (r, w), ap suc e)

fewer : {A : Type 0} (R : A → A → Type 0) (n : ℕ) (a : A) (l : List A) → Walk R a l → length l ≡ suc n → Walks R n a
fewer R n a [] w e = absurd (omega arith)
fewer R zero a (b ∷ l) w e = ([], tt, refl)
fewer R (suc n) a (b ∷ l) w e = first R a b n w.0 (fewer R n b l w.1 (omega arith))

-- before a walk of n steps another walk
before : {A : Type 0} (R : A → A → Type 0) (n : ℕ) (a : A) (l : List A) → Walk R a l → Walks R n (last_of a l) → Walks R n a
before R n a [] w h = h
before R n a (b ∷ l) w h = let (m, v, e) = first R a b n w.0 (before R n b l w.1 h) in fewer R n a m v e

-- and one of at least one step
one_more : {A : Type 0} (R : A → A → Type 0) (n : ℕ) (a : A) (l : List A) → Walk R a l → 0 < length l → Walks R n (last_of a l) → Walks R (suc n) a
one_more R n a [] w h k = absurd (omega arith)
one_more R n a (b ∷ l) w h k = first R a b n w.0 (before R n b l w.1 k)

-- a walk in a part is one in the whole
along : {R Q : Tm → Tm → Type 0} (f : Tm → Tm) → ((t u : Tm) → R t u → Q (f t) (f u)) → (n : ℕ) (t : Tm) (l : List Tm) → Walk R t l → length l ≡ n → Walks Q n (f t)
along f h zero t [] w e = ([], tt, refl)
along f h zero t (u ∷ l) w e = absurd (omega arith)
along f h (suc n) t [] w e = absurd (omega arith)
along {Q = Q} f h (suc n) t (u ∷ l) w e = first Q (f t) (f u) n (h t u w.0) (along f h n u l w.1 (omega arith))

in_part : {R Q : Tm → Tm → Type 0} (f : Tm → Tm) → ((t u : Tm) → R t u → Q (f t) (f u)) → (n : ℕ) (t : Tm) → Walks R n t → Walks Q n (f t)
in_part f h n t (l, w, e) = along f h n t l w e

-- whatever terms are put for the variables of t, the result walks n steps by R
abbrev pub AlwaysWalks : (Tm → Tm → Type 0) → ℕ → Tm → Type 0
AlwaysWalks R n t = (σ : ℕ → Tm) (φ : ℕ → Ty → Tm) → AreTerms σ → AreFreeTerms φ → Walks R n (act σ φ t)

-- the nearest loose variable for the free variables that are numbered x; φ for the others
back : ℕ → (ℕ → Ty → Tm) → ℕ → Ty → Tm
back x φ y a = if y == x then bound 0 else up_free φ y a

back_here : (x : ℕ) (φ : ℕ → Ty → Tm) (a : Ty) → back x φ x a ≡ bound 0
unfolding back
back_here x φ a = ap (λ t. if t then bound 0 else up_free φ x a) (eq-eqb x x refl)

back_other : (x : ℕ) (φ : ℕ → Ty → Tm) (y : ℕ) (a : Ty) → y ≢ x → back x φ y a ≡ up_free φ y a
unfolding back
back_other x φ y a n = ap (λ t. if t then bound 0 else up_free φ y a) (ne_eqb y x n)

back_terms : (x : ℕ) (φ : ℕ → Ty → Tm) → AreFreeTerms φ → AreFreeTerms (back x φ)
unfolding back up_free
back_terms x φ h y a = term_if (y == x)
  where
    term_if : (c : Bool) → IsTerm (if c then bound 0 else rename suc (φ y a))
    term_if true = tt
    term_if false = term-rename suc (φ y a) (h y a)

back_cons : (x : ℕ) (a : Ty) (σ : ℕ → Tm) (φ : ℕ → Ty → Tm) (i : ℕ) → cons (back x φ x a) (λ j. up σ (suc j)) i ≡ up σ i
unfolding cons up
back_cons x a σ φ zero = back_here x φ a
back_cons x a σ φ (suc i) = refl

-- a body under its binder is an image of the body that a fresh variable opens
body-opened : (x : ℕ) (a : Ty) (t : Tm) (σ : ℕ → Tm) (φ : ℕ → Ty → Tm) → Fresh x t
    → act (λ j. up σ (suc j)) (back x φ) (opened (free x a) t) ≡ act (up σ) (up_free φ) t
unfolding act
body-opened x a t σ φ f =
    act-opened-cons (λ j. up σ (suc j)) (back x φ) (free x a) t
    ∙ act_same (back_cons x a σ φ) (λ y b. refl) t
    ∙ act_fresh x (up σ) (back x φ) (up_free φ) t f (back_other x φ)

above_body : (x : ℕ) (a : Ty) (t : Tm) → Above x t → Above (x + 1) (opened (free x a) t)
above_body x a t h y l = fresh-opened y (free x a) t (λ e. omega arith) (h y (omega arith))

walk-act : {R : Tm → Tm → Type 0} → IsKept R → (σ : ℕ → Tm) (φ : ℕ → Ty → Tm) → AreTerms σ → AreFreeTerms φ → (t : Tm) (l : List Tm) → Walk (StepOver R) t l
    → Walk (StepOver R) (act σ φ t) (map (act σ φ) l)
walk-act kept σ φ p q t [] w = tt
walk-act kept σ φ p q t (u ∷ l) w = (over-act kept σ φ p q w.0, walk-act kept σ φ p q u l w.1)

last-map : (f : Tm → Tm) (t : Tm) (l : List Tm) → last_of (f t) (map f l) ≡ f (last_of t l)
last-map f t [] = refl
last-map f t (u ∷ l) = last-map f u l

-- The part of u at a path, its passed binders opened by fresh variables, is t after a substitution. Then u walks as far as t
-- does after each substitution.
around : {R : Tm → Tm → Type 0} (n : ℕ) (t : Tm) → AlwaysWalks (StepOver R) n t → (φ : ℕ → Ty → Tm) → AreFreeTerms φ
    → {x : ℕ} {path : List ℕ} {u w : Tm} → Reaches x path u w → w ≡ act bound φ t → Above x u → AlwaysWalks (StepOver R) n u
unfolding act
around {R = R} n t h φ terms (at_end {u = u} same) e above σ ψ p q =
    subst (Walks (StepOver R) n) (sym (act-act bound φ σ ψ t) ∙ ap (act σ ψ) (sym (same ∙ e))) (h σ (λ y a. act σ ψ (φ y a)) p (λ y a. term-act σ ψ (φ y a) p q (terms y a)))
around {R = R} n t h φ terms (in_body {x = x} {a = a} {t = u} r) e above σ ψ p q =
    in_part (lam a) (λ v w s. over_body s) n (act (up σ) (up_free ψ) u)
    (subst (Walks (StepOver R) n) (body-opened x a u σ ψ (above x (omega arith)))
    (around n t h φ terms r e (above_body x a u above) (λ j. up σ (suc j)) (back x ψ) (λ j. term-up σ p (suc j)) (back_terms x ψ q)))
around n t h φ terms (in_function {t = u} {u = v} r) e above σ ψ p q =
    in_part (λ w. app w (act σ ψ v)) (λ w w' s. over_function s) n (act σ ψ u) (around n t h φ terms r e (λ y l. (above y l).0) σ ψ p q)
around n t h φ terms (in_argument {t = u} {u = v} r) e above σ ψ p q =
    in_part (λ w. app (act σ ψ u) w) (λ w w' s. over_argument s) n (act σ ψ v) (around n t h φ terms r e (λ y l. (above y l).1) σ ψ p q)

-- t walks at least one step to u, which holds an instance of t: so t walks any number of steps, whatever is put for its variables
pub always : {R : Tm → Tm → Type 0} → IsKept R → (t : Tm) (l : List Tm) → Walk (StepOver R) t l → 0 < length l → (path : List ℕ) (x : ℕ) (φ : ℕ → Ty → Tm)
    → AreFreeTerms φ → Above x (last_of t l) → opened_part_at x path (last_of t l) ≡ Some (act bound φ t) → (n : ℕ) → AlwaysWalks (StepOver R) n t
always kept t l w some path x φ terms above e zero σ ψ p q = ([], tt, refl)
always {R = R} kept t l w some path x φ terms above e (suc n) σ ψ p q =
    one_more (StepOver R) n (act σ ψ t) (map (act σ ψ) l) (walk-act kept σ ψ p q t l w) (subst (λ k. 0 < k) (sym (length-map l (act σ ψ))) some)
    (subst (Walks (StepOver R) n) (sym (last-map (act σ ψ) t l))
    (around n t (always kept t l w some path x φ terms above e n) φ terms (reaches path x (last_of t l) (act bound φ t) e) refl above σ ψ p q))

-- walks on raw bodies from terms without loose variables are reductions, and bring no free variable
pub walk-reduction : {rules : List RewriteRule} (S : Symbols) → AreWellMade S rules → (t : Tm) (l : List Tm) → LooseBelow 0 t → IsTerm t → Walk (RawStep rules) t l → Reduction rules t l
walk-reduction S w t [] shut term k = tt
walk-reduction {rules = rules} S w t (u ∷ l) shut term k =
    (raw_step S w k.0 shut term, walk-reduction S w u l (over-loose (instances_loose S rules w) 0 k.0 shut) (over-term (instances_terms S rules w) k.0 term) k.1)

pub reduction-walk : {rules : List RewriteRule} (S : Symbols) → AreWellMade S rules → (t : Tm) (l : List Tm) → Reduction rules t l → Walk (RawStep rules) t l
reduction-walk S w t [] k = tt
reduction-walk S w t (u ∷ l) k = (step_raw S w k.0, reduction-walk S w u l k.1)

pub walk-above : {rules : List RewriteRule} (S : Symbols) → AreWellMade S rules → (x : ℕ) (t : Tm) (l : List Tm) → Walk (RawStep rules) t l → Above x t → Above x (last_of t l)
walk-above S w x t [] k above = above
walk-above {rules = rules} S w x t (u ∷ l) k above = walk-above S w x u l k.1 (λ y h. over-fresh (instances_fresh S rules w) y k.0 (above y h))
