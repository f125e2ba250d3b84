-- What computability is good for: four laws, and that they pass from two types to their arrow.
use Rattle.std.proofs.Common.{◌≡◌, ℕ, List, [], ◌∷◌, refl, ap, sym, ◌∙◌, subst}
use Rattle.wh_types.specs.Ty.{Ty, sort, ◌⇒◌, SortsBelow}
use Rattle.wh_terms.specs.Tree.{Tm, bound, free, fun, meta, lam, app, spine, head}
use Rattle.wh_terms.specs.Substitution.{opened}
use Rattle.wh_terms.specs.Typing.{Symbols, Typed, typed_free, typed_app}
use Rattle.wh_terms.specs.StepOver.{StepOver, over_root, over_beta, over_function, over_argument, over_body}
use Rattle.wh_terms.proofs.TypingLaws.{typed_term}
use Rattle.wh_terms.proofs.StepOver.{over-typed, over-opened}
use Rattle.wh_step_laws.specs.Ends.{Ends, ends}
use Rattle.wh_step_laws.specs.RootRelations.{IsRoot}
use Rattle.wh_step_laws.specs.Neutral.{HasNeutralHead, IsNeutral}
use Rattle.wh_step_laws.specs.Computable.{ComputableAt, computable_at}
use Rattle.wh_step_laws.proofs.EndsLaws.{ends-simulated}
use Rattle.wh_step_laws.proofs.RankLaws.{Takes}

-- P holds of typed and accessible terms only, is kept by steps, and holds of each neutral term whose reducts have it
pub record Candidate (S : Symbols) (R : Tm → Tm → Type 0) (a : Ty) (P : Tm → Type 0) : Type 0 where
  pub typed : (t : Tm) → P t → Typed S [] [] t a
  pub ends : (t : Tm) → P t → Ends R t
  pub step : (t u : Tm) → P t → R t u → P u
  pub neutral : (t : Tm) → Typed S [] [] t a → IsNeutral t → ((u : Tm) → R t u → P u) → P t

-- no neutral head is a symbol
pub neutral_head : (f : ℕ) (t : Tm) → HasNeutralHead t → head t ≡ fun f → ⊥
neutral_head f (bound i) n e = n
neutral_head f (free x a) n e = absurd (cc)
neutral_head f (fun g) n e = n
neutral_head f (meta z ts) n e = n
neutral_head f (lam a t) n e = absurd (cc)
neutral_head f (app t u) n e = neutral_head f t n e

pub neutral_fun : (f : ℕ) (t : Tm) → IsNeutral t → head t ≡ fun f → ⊥
neutral_fun f (bound i) n e = n
neutral_fun f (free x a) n e = absurd (cc)
neutral_fun f (fun g) n e = n
neutral_fun f (meta z ts) n e = n
neutral_fun f (lam a t) n e = n
neutral_fun f (app t u) n e = neutral_head f t n e

pub neutral_more : (t : Tm) → IsNeutral t → HasNeutralHead t
neutral_more (bound i) n = n
neutral_more (free x a) n = n
neutral_more (fun g) n = n
neutral_more (meta z ts) n = n
neutral_more (lam a t) n = absurd n
neutral_more (app t u) n = n

pub head-spine : (h : Tm) (ts : List Tm) → head (spine h ts) ≡ head h
head-spine h [] = refl
head-spine h (t ∷ ts) = head-spine (app h t) ts

neutral_spine : (f : ℕ) (ts : List Tm) (t : Tm) → IsNeutral t → t ≡ spine (fun f) ts → ⊥
neutral_spine f ts t n e = neutral_fun f t n (ap head e ∙ head-spine (fun f) ts)

at-typed : {S : Symbols} {rank : ℕ → ℕ} {R : Tm → Tm → Type 0} {Low : Ty → Tm → Type 0} {s : ℕ} {t : Tm} → ComputableAt S rank R Low s t → Typed S [] [] t (sort s)
at-typed (computable_at p h k l) = p

at-ends : {S : Symbols} {rank : ℕ → ℕ} {R : Tm → Tm → Type 0} {Low : Ty → Tm → Type 0} {s : ℕ} {t : Tm} → ComputableAt S rank R Low s t → Ends R t
at-ends (computable_at p h k l) = ends (λ u r. at-ends (h u r))

at-step : {S : Symbols} {rank : ℕ → ℕ} {R : Tm → Tm → Type 0} {Low : Ty → Tm → Type 0} {s : ℕ} {t : Tm} (u : Tm) → ComputableAt S rank R Low s t → R t u → ComputableAt S rank R Low s u
at-step u (computable_at p h k l) r = h u r

pub at_candidate : (S : Symbols) (rank : ℕ → ℕ) (R : Tm → Tm → Type 0) (Low : Ty → Tm → Type 0) (s : ℕ) → Candidate S R (sort s) (ComputableAt S rank R Low s)
at_candidate S rank R Low s = record {
  typed = λ t c. at-typed c;
  ends = λ t c. at-ends c;
  step = λ t u c r. at-step u c r;
  neutral = λ t p n h. computable_at p h (λ f i r ts u e. absurd (neutral_spine f ts t n e)) (λ f i a ts u e. absurd (neutral_spine f ts t n e));
}

-- a variable has no reducts
pub still_free : {S : Symbols} {R : Tm → Tm → Type 0} → IsRoot S R → (x : ℕ) (a : Ty) (u : Tm) → StepOver R (free x a) u → ⊥
still_free root x a u (over_root r) = let (f, e) = root.headed (free x a) u r in absurd (cc)

pub candidate_free : {S : Symbols} {R : Tm → Tm → Type 0} {a : Ty} {P : Tm → Type 0} → IsRoot S R → Candidate S (StepOver R) a P → SortsBelow S.sorts a → (x : ℕ) → P (free x a)
candidate_free {a = a} root c known x = c.neutral (free x a) (typed_free known) tt (λ u r. absurd (still_free root x a u r))

pub ends-function : {R : Tm → Tm → Type 0} (t u : Tm) → Ends (StepOver R) (app t u) → Ends (StepOver R) t
ends-function t u e = ends-simulated (λ v. app v u) (λ v w s. over_function s) (app t u) t refl e

pub ends-opened : {S : Symbols} {R : Tm → Tm → Type 0} → IsRoot S R → (x : ℕ) (a : Ty) (t : Tm) → Ends (StepOver R) (opened (free x a) t) → Ends (StepOver R) t
ends-opened root x a t e = ends-simulated (opened (free x a)) (λ v w s. over-opened root.kept (free x a) tt s) (opened (free x a) t) t refl e

-- The steps of a neutral term with an argument.
neutral_step : {S : Symbols} {R : Tm → Tm → Type 0} → IsRoot S R → (Q : Tm → Type 0) (t u : Tm) → IsNeutral t → ((t' : Tm) → StepOver R t t' → Q (app t' u)) → ((u' : Tm) → StepOver R u u' → Q (app t u'))
    → (v : Tm) → StepOver R (app t u) v → Q v
neutral_step root Q t u n h k v (over_root r) = let (f, e) = root.headed (app t u) v r in absurd (neutral_fun f t n e)
neutral_step root Q t u n h k v (over_beta e) = absurd n
neutral_step root Q t u n h k v (over_function {t' = t'} s) = h t' s
neutral_step root Q t u n h k v (over_argument {u' = u'} s) = k u' s

neutral_app : {S : Symbols} {R : Tm → Tm → Type 0} {a b : Ty} {P Q : Tm → Type 0} → IsRoot S R → Candidate S (StepOver R) a P → Candidate S (StepOver R) b Q
    → (t : Tm) → Typed S [] [] t (a ⇒ b) → IsNeutral t → ((t' : Tm) → StepOver R t t' → Takes S a b P Q t') → (u : Tm) → P u → Ends (StepOver R) u → Q (app t u)
neutral_app {Q = Q} root c d t p n h u q (ends k) =
    d.neutral (app t u) (typed_app p (c.typed u q)) (neutral_more t n)
    (neutral_step root Q t u n (λ t' s. (h t' s).1 u q) (λ u' s. neutral_app root c d t p n h u' (c.step u u' q s) (k u' s)))

pub arrow_candidate : {S : Symbols} {R : Tm → Tm → Type 0} {a b : Ty} {P Q : Tm → Type 0} → IsRoot S R → SortsBelow S.sorts a → Candidate S (StepOver R) a P → Candidate S (StepOver R) b Q
    → Candidate S (StepOver R) (a ⇒ b) (Takes S a b P Q)
arrow_candidate {S = S} {a = a} {b = b} root known c d = record {
  typed = λ t p. p.0;
  ends = λ t p. ends-function t (free 0 a) (d.ends (app t (free 0 a)) (p.1 (free 0 a) (candidate_free root c known 0)));
  step = λ t u p s. (over-typed S root.typed [] (a ⇒ b) s p.0, λ v q. d.step (app t v) (app u v) (p.1 v q) (over_function s));
  neutral = λ t p n h. (p, λ u q. neutral_app root c d t p n h u q (c.ends u q));
}

-- The steps of an abstraction.
pub abstraction_step : {S : Symbols} {R : Tm → Tm → Type 0} → IsRoot S R → (Q : Tm → Type 0) (a : Ty) (t : Tm) → ((t' : Tm) → StepOver R t t' → Q (lam a t')) → (v : Tm) → StepOver R (lam a t) v → Q v
abstraction_step root Q a t h v (over_root r) = let (f, e) = root.headed (lam a t) v r in absurd (cc)
abstraction_step root Q a t h v (over_body {t' = t'} s) = h t' s

-- The steps of an abstraction with an argument.
redex_step : {S : Symbols} {R : Tm → Tm → Type 0} → IsRoot S R → (Q : Tm → Type 0) (a : Ty) (t u : Tm) → Q (opened u t) → ((t' : Tm) → StepOver R t t' → Q (app (lam a t') u)) → ((u' : Tm) → StepOver R u u' → Q (app (lam a t) u'))
    → (v : Tm) → StepOver R (app (lam a t) u) v → Q v
redex_step root Q a t u q h k v (over_root r) = let (f, e) = root.headed (app (lam a t) u) v r in absurd (cc)
redex_step root Q a t u q h k v (over_beta e) = subst Q (sym e) q
redex_step root Q a t u q h k v (over_function {t' = w} s) = abstraction_step root (λ w. Q (app w u)) a t h w s
redex_step root Q a t u q h k v (over_argument {u' = u'} s) = k u' s

redex_argument : {S : Symbols} {R : Tm → Tm → Type 0} {a b : Ty} {P Q : Tm → Type 0} → IsRoot S R → Candidate S (StepOver R) a P → Candidate S (StepOver R) b Q
    → (t : Tm) → Typed S [] [] (lam a t) (a ⇒ b) → ((u : Tm) → P u → Q (opened u t)) → ((t' : Tm) → StepOver R t t' → (u : Tm) → P u → Q (app (lam a t') u))
    → (u : Tm) → P u → Ends (StepOver R) u → Q (app (lam a t) u)
redex_argument {a = a} {Q = Q} root c d t p h k u q (ends e) =
    d.neutral (app (lam a t) u) (typed_app p (c.typed u q)) tt
    (redex_step root Q a t u (h u q) (λ t' s. k t' s u q) (λ u' s. redex_argument root c d t p h k u' (c.step u u' q s) (e u' s)))

redex : {S : Symbols} {R : Tm → Tm → Type 0} {a b : Ty} {P Q : Tm → Type 0} → IsRoot S R → Candidate S (StepOver R) a P → Candidate S (StepOver R) b Q
    → (t : Tm) → Typed S [] [] (lam a t) (a ⇒ b) → ((u : Tm) → P u → Q (opened u t)) → Ends (StepOver R) t → (u : Tm) → P u → Q (app (lam a t) u)
redex {S = S} {a = a} {b = b} root c d t p h (ends e) u q =
    redex_argument root c d t p h (λ t' s. redex root c d t' (over-typed S root.typed [] (a ⇒ b) (over_body s) p) (λ v w. d.step (opened v t) (opened v t') (h v w) (over-opened root.kept v (typed_term v (c.typed v w)) s)) (e t' s))
    u q (c.ends u q)

-- an abstraction takes P to Q if its instances do
pub takes_abstraction : {S : Symbols} {R : Tm → Tm → Type 0} {a b : Ty} {P Q : Tm → Type 0} → IsRoot S R → SortsBelow S.sorts a → Candidate S (StepOver R) a P → Candidate S (StepOver R) b Q
    → (t : Tm) → Typed S [] [] (lam a t) (a ⇒ b) → ((u : Tm) → P u → Q (opened u t)) → Takes S a b P Q (lam a t)
takes_abstraction {a = a} root known c d t p h =
    (p, λ u q. redex root c d t p h (ends-opened root 0 a t (d.ends (opened (free 0 a) t) (h (free 0 a) (candidate_free root c known 0)))) u q)
