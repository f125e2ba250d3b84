-- Steps and direct subterms together end where steps do.
use Rattle.std.proofs.Common.{inl, inr}
use Rattle.wh_terms.specs.Tree.{Tm, bound, free, fun, meta, lam, app}
use Rattle.wh_step_laws.specs.Ends.{Ends, ends}
use Rattle.wh_step_laws.specs.DirectSubterms.{HasPart, function_part, argument_part, StepOrPart}

-- a relation that passes to the function and to the argument of an application
pub record PassesToParts (R : Tm → Tm → Type 0) : Type 0 where
  pub function : (t t' u : Tm) → R t t' → R (app t u) (app t' u)
  pub argument : (t u u' : Tm) → R u u' → R (app t u) (app t u')

-- u is t, or a part of t in any depth; no binder is crossed
pub data PartOf : Tm → Tm → Type 0 where
  the_whole : {t : Tm} → PartOf t t
  in_the_function : {t u v : Tm} → PartOf t v → PartOf (app t u) v
  in_the_argument : {t u v : Tm} → PartOf u v → PartOf (app t u) v

part_function : {t u v : Tm} → PartOf t (app u v) → PartOf t u
part_function the_whole = in_the_function the_whole
part_function (in_the_function p) = in_the_function (part_function p)
part_function (in_the_argument p) = in_the_argument (part_function p)

part_argument : {t u v : Tm} → PartOf t (app u v) → PartOf t v
part_argument the_whole = in_the_argument the_whole
part_argument (in_the_function p) = in_the_function (part_argument p)
part_argument (in_the_argument p) = in_the_argument (part_argument p)

-- a step of a part is one of the whole, with the result as a part
part_step : {R : Tm → Tm → Type 0} {t u v : Tm} → PassesToParts R → PartOf t u → R u v → (w : Tm) × R t w × PartOf w v
part_step {v = v} c the_whole r = (v, r, the_whole)
part_step c (in_the_function {t = t} {u = u} p) r = let (w, s, q) = part_step c p r in (app w u, c.function t w u s, in_the_function q)
part_step c (in_the_argument {t = t} {u = u} p) r = let (w, s, q) = part_step c p r in (app t w, c.argument t u w s, in_the_argument q)

-- all parts of the reducts of t end
abbrev pub ReductsEnd : (Tm → Tm → Type 0) → Tm → Type 0
ReductsEnd R t = (w : Tm) → R t w → (v : Tm) → PartOf w v → Ends (StepOrPart R) v

part_steps : {R : Tm → Tm → Type 0} {t u : Tm} → PassesToParts R → ReductsEnd R t → PartOf t u → (v : Tm) → R u v → Ends (StepOrPart R) v
part_steps c h p v r = let (w, s, q) = part_step c p r in h w s v q

no_parts : {R : Tm → Tm → Type 0} (u : Tm) → ((v : Tm) → R u v → Ends (StepOrPart R) v) → ((v : Tm) → HasPart u v → ⊥) → Ends (StepOrPart R) u
no_parts {R = R} u h none = ends cases
  where
    cases : (v : Tm) → StepOrPart R u v → Ends (StepOrPart R) v
    cases v (inl r) = h v r
    cases v (inr p) = absurd (none v p)

two_parts : {R : Tm → Tm → Type 0} (t u : Tm) → ((v : Tm) → R (app t u) v → Ends (StepOrPart R) v) → Ends (StepOrPart R) t → Ends (StepOrPart R) u → Ends (StepOrPart R) (app t u)
two_parts {R = R} t u h e d = ends cases
  where
    cases : (v : Tm) → StepOrPart R (app t u) v → Ends (StepOrPart R) v
    cases v (inl r) = h v r
    cases v (inr function_part) = e
    cases v (inr argument_part) = d

-- Within the induction on the steps of t: by recursion on its part.
part_ends : {R : Tm → Tm → Type 0} (t : Tm) → PassesToParts R → ReductsEnd R t → (u : Tm) → PartOf t u → Ends (StepOrPart R) u
part_ends t c h (bound i) p = no_parts (bound i) (part_steps c h p) (λ v q. elim q [ ])
part_ends t c h (free x a) p = no_parts (free x a) (part_steps c h p) (λ v q. elim q [ ])
part_ends t c h (fun f) p = no_parts (fun f) (part_steps c h p) (λ v q. elim q [ ])
part_ends t c h (meta z ts) p = no_parts (meta z ts) (part_steps c h p) (λ v q. elim q [ ])
part_ends t c h (lam a u) p = no_parts (lam a u) (part_steps c h p) (λ v q. elim q [ ])
part_ends t c h (app u v) p = two_parts u v (part_steps c h p) (part_ends t c h u (part_function p)) (part_ends t c h v (part_argument p))

all_parts_end : {R : Tm → Tm → Type 0} {t : Tm} → PassesToParts R → Ends R t → (u : Tm) → PartOf t u → Ends (StepOrPart R) u
all_parts_end {t = t} c (ends h) u p = part_ends t c (λ w r. all_parts_end c (h w r)) u p

-- where steps end, steps and direct subterms together do
pub ends-parts : {R : Tm → Tm → Type 0} (t : Tm) → PassesToParts R → Ends R t → Ends (StepOrPart R) t
ends-parts t c e = all_parts_end c e t the_whole
