-- What stands in a redex and in the rules that match it.
use Rattle.std.proofs.Common.{◌≡◌, ℕ, zero, suc, ◌+◌, ◌≤◌, ◌<◌, ◌^◌, inl, inr, List, [], ◌∷◌, length, Option, Some, None, slice_get, refl, ap, sym, ◌∙◌, subst, arith, get_or}
use Rattle.std.specs.Prelude.{option_map, MatchOption, Result, IfOk}
use Rattle.std.proofs.lemmas.Option.{slice_get_read}
use Rattle.std.specs.declared.alloc.AllocError.{AllocError}
use Rattle.wh_types.specs.Ty.{Ty}
use Rattle.wh_terms.specs.Tree.{Tm, bound, free, fun, meta, lam, app, Tms, none, more, head}
use Rattle.wh_terms.specs.Sight.{IsTerm, LooseBelow, AllLooseBelow, Occurs, OccursIn}
use Rattle.wh_terms.specs.Measures.{size, sizes, nesting, nestings, BoundNumbersBelow, AllBoundNumbersBelow, Manageable, Fits}
use Rattle.wh_terms.specs.Typing.{Symbols, Declared, Typed, AllTyped, typed_bound, typed_free, typed_fun, typed_meta, typed_lam, typed_app, typed_none, typed_more}
use Rattle.wh_terms.specs.Rules.{RewriteRule, IsWellMade}
use Rattle.wh_terms.specs.Value.{Body}
use Rattle.wh_terms.specs.Entries.{bodies, Lists, Covers, CoversAll}
use Rattle.wh_match.specs.Matching.{IsMatch}
use Rattle.wh_terms.specs.Valued.{valued}
use Rattle.wh_terms.specs.Erase.{rewrite_rule, rewrite_rules}
use Rattle.wh_terms.specs.declared.rule.Rule.{Rule}
use Rattle.wh_terms.specs.declared.subst.MetaBody.{MetaBody}
use Rattle.wh_terms.proofs.ValueForm.{value, FitsArities, AllFitArities}
use Rattle.wh_terms.proofs.ValueLaws.{value_is}
use Rattle.wh_terms.proofs.ValuedLaws.{value_of_covered}
use Rattle.wh_terms.proofs.ValueSight.{pattern_term}
use Rattle.wh_terms.proofs.ValueTyping.{typed_count}
use Rattle.wh_terms.proofs.Results.{IfOk-map}
use Rattle.wh_step.specs.Roots.{RuleStep, RootStep, SameHead}
use Rattle.wh_step.specs.Contracta.{IsPlain, IsInstance, IsReady, result_of}
use Rattle.wh_step.specs.declared.redex.Contractum.{Contractum}
use Rattle.wh_step.proofs.RootLaws.{same_rule}
use Rattle.wh_step.proofs.Instances.{left_shut, right_shut}

-- what fits is in range

mutual
  pub nesting-size : (t : Tm) → nesting t ≤ size t
  nesting-size (bound i) = omega arith
  nesting-size (free x a) = omega arith
  nesting-size (fun f) = omega arith
  nesting-size (meta z ts) = omega (arith, nestings-sizes ts)
  nesting-size (lam a t) = omega (arith, nesting-size t)
  nesting-size (app t u) = omega (arith, nesting-size t, nesting-size u)

  nestings-sizes : (ts : Tms) → nestings ts ≤ sizes ts
  nestings-sizes none = omega arith
  nestings-sizes (more t ts) = omega (arith, nesting-size t, nestings-sizes ts)

mutual
  numbers-low : (k n : ℕ) (t : Tm) → LooseBelow k t → k + nesting t ≤ n → BoundNumbersBelow n t
  numbers-low k n (bound i) l h = omega arith
  numbers-low k n (free x a) l h = tt
  numbers-low k n (fun f) l h = tt
  numbers-low k n (meta z ts) l h = all_numbers-low k n ts l (omega arith)
  numbers-low k n (lam a t) l h = numbers-low (k + 1) n t l (omega arith)
  numbers-low k n (app t u) l h = (numbers-low k n t l.0 (omega arith), numbers-low k n u l.1 (omega arith))

  all_numbers-low : (k n : ℕ) (ts : Tms) → AllLooseBelow k ts → k + nestings ts ≤ n → AllBoundNumbersBelow n ts
  all_numbers-low k n none l h = tt
  all_numbers-low k n (more t ts) l h = (numbers-low k n t l.0 (omega arith), all_numbers-low k n ts l.1 (omega arith))

pub manageable_fit : (t : Tm) → Fits t → LooseBelow 0 t → Manageable t
manageable_fit t f l =
    let small : size t ≤ 65536 = f.small in
    let here : nesting t ≤ size t = nesting-size t in
    record { nested = omega arith; numbered = numbers-low 0 (2 ^ 30) t l (omega arith) }

pub manageable_left : (S : Symbols) (r : RewriteRule) → IsWellMade S r → Manageable r.left
manageable_left S r w = manageable_fit r.left w.left_fits (left_shut S r w)

pub manageable_right : (S : Symbols) (r : RewriteRule) → IsWellMade S r → Manageable r.right
manageable_right S r w = manageable_fit r.right w.right_fits (right_shut S r w)

-- parts of a plain term

pub plain_body : (a : Ty) (t : Tm) → IsPlain (lam a t) → IsPlain t
plain_body a t p =
    let here : nesting (lam a t) < 2 ^ 30 = p.in_range.nested in
    record { in_range = record { nested = omega arith; numbered = p.in_range.numbered }; term = p.term }

pub plain_function : (t u : Tm) → IsPlain (app t u) → IsPlain t
plain_function t u p =
    let here : nesting (app t u) < 2 ^ 30 = p.in_range.nested in
    record { in_range = record { nested = omega arith; numbered = p.in_range.numbered.0 }; term = p.term.0 }

pub plain_argument : (t u : Tm) → IsPlain (app t u) → IsPlain u
plain_argument t u p =
    let here : nesting (app t u) < 2 ^ 30 = p.in_range.nested in
    record { in_range = record { nested = omega arith; numbered = p.in_range.numbered.1 }; term = p.term.1 }

-- the quick test

same_head-value : (g : ℕ → Body) (p : Tm) (f : ℕ) → head p ≡ fun f → SameHead p (value g p)
unfolding value
same_head-value g (bound i) f e = absurd (cc)
same_head-value g (free x a) f e = absurd (cc)
same_head-value g (fun c) f e = refl
same_head-value g (meta z ts) f e = absurd (cc)
same_head-value g (lam a t) f e = absurd (cc)
same_head-value g (app t u) f e = same_head-value g t f e

pub no_step_of_other_head : (S : Symbols) (r : RewriteRule) → IsWellMade S r → (t : Tm) → (SameHead r.left t → ⊥) → (v : Tm) → RuleStep r t v → ⊥
no_step_of_other_head S r w t other v (g, left, right) =
    other (subst (SameHead r.left) (sym (value_is left).1) (same_head-value g r.left w.headed.0 w.headed.1))

-- the bodies of a match have as many parameters as their meta-variables are declared with

mutual
  arity_told : {S : Symbols} {M : List Declared} {Γ : List Ty} {t : Tm} {a : Ty} (n : ℕ → ℕ) (z : ℕ) (d : Declared) → Typed S M Γ t a → FitsArities n t → Occurs z t → slice_get M z ≡ Some d
      → n z ≡ length d.args
  arity_told n z d (typed_bound e) f o s = absurd o
  arity_told n z d (typed_free p) f o s = absurd o
  arity_told n z d (typed_fun e) f o s = absurd o
  arity_told {M = M} n z d (typed_meta {z = y} {ts = ts} {d = c} e ps q) f (inl same) s =
      let one : Some c ≡ Some d = sym e ∙ ap (λ x. slice_get M x) same ∙ s in
      let declared : c ≡ d = cc in
      ap n (sym same) ∙ f.0 ∙ typed_count ps ∙ ap (λ b. length b.args) declared
  arity_told n z d (typed_meta e ps q) f (inr o) s = all_arity_told n z d ps f.1 o s
  arity_told n z d (typed_lam p q) f o s = arity_told n z d q f o s
  arity_told n z d (typed_app p q) f (inl o) s = arity_told n z d p f.0 o s
  arity_told n z d (typed_app p q) f (inr o) s = arity_told n z d q f.1 o s

  all_arity_told : {S : Symbols} {M : List Declared} {Γ : List Ty} {ts : Tms} {cs : List Ty} (n : ℕ → ℕ) (z : ℕ) (d : Declared) → AllTyped S M Γ ts cs → AllFitArities n ts → OccursIn z ts → slice_get M z ≡ Some d
      → n z ≡ length d.args
  all_arity_told n z d typed_none f o s = absurd o
  all_arity_told n z d (typed_more p ps) f (inl o) s = arity_told n z d p f.0 o s
  all_arity_told n z d (typed_more p ps) f (inr o) s = all_arity_told n z d ps f.1 o s

mutual
  covers_typed : {S : Symbols} {M : List Declared} {Γ : List Ty} {t : Tm} {a : Ty} (bs : List MetaBody) → Typed S M Γ t a
      → ((z : ℕ) (d : Declared) → Occurs z t → slice_get M z ≡ Some d → Lists bs z × ((bodies bs z).arity ≡ length d.args)) → Covers bs t
  covers_typed bs (typed_bound e) h = tt
  covers_typed bs (typed_free p) h = tt
  covers_typed bs (typed_fun e) h = tt
  covers_typed bs (typed_meta {z = z} {d = d} e ps q) h = let (listed, counted) = h z d (inl refl) e in (listed, counted ∙ sym (typed_count ps), covers_all_typed bs ps (λ y c o s. h y c (inr o) s))
  covers_typed bs (typed_lam p q) h = covers_typed bs q h
  covers_typed bs (typed_app p q) h = (covers_typed bs p (λ z d o s. h z d (inl o) s), covers_typed bs q (λ z d o s. h z d (inr o) s))

  covers_all_typed : {S : Symbols} {M : List Declared} {Γ : List Ty} {ts : Tms} {cs : List Ty} (bs : List MetaBody) → AllTyped S M Γ ts cs
      → ((z : ℕ) (d : Declared) → OccursIn z ts → slice_get M z ≡ Some d → Lists bs z × ((bodies bs z).arity ≡ length d.args)) → CoversAll bs ts
  covers_all_typed bs typed_none h = tt
  covers_all_typed bs (typed_more p ps) h = (covers_typed bs p (λ z d o s. h z d (inl o) s), covers_all_typed bs ps (λ z d o s. h z d (inr o) s))

-- what a match of a well-made rule's left side is good for

module _ (S : Symbols) (r : RewriteRule) (w : IsWellMade S r) (t : Tm) (bs : List MetaBody) (m : IsMatch r.left t bs) where
  pub match_covers : Covers bs r.right
  match_covers =
      covers_typed bs w.typed.2 (λ z d o s.
      let here : Occurs z r.left = w.known z o in
      ((m.listed z).1 here, arity_told (λ y. (bodies bs y).arity) z d w.typed.1 (value_is m.value).0 here s))

  pub match_instance : IsPlain t → IsInstance r.right bs
  match_instance p = record {
    in_range = manageable_right S r w;
    covered = match_covers;
    bodies_in_range = m.in_range p.in_range;
    terms = λ z o. pattern_term 0 (bodies bs) r.left w.pattern_left (subst IsTerm (value_is m.value).1 p.term) z (w.known z o);
  }

  pub match_step : RuleStep r t (valued 0 (bodies bs) r.right)
  match_step = (bodies bs, m.value, value_of_covered bs r.right (valued 0 (bodies bs) r.right) match_covers refl)

-- the rules of a slice

rule_get : (rules : List Rule) (k : ℕ) → slice_get (rewrite_rules rules) k ≡ option_map rewrite_rule (slice_get rules k)
rule_get [] k = refl
rule_get (r ∷ rules) zero = refl
rule_get (r ∷ rules) (suc k) = rule_get rules k

pub rule_here : (rules : List Rule) (k : ℕ) (r : Rule) → slice_get rules k ≡ Some r → slice_get (rewrite_rules rules) k ≡ Some (rewrite_rule r)
rule_here rules k r e = rule_get rules k ∙ ap (option_map rewrite_rule) e

pub no_rule_here : (rules : List Rule) (k : ℕ) → length rules ≤ k → (r : RewriteRule) → slice_get (rewrite_rules rules) k ≡ Some r → ⊥
no_rule_here [] k beyond r e = absurd (cc)
no_rule_here (s ∷ rules) zero beyond r e = omega arith
no_rule_here (s ∷ rules) (suc k) beyond r e = no_rule_here rules k (omega arith) r e

-- what a search for a step at the root tells
abbrev pub Tells : Option Contractum → (Tm → Type 0) → Type 0
Tells found P = MatchOption found ((v : Tm) → P v → ⊥) (λ c. IsReady c × P (result_of c))

tells_same : (found : Option Contractum) (P Q : Tm → Type 0) → ((v : Tm) → P v → Q v) → ((v : Tm) → Q v → P v) → Tells found P → Tells found Q
tells_same None P Q there back told = λ v q. told v (back v q)
tells_same (Some c) P Q there back told = (told.0, there (result_of c) told.1)

pub told_by_rule : (rules : List Rule) (k : ℕ) (r : Rule) (number : Option ℕ) (t : Tm) (found : Result (Option Contractum) AllocError) → slice_get (rewrite_rules rules) k ≡ Some (rewrite_rule r) → number ≡ Some k
    → IfOk found (λ o. Tells o (RuleStep (rewrite_rule r) t)) → IfOk found (λ o. Tells o (RootStep (rewrite_rules rules) number t))
told_by_rule rules k r number t found here is told =
    subst (λ n. IfOk found (λ o. Tells o (RootStep (rewrite_rules rules) n t))) (sym is)
    (IfOk-map (λ o. Tells o (RuleStep (rewrite_rule r) t)) (λ o. Tells o (RootStep (rewrite_rules rules) (Some k) t)) found
    (λ o. tells_same o (RuleStep (rewrite_rule r) t) (RootStep (rewrite_rules rules) (Some k) t) (λ v s. (rewrite_rule r, here, s)) (λ v s. the_rule v s)) told)
  where
    the_rule : (v : Tm) → RootStep (rewrite_rules rules) (Some k) t v → RuleStep (rewrite_rule r) t v
    the_rule v (q, e, s) = subst (λ p. RuleStep p t v) (same_rule (rewrite_rules rules) k (rewrite_rule r) q here e) s

pub no_step_by_rule : (rules : List Rule) (k : ℕ) (number : Option ℕ) (t : Tm) → length rules ≤ k → number ≡ Some k → (v : Tm) → RootStep (rewrite_rules rules) number t v → ⊥
no_step_by_rule rules k number t beyond is v step =
    let (r, e, s) = subst (λ n. RootStep (rewrite_rules rules) n t v) is step in
    no_rule_here rules k beyond r e

pub rules_counted : (rules : List Rule) → length (rewrite_rules rules) ≡ length rules
rules_counted [] = refl
rules_counted (r ∷ rules) = ap suc (rules_counted rules)

-- the rule that a walk over the rules has come to
pub rule_now : (rules : List Rule) (i : ℕ) (r : Rule) → i < length rules → r ≡ get_or rules i r → slice_get (rewrite_rules rules) i ≡ Some (rewrite_rule r)
rule_now rules i r within is = rule_here rules i r (slice_get_read rules (length rules) i r refl within is)
