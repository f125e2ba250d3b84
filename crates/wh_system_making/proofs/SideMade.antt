-- What the tests of a rule's sides say of the trees: no free variables, a head, a pattern, and which meta-variables occur.
use Rattle.std.proofs.Common.{◌≡◌, ℕ, suc, ◌+◌, ◌<◌, inl, inr, ⊎_elim, Bool, true, false, not, ◌&&◌, ◌||◌, List, [], ◌∷◌, length, Option, Some, None, is_some, unwrap_or, refl, ap, ap₂, sym, ◌∙◌, subst, arith, true≢false}
use Rattle.std.specs.Prelude.{◌==◌}
use Rattle.std.proofs.lemmas.Bool.{eqb-false}
use Rattle.wh_terms.specs.Tree.{Tm, bound, free, fun, meta, lam, app, Tms, none as no_tms, more as more_tms, head}
use Rattle.wh_terms.specs.Sight.{NoFree, AllNoFree, Occurs, OccursIn}
use Rattle.wh_terms.specs.Pattern.{AllBoundBelow, Misses, Distinct, IsPatternUnder, IsPatternSpine}
use Rattle.wh_text.specs.RawTree.{Binder, named_binder, RTm, RTms}
use Rattle.wh_system_parts.specs.Naming.{Scope, number_of, is_declared, binder_number}
use Rattle.wh_system_parts.specs.RuleTests.{open_tests, opens_tests, head_symbol, bound_number, is_new, are_distinct, is_pattern_head, pattern_tests, patterns_tests, is_plain_meta, occurs, any_occurs, new_meta_tests, new_metas_tests}
use Rattle.wh_system_parts.proofs.OptionParts.{some_same, none_some}
use Rattle.wh_system_making.proofs.PassedLaws.{Passed, passed_first, passed_rest, passed_parts, and_true, and_false, or_true, not_false, not_true}
use Rattle.wh_system_making.proofs.NameLaws.{position_within, alone}
use Rattle.wh_system_making.proofs.StandsLaws.{Stands, by_binder, by_meta, by_fun, by_number, by_variable, by_application, by_lam, by_spine, AllStand, no_more, and_more, SpineStands, at_end, applied}

-- no free variable

mutual
  pub closed_made : {s : Scope} {bs : List Binder} {t : RTm} {u : Tm} → Stands s bs t u → Passed (open_tests t) → NoFree u
  closed_made (by_binder e) p = tt
  closed_made (by_meta e f) p = tt
  closed_made (by_fun e f g) p = tt
  closed_made (by_number e) p = tt
  closed_made by_variable p = true≢false (passed_first p)
  closed_made (by_application e ts) p = all_closed ts p
  closed_made (by_lam t) p = closed_made t p
  closed_made (by_spine {h = h} {ts = ts} h_stands ts_stand) p =
      let parts = passed_parts (open_tests h) (opens_tests ts) p in
      spine_closed ts_stand (closed_made h_stands parts.0) parts.1

  all_closed : {s : Scope} {bs : List Binder} {ts : RTms} {us : Tms} → AllStand s bs ts us → Passed (opens_tests ts) → AllNoFree us
  all_closed no_more p = tt
  all_closed (and_more {t = t} {ts = ts} t_stands rest) p =
      let parts = passed_parts (open_tests t) (opens_tests ts) p in
      (closed_made t_stands parts.0, all_closed rest parts.1)

  spine_closed : {s : Scope} {bs : List Binder} {u v : Tm} {ts : RTms} → SpineStands s bs u ts v → NoFree u → Passed (opens_tests ts) → NoFree v
  spine_closed (at_end e) closed p = subst NoFree e closed
  spine_closed (applied {t = t} {ts = ts} t_stands rest) closed p =
      let parts = passed_parts (open_tests t) (opens_tests ts) p in
      spine_closed rest (closed, closed_made t_stands parts.0) parts.1

-- the head

spine_head : {s : Scope} {bs : List Binder} {u v : Tm} {ts : RTms} → SpineStands s bs u ts v → head v ≡ head u
spine_head (at_end e) = ap head (sym e)
spine_head (applied t rest) = spine_head rest

pub head_made : {s : Scope} {t : RTm} {u : Tm} (f : ℕ) → Stands s [] t u → head_symbol s t ≡ Some f → head u ≡ fun f
head_made f (by_binder e) h = absurd (none_some e)
head_made {s} f (by_meta {n = n} e g) h = absurd (none_some (rw g at h))
head_made f (by_fun {f = k} e g i) h = ap fun (some_same (rw (g, i) at h))
head_made f (by_number e) h = absurd (none_some e)
head_made f by_variable h = absurd (none_some h)
head_made f (by_application e ts) h = absurd (none_some h)
head_made f (by_lam t) h = absurd (none_some h)
head_made f (by_spine h_stands ts_stand) h = spine_head ts_stand ∙ head_made f h_stands h

-- patterns

abbrev AllMissed : List ℕ → Tms → Type 0
AllMissed [] us = Unit {0}
AllMissed (j ∷ seen) us = Misses j us × AllMissed seen us

none_missed : (seen : List ℕ) → AllMissed seen no_tms
none_missed [] = tt
none_missed (j ∷ seen) = (tt, none_missed seen)

new_missed : (i : ℕ) (seen : List ℕ) (us : Tms) → is_new (Some i) seen ≡ true → AllMissed seen us → AllMissed seen (more_tms (bound i) us)
new_missed i [] us new so_far = tt
new_missed i (j ∷ seen) us new so_far =
    let both = and_true (not (i == j)) (is_new (Some i) seen) new in
    let other : i ≡ j → ⊥ = eqb-false i j (not_true _ both.0) in
    ((λ e. other (sym e), so_far.0), new_missed i seen us both.1 so_far.1)

-- an argument that is new is a bound variable
argument_bound : {s : Scope} {bs : List Binder} {t : RTm} {u : Tm} (seen : List ℕ) → Stands s bs t u → is_new (bound_number bs t) seen ≡ true
    → (i : ℕ) × (bound_number bs t ≡ Some i) × (bound i ≡ u) × (i < length bs)
argument_bound seen (by_binder {bs = bs} {i = i} e) new = (i, e, refl, position_within _ bs i e)
argument_bound seen (by_meta e f) new = absurd (true≢false (sym new ∙ ap (λ o. is_new o seen) e))
argument_bound seen (by_fun e f g) new = absurd (true≢false (sym new ∙ ap (λ o. is_new o seen) e))
argument_bound seen (by_number {bs = bs} {i = i} e) new = (i, e, refl, position_within _ bs i e)
argument_bound seen by_variable new = absurd (true≢false (sym new))
argument_bound seen (by_application e ts) new = absurd (true≢false (sym new))
argument_bound seen (by_lam t) new = absurd (true≢false (sym new))
argument_bound seen (by_spine h ts) new = absurd (true≢false (sym new))

distinct_made : {s : Scope} {bs : List Binder} {ts : RTms} {us : Tms} (seen : List ℕ) → AllStand s bs ts us → are_distinct bs seen ts ≡ true
    → AllBoundBelow (length bs) us × Distinct us × AllMissed seen us
distinct_made seen no_more e = (tt, tt, none_missed seen)
distinct_made seen (and_more {bs = bs} {t = t} {ts = ts} {us = us} t_stands rest) e =
    let both = and_true (is_new (bound_number bs t) seen) (are_distinct bs (unwrap_or (bound_number bs t) 0 ∷ seen) ts) e in
    let here = argument_bound seen t_stands both.0 in
    let there = distinct_made (here.0 ∷ seen) rest (sym (ap (λ o. are_distinct bs (unwrap_or o 0 ∷ seen) ts) here.1) ∙ both.1) in
    subst (λ u. AllBoundBelow (length bs) (more_tms u us) × Distinct (more_tms u us) × AllMissed seen (more_tms u us)) here.2
    ((here.3, there.0), (there.2.0, there.1), new_missed here.0 seen us (sym (ap (λ o. is_new o seen) here.1) ∙ both.0) there.2.1)

spine_pattern : (k : ℕ) (v : Tm) → IsPatternSpine k v → IsPatternUnder k v
spine_pattern k (bound i) p = p
spine_pattern k (fun f) p = p
spine_pattern k (app t u) p = p
spine_pattern k (free x a) p = p
spine_pattern k (meta z ts) p = absurd p
spine_pattern k (lam a t) p = absurd p

front_pattern : {s : Scope} {bs : List Binder} {t : RTm} {u : Tm} → Stands s bs t u → is_pattern_head s bs t ≡ true → IsPatternSpine (length bs) u
front_pattern (by_binder {bs = bs} {i = i} e) h = position_within _ bs i e
front_pattern {s} (by_meta {n = n} e f) h =
    absurd (true≢false (sym (ap is_some f) ∙ not_true _ (or_true _ (not (is_declared s.metas n)) h (ap is_some e))))
front_pattern (by_fun e f g) h = tt
front_pattern (by_number {bs = bs} {i = i} e) h = position_within _ bs i e
front_pattern by_variable h = absurd (true≢false (sym h))
front_pattern (by_application e ts) h = absurd (true≢false (sym h))
front_pattern (by_lam t) h = absurd (true≢false (sym h))
front_pattern (by_spine t ts) h = absurd (true≢false (sym h))

mutual
  pub pattern_made : {s : Scope} {bs : List Binder} {t : RTm} {u : Tm} → Stands s bs t u → Passed (pattern_tests s bs t) → IsPatternUnder (length bs) u
  pattern_made (by_binder {bs = bs} {i = i} e) p = position_within _ bs i e
  pattern_made (by_meta e f) p = (tt, tt)
  pattern_made (by_fun e f g) p = tt
  pattern_made (by_number {bs = bs} {i = i} e) p = position_within _ bs i e
  pattern_made by_variable p = absurd (true≢false (passed_first p))
  pattern_made (by_application e ts) p = let made = distinct_made [] ts (not_false _ (passed_first p)) in (made.0, made.1)
  pattern_made (by_lam {bs = bs} {x = x} {u = u} t) p =
      let deeper : suc (length bs) ≡ length bs + 1 = omega arith in
      subst (λ k. IsPatternUnder k u) deeper (pattern_made t p)
  pattern_made (by_spine {bs = bs} {v = v} h ts) p =
      spine_pattern (length bs) v (arguments_patterns ts (front_pattern h (not_false _ (passed_first p))) (passed_rest p))

  arguments_patterns : {s : Scope} {bs : List Binder} {u v : Tm} {ts : RTms} → SpineStands s bs u ts v → IsPatternSpine (length bs) u → Passed (patterns_tests s bs ts)
      → IsPatternSpine (length bs) v
  arguments_patterns {bs = bs} (at_end e) front p = subst (IsPatternSpine (length bs)) e front
  arguments_patterns {s} (applied {bs = bs} {t = t} {ts = ts} t_stands rest) front p =
      let parts = passed_parts (pattern_tests s bs t) (patterns_tests s bs ts) p in
      arguments_patterns rest (front, pattern_made t_stands parts.0) parts.1

-- meta-variables that occur

-- a name that a binder has, or that no meta-variable has, is no plain meta-variable
plain_by_binder : (s : Scope) (bs : List Binder) (n : List ℕ) (i : ℕ) → binder_number bs (named_binder n) ≡ Some i → is_plain_meta s bs n ≡ false
plain_by_binder s bs n i e = ap (λ o. not (is_some o) && is_declared s.metas n) e

plain_by_meta : (s : Scope) (bs : List Binder) (n : List ℕ) (o : Option ℕ) → binder_number bs (named_binder n) ≡ None → number_of s.metas n ≡ o → is_plain_meta s bs n ≡ is_some o
plain_by_meta s bs n o e f = ap₂ (λ o q. not (is_some o) && is_some q) e f

same_number : (s : Scope) (name n : List ℕ) (z y : ℕ) → number_of s.metas name ≡ Some z → number_of s.metas n ≡ Some y → is_declared (name ∷ []) n ≡ true → y ≡ z
same_number s name n z y e f same = some_same (sym f ∙ ap (number_of s.metas) (sym (alone n name same)) ∙ e)

either : {C : Type 0} (a b : Bool) → (a || b) ≡ true → (a ≡ true → C) → (b ≡ true → C) → C
either true b e f g = f refl
either false b e f g = g e

mutual
  pub occurs_made : {s : Scope} {bs : List Binder} {t : RTm} {u : Tm} (name : List ℕ) (z : ℕ) → number_of s.metas name ≡ Some z → Stands s bs t u → occurs s bs name t ≡ true → Occurs z u
  occurs_made {s} name z e (by_binder {bs = bs} {n = n} {i = i} f) h =
      absurd (true≢false (sym (and_true (is_plain_meta s bs n) (is_declared (name ∷ []) n) h).0 ∙ plain_by_binder s bs n i f))
  occurs_made {s} name z e (by_meta {bs = bs} {n = n} {z = y} f g) h =
      inl (same_number s name n z y e g (and_true (is_plain_meta s bs n) (is_declared (name ∷ []) n) h).1)
  occurs_made {s} name z e (by_fun {bs = bs} {n = n} f g i) h =
      absurd (true≢false (sym (and_true (is_plain_meta s bs n) (is_declared (name ∷ []) n) h).0 ∙ plain_by_meta s bs n None f g))
  occurs_made name z e (by_number f) h = absurd (true≢false (sym h))
  occurs_made name z e by_variable h = absurd (true≢false (sym h))
  occurs_made {s} name z e (by_application {bs = bs} {n = n} {z = y} {ts = ts} {us = us} f ts_stand) h =
      either (is_declared (name ∷ []) n) (any_occurs s bs name ts) h (λ b. inl (same_number s name n z y e f b)) (λ b. inr (any_occur name z e ts_stand b))
  occurs_made name z e (by_lam t) h = occurs_made name z e t h
  occurs_made {s} name z e (by_spine {bs = bs} {h = t} {ts = ts} {u = u} {v = v} t_stands ts_stand) h =
      either (occurs s bs name t) (any_occurs s bs name ts) h (λ b. front_occurs z ts_stand (occurs_made name z e t_stands b)) (λ b. spine_occurs name z e ts_stand b)

  any_occur : {s : Scope} {bs : List Binder} {ts : RTms} {us : Tms} (name : List ℕ) (z : ℕ) → number_of s.metas name ≡ Some z → AllStand s bs ts us → any_occurs s bs name ts ≡ true → OccursIn z us
  any_occur name z e no_more h = absurd (true≢false (sym h))
  any_occur {s} name z e (and_more {bs = bs} {t = t} {ts = ts} {u = u} {us = us} t_stands rest) h =
      either (occurs s bs name t) (any_occurs s bs name ts) h (λ b. inl (occurs_made name z e t_stands b)) (λ b. inr (any_occur name z e rest b))

  front_occurs : {s : Scope} {bs : List Binder} {u v : Tm} {ts : RTms} (z : ℕ) → SpineStands s bs u ts v → Occurs z u → Occurs z v
  front_occurs z (at_end e) h = subst (Occurs z) e h
  front_occurs z (applied t rest) h = front_occurs z rest (inl h)

  spine_occurs : {s : Scope} {bs : List Binder} {u v : Tm} {ts : RTms} (name : List ℕ) (z : ℕ) → number_of s.metas name ≡ Some z → SpineStands s bs u ts v → any_occurs s bs name ts ≡ true → Occurs z v
  spine_occurs name z e (at_end f) h = absurd (true≢false (sym h))
  spine_occurs {s} name z e (applied {bs = bs} {v = v} {t = t} {ts = ts} t_stands rest) h =
      either (occurs s bs name t) (any_occurs s bs name ts) h (λ b. front_occurs z rest (inr (occurs_made name z e t_stands b))) (λ b. spine_occurs name z e rest b)

-- a meta-variable that occurs in the tree has a name that occurs in the left side
pub record IsKnown (s : Scope) (left : RTm) (z : ℕ) : Type 0 where
  pub name : List ℕ
  pub is_named : number_of s.metas name ≡ Some z
  pub is_left : occurs s [] name left ≡ true

known_by : (s : Scope) (left : RTm) (n : List ℕ) (y z : ℕ) → number_of s.metas n ≡ Some y → not (occurs s [] n left) ≡ false → y ≡ z → IsKnown s left z
known_by s left n y z e h same = record { name = n; is_named = e ∙ ap (λ m. Some m) same; is_left = not_false _ h }

mutual
  pub known_made : {s : Scope} {bs : List Binder} {t : RTm} {u : Tm} (left : RTm) (z : ℕ) → Stands s bs t u → Passed (new_meta_tests s left bs t) → Occurs z u → IsKnown s left z
  known_made left z (by_binder e) p h = absurd h
  known_made {s} left z (by_meta {bs = bs} {n = n} {z = y} e f) p (inl same) =
      known_by s left n y z f (and_false (is_plain_meta s bs n) _ (passed_first p) (plain_by_meta s bs n (Some y) e f)) same
  known_made left z (by_meta e f) p (inr h) = absurd h
  known_made left z (by_fun e f g) p h = absurd h
  known_made left z (by_number e) p h = absurd h
  known_made left z by_variable p h = absurd h
  known_made {s} left z (by_application {n = n} {z = y} e ts) p (inl same) = known_by s left n y z e (passed_first p) same
  known_made left z (by_application e ts) p (inr h) = all_known left z ts (passed_rest p) h
  known_made left z (by_lam t) p h = known_made left z t p h
  known_made {s} left z (by_spine {bs = bs} {h = t} {ts = ts} t_stands ts_stand) p h =
      let parts = passed_parts (new_meta_tests s left bs t) (new_metas_tests s left bs ts) p in
      spine_known left z ts_stand (λ front. known_made left z t_stands parts.0 front) parts.1 h

  all_known : {s : Scope} {bs : List Binder} {ts : RTms} {us : Tms} (left : RTm) (z : ℕ) → AllStand s bs ts us → Passed (new_metas_tests s left bs ts) → OccursIn z us → IsKnown s left z
  all_known left z no_more p h = absurd h
  all_known {s} left z (and_more {bs = bs} {t = t} {ts = ts} t_stands rest) p (inl h) =
      known_made left z t_stands (passed_parts (new_meta_tests s left bs t) (new_metas_tests s left bs ts) p).0 h
  all_known {s} left z (and_more {bs = bs} {t = t} {ts = ts} t_stands rest) p (inr h) =
      all_known left z rest (passed_parts (new_meta_tests s left bs t) (new_metas_tests s left bs ts) p).1 h

  spine_known : {s : Scope} {bs : List Binder} {u v : Tm} {ts : RTms} (left : RTm) (z : ℕ) → SpineStands s bs u ts v → (Occurs z u → IsKnown s left z)
      → Passed (new_metas_tests s left bs ts) → Occurs z v → IsKnown s left z
  spine_known left z (at_end e) front p h = front (subst (Occurs z) (sym e) h)
  spine_known {s} left z (applied {bs = bs} {u = u} {w = w} {t = t} {ts = ts} t_stands rest) front p h =
      let parts = passed_parts (new_meta_tests s left bs t) (new_metas_tests s left bs ts) p in
      spine_known left z rest (λ o. ⊎_elim front (λ here. known_made left z t_stands parts.0 here) o) parts.1 h
