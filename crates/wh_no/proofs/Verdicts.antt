-- A certificate has one verdict: what is accepted has no fault, and one fault at most is the first.
use Rattle.std.proofs.Common.{◌≡◌, ℕ, zero, suc, ◌<◌, List, [], ◌∷◌, length, take, Some, refl, ap, ap₂, sym, ◌∙◌, subst, subst₂, arith, ⊎_elim}
use Rattle.std.specs.Prelude.{slice_get}
use Rattle.std.proofs.lemmas.Bool.{cases_lt}
use Rattle.std.proofs.lemmas.Option.{slice_get_within, get_or_from_slice_get}
use Rattle.wh_types.specs.Ty.{Ty}
use Rattle.wh_terms.specs.Tree.{Tm}
use Rattle.wh_terms.specs.Measures.{Fits}
use Rattle.wh_terms.specs.Typing.{Symbols}
use Rattle.wh_terms.specs.Rules.{RewriteRule, AreWellMade}
use Rattle.wh_terms.specs.declared.path.Step as taken
use Rattle.wh_terms.proofs.TypingLaws.{some_one}
use Rattle.wh_text.specs.RawTree.{RTm}
use Rattle.wh_step.specs.Replay.{StepAt, Replays}
use Rattle.wh_step.specs.Reducts.{FailsAt, TooBigAt}
use Rattle.wh_step.proofs.RootLaws.{step_one}
use Rattle.wh_system.specs.Systems.{SystemData}
use Rattle.wh_cert.specs.Written as written
use Rattle.wh_cert.specs.Written.{Cert, yes, no}
use Rattle.wh_no.specs.declared.fault.NoFault.{NoFault}
use Rattle.wh_no.specs.declared.fault.NoFault.TheVariants.{NotATerm, NoStep, StepFails, TooBig, BadPut, NoInstance}
use Rattle.wh_no.specs.declared.check.AcceptedNo.{AcceptedNo}
use Rattle.wh_no.specs.Claim.{Put, Claim}
use Rattle.wh_no.specs.Valid.{IsPutOver, HoldsInstance, IsValid}
use Rattle.wh_no.specs.Meaning.{SaysPut, SayPuts, Says}
use Rattle.wh_no.specs.Faults.{IsTermFor, Arrive, IsRightLine, IsFirstBadLine, AreRight, IsStepFault, IsFirstFalse, IsFirstFault, IsAccepted}

-- the term

term_one : (d : SystemData) (raw : RTm) (t v : Tm) → IsTermFor d raw t → IsTermFor d raw v → t ≡ v
term_one d raw t v h k = some_one (sym h.means.named ∙ k.means.named)

-- the steps

replays_one : (S : Symbols) (rules : List RewriteRule) (steps : List taken.Step) (t u v : Tm) → AreWellMade S rules → Replays rules steps t u → Replays rules steps t v → u ≡ v
replays_one S rules [] t u v w e f = sym e ∙ f
replays_one S rules (s ∷ steps) t u v w (x, at, fits, rest) (y, here, small, more) =
    replays_one S rules steps y u v w (subst (λ z. Replays rules steps z u) (step_one S w at here) rest) more

-- no step from the term at number i has a result that fits
pub record StopsAt (rules : List RewriteRule) (steps : List taken.Step) (t : Tm) (i : ℕ) : Type 0 where
  pub step : taken.Step
  pub here : slice_get steps i ≡ Some step
  pub term : Tm
  pub before : Replays rules (take i steps) t term
  pub none : (u : Tm) → StepAt rules step.rule step.path term u → Fits u → ⊥

-- then no replay goes past it
no_replay : (S : Symbols) (rules : List RewriteRule) (all : List taken.Step) (t v : Tm) (i : ℕ) (s : taken.Step) (x : Tm) → AreWellMade S rules → slice_get all i ≡ Some s → Replays rules (take i all) t x
    → ((u : Tm) → StepAt rules s.rule s.path x u → Fits u → ⊥) → Replays rules all t v → ⊥
no_replay S rules [] t v i s x w e b n r = absurd (cc)
no_replay S rules (a ∷ all) t v zero s x w e b n (y, at, fits, rest) =
    let same = some_one e in
    n y (subst (λ z. StepAt rules s.rule s.path z y) b (subst (λ z. StepAt rules z.rule z.path t y) same at)) fits
no_replay S rules (a ∷ all) t v (suc i) s x w e (z, here, small, more) n (y, at, fits, rest) =
    no_replay S rules all y v i s x w e (subst (λ q. Replays rules (take i all) q x) (step_one S w here at) more) n rest

stops_no_replay : (S : Symbols) (rules : List RewriteRule) (steps : List taken.Step) (t v : Tm) (i : ℕ) → AreWellMade S rules → StopsAt rules steps t i → Replays rules steps t v → ⊥
stops_no_replay S rules steps t v i w s r = no_replay S rules steps t v i s.step s.term w s.here s.before s.none r

step_at_front : (steps : List taken.Step) (i j : ℕ) (s : taken.Step) → i < j → slice_get steps i ≡ Some s → slice_get (take j steps) i ≡ Some s
step_at_front [] i j s h e = absurd (cc)
step_at_front (a ∷ steps) i zero s h e = absurd (omega arith)
step_at_front (a ∷ steps) zero (suc j) s h e = e
step_at_front (a ∷ steps) (suc i) (suc j) s h e = step_at_front steps i j s (omega arith) e

front_of_front : (steps : List taken.Step) (i j : ℕ) → i < j → take i (take j steps) ≡ take i steps
front_of_front steps zero j h = refl
front_of_front steps (suc i) zero h = absurd (omega arith)
front_of_front [] (suc i) (suc j) h = refl
front_of_front (a ∷ steps) (suc i) (suc j) h = ap (λ l. a ∷ l) (front_of_front steps i j (omega arith))

not_before : (S : Symbols) (rules : List RewriteRule) (steps : List taken.Step) (t : Tm) (i j : ℕ) → AreWellMade S rules → StopsAt rules steps t i → StopsAt rules steps t j → i < j → ⊥
not_before S rules steps t i j w a b h =
    no_replay S rules (take j steps) t b.term i a.step a.term w (step_at_front steps i j a.step h a.here) (subst (λ l. Replays rules l t a.term) (sym (front_of_front steps i j h)) a.before) a.none b.before

one_number : (P : ℕ → Type 0) → ((i j : ℕ) → P i → P j → i < j → ⊥) → (i j : ℕ) → P i → P j → i ≡ j
one_number P h i j p q = ⊎_elim (λ l. absurd (h i j p q l)) (λ k. ⊎_elim (λ l. absurd (h j i q p l)) (λ m. omega arith) (cases_lt j i)) (cases_lt i j)

fails_stops : (rules : List RewriteRule) (steps : List taken.Step) (t : Tm) (i : ℕ) → FailsAt rules steps t i → StopsAt rules steps t i
fails_stops rules steps t i f = record { step = f.step; here = f.here; term = f.term; before = f.before; none = λ u s fits. f.none u s }

big_stops : (S : Symbols) (rules : List RewriteRule) (steps : List taken.Step) (t : Tm) (i : ℕ) → AreWellMade S rules → TooBigAt rules steps t i → StopsAt rules steps t i
big_stops S rules steps t i w b = record { step = b.step; here = b.here; term = b.term; before = b.before; none = λ u s fits. b.big (subst Fits (step_one S w s b.applies) fits) }

fails_or_big : (S : Symbols) (rules : List RewriteRule) (steps : List taken.Step) (t : Tm) (i : ℕ) → AreWellMade S rules → FailsAt rules steps t i → TooBigAt rules steps t i → ⊥
fails_or_big S rules steps t i w f b =
    let step = some_one (sym b.here ∙ f.here) in
    let term = replays_one S rules (take i steps) t b.term f.term w b.before f.before in
    f.none b.result (subst₂ (λ s z. StepAt rules s.rule s.path z b.result) step term b.applies)

no_steps : (steps : List taken.Step) (i : ℕ) (s : taken.Step) → length steps ≡ 0 → slice_get steps i ≡ Some s → ⊥
no_steps steps i s e at = omega (arith, slice_get_within steps i s at)

-- where a step stops, or there is none
pub data Stopped (rules : List RewriteRule) (steps : List taken.Step) (t : Tm) : NoFault → Type 0 where
  nowhere : length steps ≡ 0 → Stopped rules steps t NoStep
  fails : {i : ℕ} → FailsAt rules steps t i → Stopped rules steps t (StepFails i)
  big : {i : ℕ} → TooBigAt rules steps t i → Stopped rules steps t (TooBig i)

stopped : (rules : List RewriteRule) (steps : List taken.Step) (t : Tm) (f : NoFault) → IsStepFault rules steps t f → Stopped rules steps t f
stopped rules steps t NotATerm h = absurd h
stopped rules steps t NoStep h = nowhere h
stopped rules steps t (StepFails i) h = fails h
stopped rules steps t (TooBig i) h = big h
stopped rules steps t (BadPut i) h = absurd h
stopped rules steps t NoInstance h = absurd h

stopped_one : (S : Symbols) (rules : List RewriteRule) (steps : List taken.Step) (t : Tm) {f g : NoFault} → AreWellMade S rules → Stopped rules steps t f → Stopped rules steps t g → f ≡ g
stopped_one S rules steps t w (nowhere e) (nowhere e') = refl
stopped_one S rules steps t w (nowhere e) (fails {i = i} h) = absurd (no_steps steps i h.step e h.here)
stopped_one S rules steps t w (nowhere e) (big {i = i} h) = absurd (no_steps steps i h.step e h.here)
stopped_one S rules steps t w (fails {i = i} h) (nowhere e) = absurd (no_steps steps i h.step e h.here)
stopped_one S rules steps t w (big {i = i} h) (nowhere e) = absurd (no_steps steps i h.step e h.here)
stopped_one S rules steps t w (fails {i = i} h) (fails {i = j} k) =
    ap StepFails (one_number (StopsAt rules steps t) (λ i j a b. not_before S rules steps t i j w a b) i j (fails_stops rules steps t i h) (fails_stops rules steps t j k))
stopped_one S rules steps t w (big {i = i} h) (big {i = j} k) =
    ap TooBig (one_number (StopsAt rules steps t) (λ i j a b. not_before S rules steps t i j w a b) i j (big_stops S rules steps t i w h) (big_stops S rules steps t j w k))
stopped_one S rules steps t w (fails {i = i} h) (big {i = j} k) =
    let same = one_number (StopsAt rules steps t) (λ i j a b. not_before S rules steps t i j w a b) i j (fails_stops rules steps t i h) (big_stops S rules steps t j w k) in
    absurd (fails_or_big S rules steps t j w (subst (FailsAt rules steps t) same h) k)
stopped_one S rules steps t w (big {i = i} h) (fails {i = j} k) =
    let same = one_number (StopsAt rules steps t) (λ i j a b. not_before S rules steps t i j w a b) i j (big_stops S rules steps t i w h) (fails_stops rules steps t j k) in
    absurd (fails_or_big S rules steps t j w k (subst (TooBigAt rules steps t) same h))

stopped_no_end : (S : Symbols) (rules : List RewriteRule) (steps : List taken.Step) (t u : Tm) {f : NoFault} → AreWellMade S rules → Stopped rules steps t f → Arrive rules steps t u → ⊥
stopped_no_end S rules steps t u w (nowhere e) a = omega (arith, e, a.some_step)
stopped_no_end S rules steps t u w (fails {i = i} h) a = stops_no_replay S rules steps t u i w (fails_stops rules steps t i h) a.replays
stopped_no_end S rules steps t u w (big {i = i} h) a = stops_no_replay S rules steps t u i w (big_stops S rules steps t i w h) a.replays

-- the lines

put : ℕ → Ty → Tm → Put
put n a v = record { number = n; kind = a; value = v }

put_one : (d : SystemData) (line : written.Put) (p q : Put) → SaysPut d line p → SaysPut d line q → p ≡ q
unfolding put
put_one d line p q h k =
    ap (λ n. put n p.kind p.value) (h.number ∙ sym k.number) ∙ ap (λ a. put q.number a p.value) (some_one (sym h.kind ∙ k.kind)) ∙ ap (put q.number q.kind) (some_one (sym h.value.named ∙ k.value.named))

puts_one : (d : SystemData) (lines : List written.Put) (ps qs : List Put) → SayPuts d lines ps → SayPuts d lines qs → ps ≡ qs
puts_one d [] [] [] h k = refl
puts_one d [] [] (q ∷ qs) h k = absurd k
puts_one d [] (p ∷ ps) qs h k = absurd h
puts_one d (l ∷ lines) [] qs h k = absurd h
puts_one d (l ∷ lines) (p ∷ ps) [] h k = absurd k
puts_one d (l ∷ lines) (p ∷ ps) (q ∷ qs) h k = ap₂ (λ x xs. x ∷ xs) (put_one d l p q h.0 k.0) (puts_one d lines ps qs h.1 k.1)

line_for : (d : SystemData) (lines : List written.Put) (puts : List Put) (k : ℕ) (line : written.Put) → SayPuts d lines puts → slice_get lines k ≡ Some line → (p : Put) × (slice_get puts k ≡ Some p) × SaysPut d line p
line_for d [] [] k line h e = absurd (cc)
line_for d [] (p ∷ puts) k line h e = absurd h
line_for d (l ∷ lines) [] k line h e = absurd h
line_for d (l ∷ lines) (p ∷ puts) zero line h e = (p, refl, subst (λ q. SaysPut d q p) (some_one e) h.0)
line_for d (l ∷ lines) (p ∷ puts) (suc k) line h e = line_for d lines puts k line h.1 e

all_right : (d : SystemData) (lines : List written.Put) (puts : List Put) → AreRight d lines puts → (i : ℕ) → i < length lines → IsRightLine d lines i
all_right d lines puts right i within =
    let (line, here) = line_at lines i within in
    let (p, there, says) = line_for d lines puts i line right.says here in
    record {
      line = line;
      here = here;
      put = p;
      says = says;
      over = subst (IsPutOver d.symbols) (get_or_from_slice_get puts i p p there) (right.over i p (slice_get_within puts i p there));
      above = λ j before e at.
          let (q, first, said) = line_for d lines puts j before right.says at in
          let below = right.increasing j i p (omega arith) (slice_get_within puts i p there) in
          subst₂ (λ n m. n < m) (ap (λ r. r.number) (get_or_from_slice_get puts j q p first) ∙ said.number) (ap (λ r. r.number) (get_or_from_slice_get puts i p p there) ∙ says.number) below;
    }
  where
    line_at : (ls : List written.Put) (k : ℕ) → k < length ls → (l : written.Put) × (slice_get ls k ≡ Some l)
    line_at [] k h = absurd (omega arith)
    line_at (l ∷ ls) zero h = (l, refl)
    line_at (l ∷ ls) (suc k) h = line_at ls k (omega arith)

bad_or_right : (d : SystemData) (lines : List written.Put) (puts : List Put) (i : ℕ) → IsFirstBadLine d lines i → AreRight d lines puts → ⊥
bad_or_right d lines puts i bad right = bad.bad (all_right d lines puts right i bad.within)

-- the causes of a fault, with what holds before
pub data Cause (d : SystemData) (raw : RTm) (steps : List taken.Step) (at : List ℕ) (lines : List written.Put) : NoFault → Type 0 where
  no_term : ((t : Tm) → IsTermFor d raw t → ⊥) → Cause d raw steps at lines NotATerm
  in_steps : {f : NoFault} (t : Tm) → IsTermFor d raw t → Stopped d.rules steps t f → Cause d raw steps at lines f
  in_lines : {i : ℕ} (t u : Tm) → IsTermFor d raw t → Arrive d.rules steps t u → IsFirstBadLine d lines i → Cause d raw steps at lines (BadPut i)
  in_place : (t u : Tm) (puts : List Put) → IsTermFor d raw t → Arrive d.rules steps t u → AreRight d lines puts → (HoldsInstance t puts at u → ⊥) → Cause d raw steps at lines NoInstance

cause_of : (d : SystemData) (raw : RTm) (steps : List taken.Step) (at : List ℕ) (lines : List written.Put) (f : NoFault) → IsFirstFalse d raw steps at lines f → Cause d raw steps at lines f
cause_of d raw steps at lines NotATerm h = no_term h
cause_of d raw steps at lines NoStep (t, h, f) = in_steps t h (stopped d.rules steps t NoStep f)
cause_of d raw steps at lines (StepFails i) (t, h, f) = in_steps t h (stopped d.rules steps t (StepFails i) f)
cause_of d raw steps at lines (TooBig i) (t, h, f) = in_steps t h (stopped d.rules steps t (TooBig i) f)
cause_of d raw steps at lines (BadPut i) (t, u, h, a, f) = in_lines t u h a f
cause_of d raw steps at lines NoInstance (t, u, puts, h, a, r, f) = in_place t u puts h a r f

module _ (d : SystemData) (raw : RTm) (steps : List taken.Step) (at : List ℕ) (lines : List written.Put) (w : AreWellMade d.symbols d.rules) where
  steps_or_end : {f : NoFault} (t v u : Tm) → IsTermFor d raw t → IsTermFor d raw v → Stopped d.rules steps t f → Arrive d.rules steps v u → ⊥
  steps_or_end t v u h k s a = stopped_no_end d.symbols d.rules steps t u w s (subst (λ x. Arrive d.rules steps x u) (term_one d raw v t k h) a)

  one_cause : {f g : NoFault} → Cause d raw steps at lines f → Cause d raw steps at lines g → f ≡ g
  one_cause (no_term n) (no_term m) = refl
  one_cause (no_term n) (in_steps t h s) = absurd (n t h)
  one_cause (no_term n) (in_lines t u h a b) = absurd (n t h)
  one_cause (no_term n) (in_place t u ps h a r b) = absurd (n t h)
  one_cause (in_steps t h s) (no_term n) = absurd (n t h)
  one_cause (in_steps {f = f} t h s) (in_steps v k q) = stopped_one d.symbols d.rules steps v w (subst (λ x. Stopped d.rules steps x f) (term_one d raw t v h k) s) q
  one_cause (in_steps t h s) (in_lines v u k a b) = absurd (steps_or_end t v u h k s a)
  one_cause (in_steps t h s) (in_place v u ps k a r b) = absurd (steps_or_end t v u h k s a)
  one_cause (in_lines t u h a b) (no_term n) = absurd (n t h)
  one_cause (in_lines v u k a b) (in_steps t h s) = absurd (steps_or_end t v u h k s a)
  one_cause (in_lines {i = i} t u h a b) (in_lines {i = j} v x k c e) =
      ap BadPut (one_number (IsFirstBadLine d lines) (λ i j p q l. p.bad (q.before i l)) i j b e)
  one_cause (in_lines {i = i} t u h a b) (in_place v x ps k c r e) = absurd (bad_or_right d lines ps i b r)
  one_cause (in_place t u ps h a r b) (no_term n) = absurd (n t h)
  one_cause (in_place v u ps k a r b) (in_steps t h s) = absurd (steps_or_end t v u h k s a)
  one_cause (in_place t u ps h a r b) (in_lines {i = i} v x k c e) = absurd (bad_or_right d lines ps i e r)
  one_cause (in_place t u ps h a r b) (in_place v x qs k c s e) = refl

  -- an accepted certificate has no cause
  accepted_no_cause : {f : NoFault} (c : Claim) → Says d (no raw steps at lines) c → IsValid d.symbols d.rules c → Cause d raw steps at lines f → ⊥
  accepted_no_cause c says v (no_term n) = n c.term (record { means = says.term; fits = v.fits })
  accepted_no_cause c says v (in_steps t h s) =
      steps_or_end t c.term v.last h (record { means = says.term; fits = v.fits }) s (record { some_step = subst (λ l. 0 < length l) says.steps v.some_step; replays = subst (λ l. Replays d.rules l c.term v.last) says.steps v.replays })
  accepted_no_cause c says v (in_lines {i = i} t u h a b) =
      bad_or_right d lines c.puts i b (record { says = says.puts; over = v.puts; increasing = v.increasing })
  accepted_no_cause c says v (in_place t u ps h a r b) =
      let term = term_one d raw c.term t (record { means = says.term; fits = v.fits }) h in
      let puts = puts_one d lines c.puts ps says.puts r.says in
      let last = replays_one d.symbols d.rules steps t v.last u w (subst₂ (λ l x. Replays d.rules l x v.last) says.steps term v.replays) a.replays in
      b (subst (λ x. HoldsInstance t ps at x) last (subst₂ (λ x y. HoldsInstance x y at v.last) term puts (subst (λ p. HoldsInstance c.term c.puts p v.last) says.at v.instance)))

pub fault_one : (d : SystemData) (cert : Cert) (f g : NoFault) → AreWellMade d.symbols d.rules → IsFirstFault d cert f → IsFirstFault d cert g → f ≡ g
fault_one d (no raw steps at lines) f g w h k = one_cause d raw steps at lines w (cause_of d raw steps at lines f h) (cause_of d raw steps at lines g k)
fault_one d (yes version ranks pairs nodes) f g w h k = absurd h

pub accepted_or_fault : (d : SystemData) (cert : Cert) (a : AcceptedNo) (f : NoFault) → AreWellMade d.symbols d.rules → IsAccepted d cert a → IsFirstFault d cert f → ⊥
accepted_or_fault d (no raw steps at lines) a f w (c, says, valid, n) h = accepted_no_cause d raw steps at lines w c says valid (cause_of d raw steps at lines f h)
accepted_or_fault d (yes version ranks pairs nodes) a f w accepted h = absurd h
