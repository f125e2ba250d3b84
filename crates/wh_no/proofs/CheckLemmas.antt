-- What the parts of the check say together.
use Rattle.std.proofs.Common.{◌≡◌, ℕ, ◌<◌, List, [], ◌∷◌, length, refl, sym, ap, ◌∙◌, subst, arith}
use Rattle.std.specs.Prelude.{Result, Ok, Err, IsErrAnd}
use Rattle.std.proofs.lemmas.List.{length-map, get_or-map}
use Rattle.wh_types.specs.Outcome.{MatchOr}
use Rattle.wh_types.specs.declared.want.Or.{Or}
use Rattle.wh_types.specs.declared.want.Or.TheVariants.{NoMemory, Because}
use Rattle.wh_terms.specs.Tree.{Tm}
use Rattle.wh_terms.specs.Measures.{Fits}
use Rattle.wh_terms.specs.Sight.{IsTerm, LooseBelow}
use Rattle.wh_terms.specs.Typing.{Symbols}
use Rattle.wh_terms.specs.Rules.{RewriteRule, AreWellMade}
use Rattle.wh_terms.specs.declared.path.Step as taken
use Rattle.wh_terms.specs.declared.subst.SubstEntry.{SubstEntry}
use Rattle.wh_terms.proofs.TypingLaws.{some_one, typed_loose, typed_term}
use Rattle.wh_text.specs.RawTree.{RTm}
use Rattle.wh_step.specs.Replay.{Replays}
use Rattle.wh_step.specs.Reduction.{Unbounded}
use Rattle.wh_step.proofs.ReplayLemmas.{step_shut}
use Rattle.wh_system.specs.Systems.{SystemData}
use Rattle.wh_system_making.specs.Resolve.{Means}
use Rattle.wh_cert.specs.Written as written
use Rattle.wh_cert.specs.Written.{Cert, no}
use Rattle.wh_no.specs.declared.fault.NoFault.{NoFault}
use Rattle.wh_no.specs.declared.fault.NoFault.TheVariants.{NotATerm, NoStep, StepFails, TooBig, BadPut, NoInstance}
use Rattle.wh_no.specs.declared.check.AcceptedNo.{AcceptedNo}
use Rattle.wh_no.specs.Claim.{Put}
use Rattle.wh_no.specs.Entry.{entry_put, entry_puts}
use Rattle.wh_no.specs.Valid.{HoldsInstance}
use Rattle.wh_no.specs.Faults.{IsTermFor, Arrive, AreRight, IsTermFault, IsStepFault, IsPutFault, IsPlaceFault, IsFirstFalse, IsValidNo, IsAccepted}
use Rattle.wh_no.proofs.InstanceLemmas.{AreShut}
use Rattle.wh_no.proofs.Valid.{valid-unbounded}

-- the term

pub term_shut : (d : SystemData) (raw : RTm) (t : Tm) → IsTermFor d raw t → LooseBelow 0 t
term_shut d raw t h = typed_loose h.means.typed.1

pub term_plain : (d : SystemData) (raw : RTm) (t : Tm) → IsTermFor d raw t → IsTerm t
term_plain d raw t h = typed_term t h.means.typed.1

-- the last term

replays_fit : (rules : List RewriteRule) (steps : List taken.Step) (t u : Tm) → Replays rules steps t u → 0 < length steps → Fits u
replays_fit rules [] t u r h = absurd (omega arith)
replays_fit rules (s ∷ []) t u (v, at, fits, e) h = subst Fits e fits
replays_fit rules (s ∷ r ∷ steps) t u (v, at, fits, rest) h = replays_fit rules (r ∷ steps) v u rest (omega arith)

replays_shut : (S : Symbols) (rules : List RewriteRule) (steps : List taken.Step) (t u : Tm) → AreWellMade S rules → Replays rules steps t u → LooseBelow 0 t → LooseBelow 0 u
replays_shut S rules [] t u w e l = subst (LooseBelow 0) e l
replays_shut S rules (s ∷ steps) t u w (v, at, fits, rest) l = replays_shut S rules steps v u w rest (step_shut S w s at l)

pub last_fits : (rules : List RewriteRule) (steps : List taken.Step) (t u : Tm) → Arrive rules steps t u → Fits u
last_fits rules steps t u a = replays_fit rules steps t u a.replays a.some_step

pub last_shut : (S : Symbols) (rules : List RewriteRule) (steps : List taken.Step) (t u : Tm) → AreWellMade S rules → Arrive rules steps t u → LooseBelow 0 t → LooseBelow 0 u
last_shut S rules steps t u w a l = replays_shut S rules steps t u w a.replays l

-- the puts

pub values_shut : (d : SystemData) (lines : List written.Put) (es : List SubstEntry) → AreRight d lines (entry_puts es) → AreShut es
values_shut d lines es right k e within =
    let shut = typed_loose (right.over k (entry_put e) (subst (λ n. k < n) (sym (length-map es entry_put)) within)).typed in
    subst (λ p. LooseBelow 0 p.value) (get_or-map entry_put es k e (entry_put e) within) shut

-- all together

pub valid_claim : (d : SystemData) (raw : RTm) (t u : Tm) (steps : List taken.Step) (at : List ℕ) (lines : List written.Put) (puts : List Put)
    → IsTermFor d raw t → Arrive d.rules steps t u → AreRight d lines puts → HoldsInstance t puts at u → IsValidNo d (no raw steps at lines)
valid_claim d raw t u steps at lines puts h a right instance = (
  record { term = t; steps = steps; at = at; puts = puts },
  record { term = h.means; steps = refl; at = refl; puts = right.says },
  record { typed = h.means.typed; fits = h.fits; some_step = a.some_step; last = u; replays = a.replays; puts = right.over; increasing = right.increasing; instance = instance },
)

pub accepted : (d : SystemData) (raw : RTm) (steps : List taken.Step) (at : List ℕ) (lines : List written.Put) (a : AcceptedNo) → a.steps ≡ length steps → IsValidNo d (no raw steps at lines)
    → IsAccepted d (no raw steps at lines) a
accepted d raw steps at lines a counted (c, says, valid) = (c, says, valid, counted ∙ ap length (sym says.steps))

pub valid_no_unbounded : (d : SystemData) (raw : RTm) (steps : List taken.Step) (at : List ℕ) (lines : List written.Put) → AreWellMade d.symbols d.rules → IsValidNo d (no raw steps at lines)
    → (v : Tm) → Means d raw v → Unbounded d.rules v
valid_no_unbounded d raw steps at lines w (c, says, valid) v m = subst (Unbounded d.rules) (some_one (sym says.term.named ∙ m.named)) (valid-unbounded d.symbols d.rules c w valid)

-- faults

pub term_fault : (d : SystemData) (raw : RTm) (steps : List taken.Step) (at : List ℕ) (lines : List written.Put) (fault : NoFault) → IsTermFault d raw fault → IsFirstFalse d raw steps at lines fault
term_fault d raw steps at lines NotATerm f = f
term_fault d raw steps at lines NoStep f = absurd f
term_fault d raw steps at lines (StepFails i) f = absurd f
term_fault d raw steps at lines (TooBig i) f = absurd f
term_fault d raw steps at lines (BadPut i) f = absurd f
term_fault d raw steps at lines NoInstance f = absurd f

pub step_fault : (d : SystemData) (raw : RTm) (t : Tm) (steps : List taken.Step) (at : List ℕ) (lines : List written.Put) (fault : NoFault) → IsTermFor d raw t → IsStepFault d.rules steps t fault
    → IsFirstFalse d raw steps at lines fault
step_fault d raw t steps at lines NotATerm h f = absurd f
step_fault d raw t steps at lines NoStep h f = (t, h, f)
step_fault d raw t steps at lines (StepFails i) h f = (t, h, f)
step_fault d raw t steps at lines (TooBig i) h f = (t, h, f)
step_fault d raw t steps at lines (BadPut i) h f = absurd f
step_fault d raw t steps at lines NoInstance h f = absurd f

pub put_fault : (d : SystemData) (raw : RTm) (t u : Tm) (steps : List taken.Step) (at : List ℕ) (lines : List written.Put) (fault : NoFault) → IsTermFor d raw t → Arrive d.rules steps t u → IsPutFault d lines fault
    → IsFirstFalse d raw steps at lines fault
put_fault d raw t u steps at lines NotATerm h a f = absurd f
put_fault d raw t u steps at lines NoStep h a f = absurd f
put_fault d raw t u steps at lines (StepFails i) h a f = absurd f
put_fault d raw t u steps at lines (TooBig i) h a f = absurd f
put_fault d raw t u steps at lines (BadPut i) h a f = (t, u, h, a, f)
put_fault d raw t u steps at lines NoInstance h a f = absurd f

pub place_fault : (d : SystemData) (raw : RTm) (t u : Tm) (steps : List taken.Step) (at : List ℕ) (lines : List written.Put) (puts : List Put) (fault : NoFault)
    → IsTermFor d raw t → Arrive d.rules steps t u → AreRight d lines puts → IsPlaceFault t puts at u fault → IsFirstFalse d raw steps at lines fault
place_fault d raw t u steps at lines puts NotATerm h a right f = absurd f
place_fault d raw t u steps at lines puts NoStep h a right f = absurd f
place_fault d raw t u steps at lines puts (StepFails i) h a right f = absurd f
place_fault d raw t u steps at lines puts (TooBig i) h a right f = absurd f
place_fault d raw t u steps at lines puts (BadPut i) h a right f = absurd f
place_fault d raw t u steps at lines puts NoInstance h a right f = (t, u, puts, h, a, right, f)

-- the cause of one part, as the cause of the whole
pub passed_on : {T U : Type 0} (r : Result T (Or NoFault)) (e : Or NoFault) (V : T → Type 0) (P : U → Type 0) (Q R : NoFault → Type 0) → IsErrAnd r (λ x. x ≡ e) → MatchOr (Err e) P Q
    → ((f : NoFault) → Q f → R f) → MatchOr r V R
passed_on (Ok x) e V P Q R same h k = absurd same
passed_on (Err NoMemory) e V P Q R same h k = tt
passed_on (Err (Because f)) NoMemory V P Q R same h k = absurd (cc)
passed_on (Err (Because f)) (Because g) V P Q R same h k = k f (subst Q (sym (because_one same)) h)
  where
    because_one : Because f ≡ Because g → f ≡ g
    because_one e = cc

-- what the last part tells, as what the whole tells
pub told_on : {T : Type 0} (r : Result T (Or NoFault)) (P V : T → Type 0) (Q R : NoFault → Type 0) → MatchOr r P Q → ((x : T) → P x → V x) → ((f : NoFault) → Q f → R f) → MatchOr r V R
told_on (Ok x) P V Q R h j k = j x h
told_on (Err NoMemory) P V Q R h j k = tt
told_on (Err (Because f)) P V Q R h j k = k f h
