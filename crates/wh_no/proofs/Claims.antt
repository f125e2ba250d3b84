-- A certificate of non-termination is valid, or it has a first fault.
use Rattle.std.proofs.Common.{◌≡◌, ℕ, ◌<◌, ◌⊎◌, inl, inr, List, [], ◌∷◌, length, Option, Some, None, refl, ap, ◌∙◌, arith}
use Rattle.wh_terms.specs.Tree.{Tm, bound}
use Rattle.wh_terms.specs.Substitution.{act}
use Rattle.wh_terms.specs.Places.{opened_part_at}
use Rattle.wh_terms.specs.Rules.{AreWellMade}
use Rattle.wh_terms.specs.declared.path.Step as taken
use Rattle.wh_text.specs.RawTree.{RTm}
use Rattle.wh_system.specs.Systems.{SystemData}
use Rattle.wh_system.proofs.TypedDecided.{Decided, decided_by}
use Rattle.wh_pairs.proofs.ByPlace.{some_one}
use Rattle.wh_cert.specs.Written as written
use Rattle.wh_cert.specs.Written.{Cert, no}
use Rattle.wh_no.specs.declared.fault.NoFault.{NoFault}
use Rattle.wh_no.specs.declared.fault.NoFault.TheVariants.{NotATerm, NoStep, StepFails, TooBig, BadPut, NoInstance}
use Rattle.wh_no.specs.Claim.{Put, put_for}
use Rattle.wh_no.specs.Unused.{first_unused}
use Rattle.wh_no.specs.Valid.{HoldsInstance}
use Rattle.wh_no.specs.Faults.{IsTermFor, Arrive, IsFirstBadLine, AreRight, IsFirstFault, IsValidNo}
use Rattle.wh_no.proofs.CheckLemmas.{term_shut, term_plain, valid_claim}
use Rattle.wh_no.proofs.Stops.{tree_decided}
use Rattle.wh_no.proofs.Meant.{term_or_not}
use Rattle.wh_no.proofs.Stops.{EndsOrStops, ends_or_stops}
use Rattle.wh_no.proofs.Lines.{right_or_bad}

holds_decided : (t : Tm) (puts : List Put) (at : List ℕ) (u : Tm) → Decided (HoldsInstance t puts at u)
holds_decided t puts at u = go (opened_part_at (first_unused t) at u) refl
  where
    go : (o : Option Tm) → opened_part_at (first_unused t) at u ≡ o → Decided (HoldsInstance t puts at u)
    go None e = inr (λ holds. cc (e, holds))
    go (Some v) e = decided_by (λ same. e ∙ ap (λ w. Some w) same) (λ holds. some_one e holds) (tree_decided v (act bound (put_for puts) t))

abbrev pub ClaimOrFault : SystemData → RTm → List taken.Step → List ℕ → List written.Put → Type 0
ClaimOrFault d raw steps at lines = IsValidNo d (no raw steps at lines) ⊎ ((f : NoFault) × IsFirstFault d (no raw steps at lines) f)

-- from the last condition to the first

module _ (d : SystemData) (raw : RTm) (steps : List taken.Step) (at : List ℕ) (lines : List written.Put) where
  at_lines : (t u : Tm) → IsTermFor d raw t → Arrive d.rules steps t u → (puts : List Put) → AreRight d lines puts → Decided (HoldsInstance t puts at u)
      → ClaimOrFault d raw steps at lines
  at_lines t u term arrive puts right (inl holds) =
      inl (valid_claim d raw t u steps at lines puts term arrive right holds)
  at_lines t u term arrive puts right (inr not) = inr (NoInstance, (t, u, puts, term, arrive, right, not))

  at_end : (t u : Tm) → IsTermFor d raw t → Arrive d.rules steps t u → ((puts : List Put) × AreRight d lines puts) ⊎ ((i : ℕ) × IsFirstBadLine d lines i)
      → ClaimOrFault d raw steps at lines
  at_end t u term arrive (inl (puts, right)) = at_lines t u term arrive puts right (holds_decided t puts at u)
  at_end t u term arrive (inr (i, bad)) = inr (BadPut i, (t, u, term, arrive, bad))

  at_steps : (t : Tm) → IsTermFor d raw t → 0 < length steps → EndsOrStops d.rules steps t → ClaimOrFault d raw steps at lines
  at_steps t term some (inl (u, replays)) = at_end t u term (record { some_step = some; replays = replays }) (right_or_bad d lines)
  at_steps t term some (inr (inl (i, fails))) = inr (StepFails i, (t, term, fails))
  at_steps t term some (inr (inr (i, big))) = inr (TooBig i, (t, term, big))

  at_term : (t : Tm) → IsTermFor d raw t → AreWellMade d.symbols d.rules → (length steps ≡ 0) ⊎ (0 < length steps) → ClaimOrFault d raw steps at lines
  at_term t term w (inl empty) = inr (NoStep, (t, term, empty))
  at_term t term w (inr some) = at_steps t term some (ends_or_stops d.symbols d.rules w steps t (term_shut d raw t term) (term_plain d raw t term))

empty_or_some : (steps : List taken.Step) → (length steps ≡ 0) ⊎ (0 < length steps)
empty_or_some [] = inl refl
empty_or_some (s ∷ steps) = inr (omega arith)

pub claim_or_fault : (d : SystemData) (raw : RTm) (steps : List taken.Step) (at : List ℕ) (lines : List written.Put) → AreWellMade d.symbols d.rules
    → ClaimOrFault d raw steps at lines
claim_or_fault d raw steps at lines w = elim (term_or_not d raw) [
  | inl (t, term) ↦ at_term d raw steps at lines t term w (empty_or_some steps)
  | inr none ↦ inr (NotATerm, none)
]
