-- The walk over the widths of a side.
use Rattle.std.proofs.Common.{◌≡◌, ℕ, ◌+◌, ◌-◌, ◌==◌, ◌<◌, arith, List, [], ◌∷◌, ◌++◌, length, drop, get_or, Some, None, Result, Ok, Err, IsErrAnd, refl, ap, sym, subst, ◌∙◌}
use Rattle.wh_text.specs.RawTree.{RTm, RTms, spine}
use Rattle.wh_text.specs.Erase.{rtm, rtms}
use Rattle.wh_text.specs.declared.raw.RawTerm.{RawTerm}
use Rattle.wh_system_parts.specs.declared.fault.SystemFault.{SystemFault}
use Rattle.wh_system_parts.specs.Faults.{first_fault}
use Rattle.wh_system_parts.specs.Tests.{term_offset, width_of_term, width_of_arguments, arguments_of, count_of}
use Rattle.wh_system_parts.specs.Widths.{HasSpare, LeavesRoom}
use Rattle.wh_system_parts.proofs.FaultLemmas.{fault_after, fault_in_first, past_test}
use Rattle.wh_system_parts.specs.declared.fault.SystemFault.TheVariants.{TooMany}
use Rattle.wh_system_parts.proofs.RawTypes.{is_false}
use Rattle.wh_system_parts.proofs.RawTerms.{left_next}

pub spare_fault : (t : RTm) (r : Result ℕ SystemFault) (f : SystemFault) → IsErrAnd r (λ x. x ≡ f) → first_fault (width_of_term t) ≡ Some f → HasSpare t r
spare_fault t (Ok n) f is h = absurd is
spare_fault t (Err g) f is h = h ∙ ap Some (sym is)

pub room_fault : (room : ℕ) (ts : RTms) (r : Result ℕ SystemFault) (f : SystemFault) → IsErrAnd r (λ x. x ≡ f) → first_fault (width_of_arguments (32 - room) ts) ≡ Some f → LeavesRoom room ts r
room_fault room ts (Ok n) f is h = absurd is
room_fault room ts (Err g) f is h = h ∙ ap Some (sym is)

pub spare_whole : (t : RTm) → first_fault (width_of_term t) ≡ None → arguments_of t ≡ 0 → HasSpare t (Ok 32)
spare_whole t h none = (h, omega (arith, none))

-- a spine whose head leaves that room
pub spare_spine : (t : RTm) (h : RTm) (us : RTms) (at room : ℕ) (r : Result ℕ SystemFault) → t ≡ spine h us at → first_fault (width_of_term h) ≡ None → room + arguments_of h ≡ 32 → LeavesRoom room us r → HasSpare t r
spare_spine t h us at room (Ok left) e passed own l =
    let before : 32 - room ≡ arguments_of h = omega (arith, own) in (
      ap (λ u. first_fault (width_of_term u)) e ∙ fault_after (width_of_term h) (width_of_arguments (arguments_of h) us) passed ∙ subst (λ k. first_fault (width_of_arguments k us) ≡ None) before l.0,
      omega (arith, ap arguments_of e, l.1, own),
    )
spare_spine t h us at room (Err f) e passed own l =
    let before : 32 - room ≡ arguments_of h = omega (arith, own) in
    ap (λ u. first_fault (width_of_term u)) e ∙ fault_after (width_of_term h) (width_of_arguments (arguments_of h) us) passed ∙ subst (λ k. first_fault (width_of_arguments k us) ≡ Some f) before l

-- the argument number k of a spine, which stands at i in the list of those to come
pub argument_next_at : (xs : List RawTerm) (i k : ℕ) (t : RawTerm) → i < length xs → t ≡ get_or xs i t → (k ≡ 32 → ⊥) → first_fault (width_of_term (rtm t)) ≡ None
    → first_fault (width_of_arguments k (rtms (drop i xs))) ≡ first_fault (width_of_arguments (k + 1) (rtms (drop (i + 1) xs)))
argument_next_at xs i k t within e other passed =
    let rest = width_of_arguments (k + 1) (rtms (drop (i + 1) xs)) in
    ap (λ us. first_fault (width_of_arguments k us)) (left_next xs i t within e)
    ∙ past_test (k == 32) (TooMany (term_offset (rtm t))) (width_of_term (rtm t) ++ rest) (is_false k 32 other)
    ∙ fault_after (width_of_term (rtm t)) rest passed

pub argument_fails_at : (xs : List RawTerm) (i k : ℕ) (t : RawTerm) (f : SystemFault) → i < length xs → t ≡ get_or xs i t → (k ≡ 32 → ⊥) → first_fault (width_of_term (rtm t)) ≡ Some f
    → first_fault (width_of_arguments k (rtms (drop i xs))) ≡ Some f
argument_fails_at xs i k t f within e other failed =
    let rest = width_of_arguments (k + 1) (rtms (drop (i + 1) xs)) in
    ap (λ us. first_fault (width_of_arguments k us)) (left_next xs i t within e)
    ∙ past_test (k == 32) (TooMany (term_offset (rtm t))) (width_of_term (rtm t) ++ rest) (is_false k 32 other)
    ∙ fault_in_first (width_of_term (rtm t)) rest f failed

-- as many arguments as the list has terms
pub counted : (xs : List RawTerm) → count_of (rtms xs) ≡ length xs
counted [] = refl
counted (x ∷ xs) = omega (arith, counted xs)
