-- The bytes of a certificate come to an answer.
use Rattle.std.proofs.Common.{ℕ, ◌≤◌, ◌<◌, ◌^◌, inl, inr, List, length, refl, arith}
use Rattle.wh_types.specs.Limits.{certificate_limit}
use Rattle.wh_system.specs.Systems.{SystemData}
use Rattle.wh_system.specs.WellMade.{IsWellMadeSystem}
use Rattle.wh_pairs.specs.PairData.{PairData}
use Rattle.wh_cert.specs.Written.{Cert, yes, no}
use Rattle.wh_cert.specs.CertText.{CertText}
use Rattle.wh_cert_text.proofs.TextOrFault.{text_or_fault}
use Rattle.wh_polycheck.specs.Small.{with_limits}
use Rattle.wh_proof.specs.Valid.{IsValidCert, IsSmallCert}
use Rattle.wh_checker.specs.Faults.{IsFirstFault}
use Rattle.wh_checker.specs.declared.rejected.CheckFault.{CheckFault}
use Rattle.wh_checker.specs.declared.rejected.CheckFault.TheVariants as check
use Rattle.wh_checker.specs.declared.rejected.Rejected as condition
use Rattle.wh_checker.specs.declared.rejected.Rejected.TheVariants as row
use Rattle.wh_checker.proofs.ValidOrFault.{accepted_or_faulty}
use Rattle.wh_answer.specs.declared.report.NamedRejection.{NamedRejection}
use Rattle.wh_answer.specs.declared.report.NamedRejection.TheVariants.{Syntax}
use Rattle.wh_answer.specs.declared.report.Report.{Report}
use Rattle.wh_answer.specs.declared.report.Report.TheVariants.{Yes, No, Rejected, Overflow, TooLarge}
use Rattle.wh_top_judging.specs.Outcomes.{IsRejectedFor, Judged}
use Rattle.wh_top_naming.specs.Rows.{named_row}

abbrev IsAnswered : SystemData → List PairData → List ℕ → Type 0
IsAnswered d ps bytes = (o : Report) × Judged d ps bytes o

-- the row is a false condition of a certificate that was read
abbrev IsOfRead : NamedRejection → Type 0
IsOfRead (Syntax at) = ⊥
IsOfRead _ = Unit {0}

row_of_read : (d : SystemData) (r : condition.Rejected) → IsOfRead (named_row d r)
row_of_read d row.RankCount = tt
row_of_read d r = tt

rejected : (d : SystemData) (ps : List PairData) (bytes : List ℕ) (n : NamedRejection) → IsOfRead n
    → ((c : Cert) × CertText bytes c × IsRejectedFor d ps c n) → Judged d ps bytes (Rejected n)
rejected d ps bytes (Syntax at) of_read is = absurd of_read
rejected d ps bytes n of_read is = is

fault_answered : (d : SystemData) (ps : List PairData) (bytes : List ℕ) (c : Cert) (f : CheckFault) → CertText bytes c
    → IsFirstFault with_limits d ps c f → IsAnswered d ps bytes
fault_answered d ps bytes c (check.Rejected r) text first =
    (Rejected (named_row d r), rejected d ps bytes (named_row d r) (row_of_read d r) (c, text, (r, first, refl)))
fault_answered d ps bytes c (check.Overflow k) text first = (Overflow k, (c, text, first))
fault_answered d ps bytes c (check.TooLarge k) text first = (TooLarge k, (c, text, first))

valid_answered : (d : SystemData) (ps : List PairData) (bytes : List ℕ) (c : Cert) → CertText bytes c → IsValidCert d ps c
    → IsSmallCert d ps c → IsAnswered d ps bytes
valid_answered d ps bytes (yes version ranks pairs nodes) text valid small =
    (Yes, (yes version ranks pairs nodes, text, (tt, valid, small)))
valid_answered d ps bytes (no term steps at puts) text valid small = (No, (no term steps at puts, text, (tt, valid)))

pub some_answer : (d : SystemData) (ps : List PairData) (bytes : List ℕ) → IsWellMadeSystem d → length bytes ≤ certificate_limit
    → IsAnswered d ps bytes
some_answer d ps bytes made within =
    let short : length bytes < 2 ^ 32 = omega (arith, within) in
    elim (text_or_fault bytes short) [
      | inr (at, fault) ↦ (Rejected (Syntax at), fault)
      | inl (c, text) ↦ elim (accepted_or_faulty d ps c made text.fits) [
        | inl (valid, small) ↦ valid_answered d ps bytes c text valid small
        | inr (f, first) ↦ fault_answered d ps bytes c f text first
      ]
    ]
