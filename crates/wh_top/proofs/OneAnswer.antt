-- The bytes of a certificate come to one answer, but that values may exceed both limits in one node.
use Rattle.std.proofs.Common.{ℕ, ◌≡◌, ◌⊎◌, inl, inr, List, refl, sym, ap, subst, ◌∙◌}
use Rattle.wh_system.specs.Systems.{SystemData}
use Rattle.wh_pairs.specs.PairData.{PairData}
use Rattle.wh_system.specs.WellMade.{IsWellMadeSystem}
use Rattle.wh_cert.specs.Written.{Cert, yes, no}
use Rattle.wh_cert.specs.CertText.{CertText, FaultAt}
use Rattle.wh_cert_text.proofs.Whole.{one_certificate, one_place}
use Rattle.wh_polycheck.specs.Small.{with_limits}
use Rattle.wh_proof.specs.Valid.{IsValidCert, IsSmallCert}
use Rattle.wh_checker.specs.Faults.{AreAlike, IsFirstFault}
use Rattle.wh_checker.specs.declared.rejected.CheckFault.{CheckFault}
use Rattle.wh_checker.specs.declared.rejected.CheckFault.TheVariants as check
use Rattle.wh_checker.proofs.FaultLaws.{first_fault_one, small_or_fault}
use Rattle.wh_answer.specs.declared.report.NamedRejection.TheVariants.{Syntax}
use Rattle.wh_answer.specs.declared.report.Report.{Report}
use Rattle.wh_answer.specs.declared.report.Report.TheVariants.{Yes, No, Rejected, Overflow, TooLarge}
use Rattle.wh_top_judging.specs.Outcomes.{Weighed, Judged}
use Rattle.wh_top_naming.specs.Rows.{named_row}
use Rattle.wh_top_replies.specs.Complete.{AreOneAnswer}

-- the answer to a certificate that is valid and small, and the answer to a fault
abbrev acceptance : Cert → Report
acceptance (yes version ranks pairs nodes) = Yes
acceptance (no term steps at puts) = No

abbrev complaint : SystemData → CheckFault → Report
complaint d (check.Rejected r) = Rejected (named_row d r)
complaint d (check.Overflow k) = Overflow k
complaint d (check.TooLarge k) = TooLarge k

-- what a certificate comes to is one or the other
abbrev IsWeighed : SystemData → List PairData → Cert → Report → Type 0
IsWeighed d ps c o =
    (IsValidCert d ps c × IsSmallCert d ps c × (o ≡ acceptance c))
    ⊎ ((f : CheckFault) × IsFirstFault with_limits d ps c f × (o ≡ complaint d f))

weighed : (d : SystemData) (ps : List PairData) (c : Cert) (o : Report) → Weighed d ps c o → IsWeighed d ps c o
weighed d ps (yes version ranks pairs nodes) Yes (is, valid, small) = inl (valid, small, refl)
weighed d ps (yes version ranks pairs nodes) No (is, valid) = absurd is
weighed d ps (no term steps at puts) Yes (is, valid, small) = absurd is
weighed d ps (no term steps at puts) No (is, valid) = inl (valid, tt, refl)
weighed d ps c (Rejected named) (r, first, is) = inr (check.Rejected r, first, ap Rejected is)
weighed d ps c (Overflow k) first = inr (check.Overflow k, first, refl)
weighed d ps c (TooLarge k) first = inr (check.TooLarge k, first, refl)
weighed d ps c o w = absurd w

-- the answers to faults that are alike
alike_answered : (d : SystemData) (f g : CheckFault) → AreAlike f g → AreOneAnswer (complaint d f) (complaint d g)
alike_answered d (check.Rejected r) (check.Rejected s) same = inl (ap (λ x. Rejected (named_row d x)) same)
alike_answered d (check.Overflow k) (check.Overflow m) same = inl (ap Overflow same)
alike_answered d (check.Overflow k) (check.TooLarge m) same = inr (k, refl, sym same)
alike_answered d (check.TooLarge k) (check.Overflow m) same = inr (k, refl, sym same)
alike_answered d (check.TooLarge k) (check.TooLarge m) same = inl (ap TooLarge same)
alike_answered d f g same = absurd same

weighed_one : (d : SystemData) (ps : List PairData) (c : Cert) (a b : Report) → IsWellMadeSystem d → IsWeighed d ps c a → IsWeighed d ps c b
    → AreOneAnswer a b
weighed_one d ps c a b made (inl (valid, small, is)) (inl (also, few, also_is)) = inl (is ∙ sym also_is)
weighed_one d ps c a b made (inl (valid, small, is)) (inr (f, first, also_is)) = absurd (small_or_fault d ps c f made valid small first)
weighed_one d ps c a b made (inr (f, first, also_is)) (inl (valid, small, is)) = absurd (small_or_fault d ps c f made valid small first)
weighed_one d ps c a b made (inr (f, first, is)) (inr (g, other, also_is)) =
    subst (λ x. AreOneAnswer x b) (sym is) (subst (λ x. AreOneAnswer (complaint d f) x) (sym also_is)
    (alike_answered d f g (first_fault_one with_limits d ps c f g made first other)))

-- the bytes are no text, or the text of a certificate
abbrev IsJudged : SystemData → List PairData → List ℕ → Report → Type 0
IsJudged d ps bytes o = ((at : ℕ) × FaultAt bytes at × (o ≡ Rejected (Syntax at))) ⊎ ((c : Cert) × CertText bytes c × Weighed d ps c o)

judged : (d : SystemData) (ps : List PairData) (bytes : List ℕ) (o : Report) → Judged d ps bytes o → IsJudged d ps bytes o
judged d ps bytes (Rejected (Syntax at)) j = inl (at, j, refl)
judged d ps bytes o j = inr j

judged_one : (d : SystemData) (ps : List PairData) (bytes : List ℕ) (a b : Report) → IsWellMadeSystem d → IsJudged d ps bytes a
    → IsJudged d ps bytes b → AreOneAnswer a b
judged_one d ps bytes a b made (inl (n, fault, is)) (inl (m, other, also_is)) =
    inl (is ∙ ap (λ at. Rejected (Syntax at)) (one_place bytes n m fault.place other.place) ∙ sym also_is)
judged_one d ps bytes a b made (inl (n, fault, is)) (inr (c, text, w)) = absurd (fault.no_text c text)
judged_one d ps bytes a b made (inr (c, text, w)) (inl (n, fault, is)) = absurd (fault.no_text c text)
judged_one d ps bytes a b made (inr (c, text, w)) (inr (e, other, v)) =
    let same : e ≡ c = one_certificate bytes e c other text in
    weighed_one d ps c a b made (weighed d ps c a w) (weighed d ps c b (subst (λ x. Weighed d ps x b) same v))

pub one_answer : (d : SystemData) (ps : List PairData) (bytes : List ℕ) (a b : Report) → IsWellMadeSystem d → Judged d ps bytes a
    → Judged d ps bytes b → AreOneAnswer a b
one_answer d ps bytes a b made first other = judged_one d ps bytes a b made (judged d ps bytes a first) (judged d ps bytes b other)
