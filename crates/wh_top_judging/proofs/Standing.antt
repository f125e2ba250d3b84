-- What comes of the two files, for all that is told of them.
use Rattle.std.proofs.Common.{◌≡◌, ℕ, ◌≤◌, List, length, Option, Result, Ok, Err, IfOk, IsErrAnd, MatchResult, refl, sym, ap, subst, ◌∙◌, arith}
use Rattle.wh_types.specs.Limits.{system_limit, certificate_limit}
use Rattle.wh_types.specs.Outcome.{IfBecause, MatchOr}
use Rattle.wh_types.specs.declared.want.Or.{Or}
use Rattle.wh_types.specs.declared.want.Or.TheVariants.{NoMemory, Because}
use Rattle.wh_io.specs.Outside.{Rose}
use Rattle.wh_system.specs.Systems.{SystemData}
use Rattle.wh_pairs.specs.PairData.{PairData}
use Rattle.wh_cert.specs.Written.{Cert}
use Rattle.wh_cert.specs.CertText.{CertText, FaultAt}
use Rattle.wh_pairs.specs.SystemPairs.{HasTooManyPairs}
use Rattle.wh_read.specs.Reading.{Reads, Refuses}
use Rattle.wh_read.specs.declared.reasons.Reason.{Reason}
use Rattle.wh_read.specs.declared.reasons.Reason.TheVariants.{BadByte}
use Rattle.wh_read.specs.declared.reasons.Refused as refusal
use Rattle.wh_answer.specs.declared.report.Role.TheVariants.{Certificate}
use Rattle.wh_answer.specs.declared.report.ReasonWord.TheVariants.{TooManyPairs}
use Rattle.wh_answer.specs.declared.report.NamedRejection.TheVariants.{Syntax}
use Rattle.wh_answer.specs.declared.report.Report.{Report}
use Rattle.wh_answer.specs.declared.report.Report.TheVariants.{Yes, No, Rejected, Refused, ReadFault, TooLong, Overflow, TooLarge}
use Rattle.wh_top_judging.specs.Outcomes.{Shelves, Told, AreWithin, IsSystemIn, IsProblemIn, ToldSystem, ToldCert, Certified, Weighed, Judged, Checked, IsRefusedText, StandsByText, StandsBySystem, ToldText, Stands}
use Rattle.wh_top_naming.specs.Rows.{reason_of}
use Rattle.wh_top_judging.specs.Streamed.{IsJudgedIn}
use Rattle.wh_top_judging.specs.Unread.{CertificateFault, RefusedBy}

-- a cause that is handed on
pub carry : {T U E : Type 0} (r : Result U (Or E)) (e : Or E) (P : T → Type 0) (Q Q' : E → Type 0) (P' : U → Type 0) → IsErrAnd r (λ x. x ≡ e) → MatchOr {T = T} (Err e) P Q → ((o : E) → Q o → Q' o) → MatchOr r P' Q'
carry {T} {U} {E} (Ok x) e P Q Q' P' is h on = absurd is
carry {T} {U} {E} (Err x) e P Q Q' P' is h on = subst (λ y. MatchOr {T = U} (Err y) P' Q') (sym is) (by e h)
  where
    by : (e : Or E) → MatchOr {T = T} (Err e) P Q → MatchOr {T = U} (Err e) P' Q'
    by NoMemory h = tt
    by (Because o) h = on o h

-- the system in the file is one of which P holds, with its pairs
pub told_with : (held : Option (List ℕ)) (d : SystemData) (ps : List PairData) (P : SystemData → List PairData → Type 0) → IsProblemIn held d ps → P d ps → ToldSystem held P
told_with held d ps P is p bytes h = ((is.0 bytes h).0, d, ps, (is.0 bytes h).1, is.1, p)

-- a system that is read and has too many pairs
pub too_many_stand : (s : Shelves) (file : List ℕ) (d : SystemData) (o : Report) → IsSystemIn (s.held file) d → o ≡ Refused TooManyPairs 0 → HasTooManyPairs d → StandsBySystem s file o
too_many_stand s file d o is same many = subst (λ o. StandsBySystem s file o) (sym same) (refl, λ bytes h. ((is bytes h).0, d, (is bytes h).1, many))

-- what the bytes of the system file are refused for is told of the file
refusal_stands : (s : Shelves) (file bytes : List ℕ) (r : refusal.Refused) → Told (s.held file) (AreWithin system_limit bytes)
    → Refuses bytes r → StandsByText s file (Refused (reason_of r.reason) r.at)
refusal_stands s file bytes r is refuses = by r.reason refl
  where
    told : (word : Reason) → word ≡ r.reason
        → Told (s.held file) (λ held. (length held ≤ system_limit) × (why : refusal.Refused) × (reason_of word ≡ reason_of why.reason) × (r.at ≡ why.at) × Refuses held why)
    told word same held h = ((is held h).1, r, ap reason_of same, refl, subst (λ b. Refuses b r) (is held h).0 refuses)

    by : (word : Reason) → word ≡ r.reason → IsRefusedText (s.held file) (reason_of word) r.at
    by BadByte same = told BadByte same
    by word same = told word same

-- so is what they are read as
pub read_stands : {T : Type 0} (s : Shelves) (file bytes : List ℕ) (said : T → SystemData) (r : Result T (Or refusal.Refused))
    (o : Result T (Or Report)) → Told (s.held file) (AreWithin system_limit bytes) → IfOk r (λ x. Reads bytes (said x))
    → IfBecause r (Refuses bytes) → MatchResult r (λ x. o ≡ Ok x) (λ e. IsErrAnd o (RefusedBy e))
    → MatchOr o (λ x. IsSystemIn (s.held file) (said x)) (StandsByText s file)
read_stands s file bytes said (Ok x) o is reads refuses same =
    subst (λ p. MatchOr p (λ x. IsSystemIn (s.held file) (said x)) (StandsByText s file)) (sym same)
    (λ held h. ((is held h).1, subst (λ b. Reads b (said x)) (is held h).0 reads))
read_stands {T} s file bytes said (Err NoMemory) (Err e) is reads refuses same =
    subst (λ e. MatchOr {T = T} (Err e) (λ x. IsSystemIn (s.held file) (said x)) (StandsByText s file)) (sym same) tt
read_stands {T} s file bytes said (Err (Because r)) (Err e) is reads refuses same =
    subst (λ e. MatchOr {T = T} (Err e) (λ x. IsSystemIn (s.held file) (said x)) (StandsByText s file)) (sym same)
    (refusal_stands s file bytes r is refuses)
read_stands s file bytes said (Err NoMemory) (Ok x) is reads refuses same = absurd same
read_stands s file bytes said (Err (Because r)) (Ok x) is reads refuses same = absurd same

-- what the text of the file decides, the file decides
pub text_stands : (s : Shelves) (file : List ℕ) (o : Report) → StandsByText s file o → StandsBySystem s file o
text_stands s file (Refused TooManyPairs at) stands = absurd stands
text_stands s file (Refused word at) stands = stands
text_stands s file o stands = stands

-- a system that is read is one of which P holds
pub text_told : (held : Option (List ℕ)) (d : SystemData) (P : SystemData → Type 0) → IsSystemIn held d → P d → ToldText held P
text_told held d P is p bytes h = ((is bytes h).0, d, (is bytes h).1, p)

rose_before : (before mid after : ℕ) → before ≤ mid → Rose mid after → Rose before after
rose_before before mid after low rose = omega (arith, low, rose)

-- a fault of the certificate file comes behind the system
pub certificate_stands : (s : Shelves) (file cert : List ℕ) (d : SystemData) (ps : List PairData) (held : Option (List ℕ)) (mid : ℕ) (o : Report) → IsProblemIn (s.held file) d ps → held ≡ s.held cert → s.before cert ≤ mid
    → CertificateFault held mid (s.after cert) o → Stands s file cert o
certificate_stands s file cert d ps held mid (ReadFault Certificate) is same low rose = (rose_before (s.before cert) mid (s.after cert) low rose, told_with (s.held file) d ps (λ _ _. Unit {0}) is tt)
certificate_stands s file cert d ps held mid (TooLong Certificate) is same low long = (λ bytes e. long bytes (same ∙ e), told_with (s.held file) d ps (λ _ _. Unit {0}) is tt)
certificate_stands s file cert d ps held mid o is same low h = absurd h

-- what the bytes of the certificate come to is told of its file
checked : (held : Option (List ℕ)) (d : SystemData) (ps : List PairData) (bytes : List ℕ) (o : Report) → Told held (AreWithin certificate_limit bytes) → Judged d ps bytes o → Checked held d ps o
checked held d ps bytes o is judged = by o judged
  where
    told : (P : List ℕ → Type 0) → P bytes → ToldCert held P
    told P p there h = ((is there h).1, subst P (is there h).0 p)

    certified : (P : Cert → Type 0) → (c : Cert) × CertText bytes c × P c → Certified held P
    certified P (c, text, p) = (c, p, told (λ b. CertText b c) text)

    by : (o : Report) → Judged d ps bytes o → Checked held d ps o
    by (Rejected (Syntax at)) j = told (λ b. FaultAt b at) j
    by o j = certified (λ c. Weighed d ps c o) j

-- and with the system it is the answer
pub judged_stands : (s : Shelves) (file cert : List ℕ) (d : SystemData) (ps : List PairData) (bytes : List ℕ) (o : Report) → IsProblemIn (s.held file) d ps → Told (s.held cert) (AreWithin certificate_limit bytes) → Judged d ps bytes o
    → Stands s file cert o
judged_stands s file cert d ps bytes o is of_cert judged = by o judged
  where
    with_system : (o : Report) → Judged d ps bytes o → ToldSystem (s.held file) (λ e es. Checked (s.held cert) e es o)
    with_system o j = told_with (s.held file) d ps (λ e es. Checked (s.held cert) e es o) is (checked (s.held cert) d ps bytes o of_cert j)

    by : (o : Report) → Judged d ps bytes o → Stands s file cert o
    by Yes j = with_system Yes j
    by No j = with_system No j
    by (Rejected named) j = with_system (Rejected named) j
    by (Overflow k) j = with_system (Overflow k) j
    by (TooLarge k) j = with_system (TooLarge k) j
    by o j = absurd j.2

-- what judging the file of the certificate comes to is the answer, behind the system
pub file_stands : (s : Shelves) (file cert : List ℕ) (d : SystemData) (ps : List PairData) (held : Option (List ℕ)) (mid : ℕ)
    (r : Result Report (Or Report)) → IsProblemIn (s.held file) d ps → held ≡ s.held cert → s.before cert ≤ mid
    → MatchOr r (IsJudgedIn held d ps) (CertificateFault held mid (s.after cert)) → MatchOr r (Stands s file cert) (Stands s file cert)
file_stands s file cert d ps held mid (Ok o) is same low (bytes, of_file, judged) =
    judged_stands s file cert d ps bytes o is (λ b h. of_file b (same ∙ h)) judged
file_stands s file cert d ps held mid (Err NoMemory) is same low h = tt
file_stands s file cert d ps held mid (Err (Because o)) is same low fault =
    certificate_stands s file cert d ps held mid o is same low fault
