-- What a text says, and what it means, that begins with the word of a verdict.
use Rattle.std.proofs.Common.{◌≡◌, ℕ, List, ◌∷◌, ◌++◌, Option, inr, ap, sym, subst, ◌∙◌, arith}
use Rattle.std.specs.Prelude.{codes, Result, Ok, Err, IfOk, IsErrAnd}
use Rattle.wh_terms.specs.Typing.{Symbols}
use Rattle.wh_terms.specs.Rules.{RewriteRule, AreWellMade}
use Rattle.wh_step.specs.Reduction.{Unbounded}
use Rattle.wh_system.specs.Systems.{SystemData}
use Rattle.wh_system.specs.WellMade.{IsWellMadeSystem}
use Rattle.wh_pairs.specs.PairData.{PairData}
use Rattle.wh_pairs.specs.SystemPairs.{HasPairs}
use Rattle.wh_cert.specs.Written as written
use Rattle.wh_cert.specs.Written.{Cert, yes, no}
use Rattle.wh_cert.specs.Limits.{IsCert}
use Rattle.wh_cert.specs.CertText.{CertText, FaultAt}
use Rattle.wh_no.specs.Claim.{Claim}
use Rattle.wh_no.specs.Valid.{IsValid}
use Rattle.wh_proof.specs.Valid.{IsValidYes}
use Rattle.wh_checker.specs.Accepted.{AreBounded}
use Rattle.wh_checker.specs.declared.rejected.Rejected.{Rejected as Row}
use Rattle.wh_checker.specs.declared.rejected.Rejected.TheVariants as row
use Rattle.wh_answer.specs.declared.report.Report.{Report}
use Rattle.wh_answer.specs.declared.report.Report.TheVariants as answer
use Rattle.wh_answer.specs.declared.report.NamedRejection.TheVariants.{Syntax}
use Rattle.wh_explain_verdict.specs.declared.verdict.Verdict.{Verdict}
use Rattle.wh_explain_verdict.specs.declared.verdict.Verdict.TheVariants.{Proof, Loop, Rejected, Overflow, TooLarge, Open}
use Rattle.wh_explain_verdict.specs.FirstWords.{first_words, verdict_of}
use Rattle.wh_top_judging.specs.Outcomes.{BeginsWith, IsSystemIn, Judged, Shelves, StandsBySystem, Told, Weighed}
use Rattle.wh_top_judging.specs.Unread.{CertificateFault}
use Rattle.wh_types.specs.Outcome.{IfBecause, MatchOr}
use Rattle.wh_types.specs.declared.want.Or.{Or}
use Rattle.wh_types.specs.declared.want.Or.TheVariants.{NoMemory, Because}
use Rattle.wh_top_naming.specs.Rows.{named_row}
use Rattle.wh_explain.specs.Meaning.{Finds, IsUnweighed, Means, MeansLoop, MeansProof, SaysOf, SaysOfBytes, SomeIsUnbounded}
use Rattle.wh_top_judging.proofs.Streaming.{never_syntax}

-- what a verdict means of a system
abbrev pub MeantBy : SystemData → Verdict → Type 0
MeantBy d Proof = AreBounded d
MeantBy d Loop = SomeIsUnbounded d
MeantBy d Rejected = Unit {0}
MeantBy d Overflow = Unit {0}
MeantBy d TooLarge = Unit {0}
MeantBy d Open = Unit {0}

-- the law of valid proofs, and that of valid loops
abbrev pub ProofsBound : Type 0
ProofsBound = (d : SystemData) (ps : List PairData) (ranks : List ℕ) (pairs : ℕ) (lines : List written.Node) → IsWellMadeSystem d
    → HasPairs d ps → IsValidYes d ps ranks pairs lines → AreBounded d

abbrev pub LoopsRun : Type 0
LoopsRun = (S : Symbols) (rules : List RewriteRule) (c : Claim) → AreWellMade S rules → IsValid S rules c → Unbounded rules c.term

-- what the check answers means it
pub weighed_means : (d : SystemData) (ps : List PairData) (c : Cert) (o : Report) → ProofsBound → LoopsRun → IsWellMadeSystem d
    → HasPairs d ps → Weighed d ps c o → MeantBy d (verdict_of o)
weighed_means d ps (yes version ranks pairs nodes) answer.Yes proofs loops made has (is, valid, small) =
    proofs d ps ranks pairs nodes made has valid
weighed_means d ps (no raw steps at puts) answer.Yes proofs loops made has (is, valid, small) = absurd is
weighed_means d ps (yes version ranks pairs nodes) answer.No proofs loops made has (is, valid) = absurd is
weighed_means d ps (no raw steps at puts) answer.No proofs loops made has (is, valid) =
    (valid.0.term, loops d.symbols d.rules valid.0 made.rules valid.2)
weighed_means d ps c o proofs loops made has w = tt

-- no condition is named like a text that is none
-- what the check answers on the certificate of a text is what it answers on the text
pub text_judged : (d : SystemData) (ps : List PairData) (bytes : List ℕ) (c : Cert) (o : Report) → CertText bytes c → Weighed d ps c o
    → Judged d ps bytes o
text_judged d ps bytes c (answer.Rejected (Syntax at)) text (r, first, e) = absurd (never_syntax d r at e)
text_judged d ps bytes c o text w = (c, text, w)

-- so what is said of the one is said of the other
pub text_said : {E : Type 0} (d : SystemData) (ps : List PairData) (bytes : List ℕ) (c : Cert) (r : Result (List ℕ) E) → CertText bytes c
    → IfOk r (SaysOf d ps c) → IfOk r (SaysOfBytes d ps bytes)
text_said d ps bytes c (Ok text) of (o, w, says) = (o, text_judged d ps bytes c o of w, says)
text_said d ps bytes c (Err e) of said = tt

not_byte : (n a : ℕ) (xs rest : List ℕ) → (a ≡ n → ⊥) → a ∷ xs ≡ n ∷ rest → ⊥
not_byte n a xs rest differs e = differs cc

-- a text that begins with a byte begins with no word of another first byte
neither : (d : SystemData) (a : ℕ) (xs : List ℕ) → (a ≡ 89 → ⊥) → (a ≡ 78 → ⊥) → Means d (a ∷ xs)
neither d a xs y n = record {
  yes = λ (rest, e). absurd (not_byte 89 a xs _ y e);
  no = λ (rest, e). absurd (not_byte 78 a xs _ n e);
}

text_means : (d : SystemData) (v : Verdict) (rest : List ℕ) → MeantBy d v → Means d (first_words v ++ rest)
text_means d Proof rest m = record { yes = λ b. m; no = λ (more, e). absurd (not_byte 78 89 _ _ (λ h. omega arith) e) }
text_means d Loop rest m = record { yes = λ (more, e). absurd (not_byte 89 78 _ _ (λ h. omega arith) e); no = λ b. m }
text_means d Rejected rest m = neither d 82 _ (λ h. omega arith) (λ h. omega arith)
text_means d Overflow rest m = neither d 79 _ (λ h. omega arith) (λ h. omega arith)
text_means d TooLarge rest m = neither d 84 _ (λ h. omega arith) (λ h. omega arith)
text_means d Open rest m = neither d 77 _ (λ h. omega arith) (λ h. omega arith)

-- a text that begins with the words of a verdict means what the verdict does
pub begun_means : {E : Type 0} (d : SystemData) (v : Verdict) (r : Result (List ℕ) E) → MeantBy d v
    → IfOk r (BeginsWith (first_words v)) → IfOk r (Means d)
begun_means d v (Ok text) m (rest, e) = subst (Means d) (sym e) (text_means d v rest m)
begun_means d v (Err e) m begins = tt

-- a text that was made of the words and the rest begins with the words
pub begins_so : {E : Type 0} (v : Verdict) (rest word : List ℕ) (r : Result (List ℕ) E) → word ≡ first_words v
    → IfOk r (λ text. text ≡ word ++ rest) → IfOk r (BeginsWith (first_words v))
begins_so v rest word (Ok text) is e = (rest, e ∙ ap (λ w. w ++ rest) is)
begins_so v rest word (Err f) is e = tt

-- what it says of an answer
pub said_so : {E : Type 0} (d : SystemData) (ps : List PairData) (c : Cert) (o : Report) (r : Result (List ℕ) E) → Weighed d ps c o
    → IfOk r (BeginsWith (first_words (verdict_of o))) → IfOk r (SaysOf d ps c)
said_so d ps c o (Ok text) w begins = (o, w, begins)
said_so d ps c o (Err e) w begins = tt

pub means_proof : (held : Option (List ℕ)) (d : SystemData) (text : List ℕ) → IsSystemIn held d → Means d text
    → BeginsWith (codes "YES") text → Told held MeansProof
means_proof held d text has means begins bytes told = (d, (has bytes told).1, means.yes begins)

pub means_loop : (held : Option (List ℕ)) (d : SystemData) (text : List ℕ) → IsSystemIn held d → Means d text
    → BeginsWith (codes "NO") text → Told held MeansLoop
means_loop held d text has means begins bytes told = (d, (has bytes told).1, means.no begins)

-- a verdict is that of a report
pub of_report : {E : Type 0} (o : Report) (v : Verdict) (r : Result (List ℕ) E) → v ≡ verdict_of o
    → IfOk r (BeginsWith (first_words v)) → IfOk r (BeginsWith (first_words (verdict_of o)))
of_report o v r is begins = subst (λ (w : Verdict). IfOk r (BeginsWith (first_words w))) is begins

-- bytes that are no certificate
pub fault_said : {E : Type 0} (d : SystemData) (ps : List PairData) (bytes : List ℕ) (at : ℕ) (r : Result (List ℕ) E) → FaultAt bytes at
    → IfOk r (BeginsWith (first_words (verdict_of (answer.Rejected (Syntax at))))) → IfOk r (SaysOfBytes d ps bytes)
fault_said d ps bytes at (Ok text) fault begins = (answer.Rejected (Syntax at), fault, begins)
fault_said d ps bytes at (Err e) fault begins = tt

-- what is said of a certificate that was found
pub found_said : {E : Type 0} (d : SystemData) (ps : List PairData) (c : Cert) (r : Result (List ℕ) E) → IsCert c
    → IfOk r (SaysOf d ps c) → IfOk r (Finds d ps)
found_said d ps c (Ok text) fits said = inr (c, fits, said)
found_said d ps c (Err e) fits said = tt

-- no certificate was weighed for what the system file alone decides, nor where that of the certificate was not read
pub unweighed_system : (s : Shelves) (file : List ℕ) (o : Report) → StandsBySystem s file o → IsUnweighed o
unweighed_system s file answer.Yes h = h
unweighed_system s file answer.No h = h
unweighed_system s file (answer.Rejected r) h = h
unweighed_system s file (answer.Maybe cause) h = tt
unweighed_system s file (answer.Refused word at) h = tt
unweighed_system s file answer.BadWords h = tt
unweighed_system s file (answer.ReadFault role) h = tt
unweighed_system s file answer.OutOfMemory h = tt
unweighed_system s file (answer.TooLong role) h = tt
unweighed_system s file (answer.Overflow k) h = h
unweighed_system s file (answer.TooLarge k) h = h

pub unweighed_certificate : (held : Option (List ℕ)) (before after : ℕ) (o : Report) → CertificateFault held before after o → IsUnweighed o
unweighed_certificate held before after answer.Yes h = h
unweighed_certificate held before after answer.No h = h
unweighed_certificate held before after (answer.Rejected r) h = h
unweighed_certificate held before after (answer.Maybe cause) h = tt
unweighed_certificate held before after (answer.Refused word at) h = tt
unweighed_certificate held before after answer.BadWords h = tt
unweighed_certificate held before after (answer.ReadFault role) h = tt
unweighed_certificate held before after answer.OutOfMemory h = tt
unweighed_certificate held before after (answer.TooLong role) h = tt
unweighed_certificate held before after (answer.Overflow k) h = h
unweighed_certificate held before after (answer.TooLarge k) h = h

-- a cause that is handed on, of which Q' holds
pub carry_cause : {T U E : Type 0} (r : Result U (Or E)) (e : Or E) (P : T → Type 0) (Q Q' : E → Type 0) → IsErrAnd r (λ x. x ≡ e)
    → MatchOr {T = T} (Err e) P Q → ((o : E) → Q o → Q' o) → IfBecause r Q'
carry_cause {T} {U} {E} (Ok x) e P Q Q' is h on = tt
carry_cause {T} {U} {E} (Err x) e P Q Q' is h on = subst (λ y. IfBecause {T = U} (Err y) Q') (sym is) (by e h)
  where
    by : (e : Or E) → MatchOr {T = T} (Err e) P Q → IfBecause {T = U} (Err e) Q'
    by NoMemory h = tt
    by (Because o) h = on o h
