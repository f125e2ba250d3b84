-- Where all files are read and the system is one with few enough pairs, a reply answers what is asked.
use Rattle.std.proofs.Common.{ℕ, ◌≡◌, ◌≤◌, ◌⊎◌, inl, inr, List, length, Option, Some, subst, arith}
use Rattle.wh_types.specs.Limits.{system_limit, certificate_limit}
use Rattle.wh_system.specs.Systems.{SystemData}
use Rattle.wh_pairs.specs.PairData.{PairData}
use Rattle.wh_pairs.specs.Candidates.{candidates}
use Rattle.wh_pairs.specs.SystemPairs.{HasPairs, HasTooManyPairs}
use Rattle.wh_pairs.proofs.SubsumptionLaws.{one_list}
use Rattle.wh_read.specs.Reading.{Reads}
use Rattle.wh_read.proofs.OneSystem.{one_reading, read_or_refused}
use Rattle.wh_gen.specs.Family.{gen_data}
use Rattle.wh_gen.proofs.PairCount.{few_pairs}
use Rattle.wh_prover.specs.declared.answer.Options.{Options}
use Rattle.wh_prover.proofs.LoopLemmas.{loop_is_valid}
use Rattle.wh_answer.specs.declared.report.NamedRejection.TheVariants.{Syntax, NotATerm}
use Rattle.wh_answer.specs.declared.report.ReasonWord.{ReasonWord}
use Rattle.wh_answer.specs.declared.report.ReasonWord.TheVariants.{TooManyPairs}
use Rattle.wh_answer.specs.declared.report.Role.TheVariants.{System, Certificate, Output}
use Rattle.wh_answer.specs.declared.report.Report.{Report}
use Rattle.wh_answer.specs.declared.report.Report.TheVariants.{Yes, No, Rejected, Maybe, Refused, ReadFault, TooLong, Overflow, TooLarge}
use Rattle.wh_top_words.specs.Words.{Request, check, prove, show, gen, reduce, upgrade, refute, Asks}
use Rattle.wh_top_naming.specs.declared.status.Status.{Status}
use Rattle.wh_top_replies.specs.Words.{options_of}
use Rattle.wh_top_judging.specs.Texts.{IsShown}
use Rattle.wh_top_judging.specs.Outcomes.{Shelves, IsNo, ToldSystem, ToldText, Certified, Weighed, Judged, Checked, IsRefusedText, IsRefusedFor, StandsByText, StandsBySystem, Stands}
use Rattle.wh_top_replies.specs.Proving.{IsFoundText, IsNotFound, StandsForSearch}
use Rattle.wh_top_replies.specs.Generating.{StandsForGenerated}
use Rattle.wh_top_replies.specs.Reducing.{IsNotReduced, StandsForReduction}
use Rattle.wh_top_reducing.specs.Telling.{TellsReduced}
use Rattle.wh_top_replies.specs.Refuting.{TellsRefuted, options_with}
use Rattle.wh_cert.specs.Written.{Cert, yes, no}
use Rattle.wh_proof.specs.Valid.{IsValidCert}
use Rattle.wh_cert.specs.CertText.{CertText}
use Rattle.wh_cert_upgrade.specs.Upgraded.{upgraded}
use Rattle.wh_cert_upgrade_laws.proofs.SameNodes.{as_valid, as_small}
use Rattle.wh_top_upgrading.specs.Upgrading.{IsAccepted, IsUpgradedText, IsNotUpgradedFor, IsNotUpgraded, StandsForUpgrade}
use Rattle.wh_top_replies.specs.Complete.{HoldsText, HoldsSystem, IsComplete, IsRead}
use Rattle.wh_top_replies.specs.Run.{Replies, Served}
use Rattle.wh_top_replies.proofs.Asking.{count_asked}
use Rattle.wh_top_replies.proofs.Meaning.{same_yes, same_no, upgraded_yes}

-- a system has one list of pairs
pairs_one : (d : SystemData) (ps es : List PairData) → HasPairs d ps → HasPairs d es → ps ≡ es
pairs_one d ps es has also = one_list _ _ _ _ has.are also.are

not_too_many : (d : SystemData) (ps : List PairData) → HasPairs d ps → HasTooManyPairs d → ⊥
not_too_many d ps has (many, are, more) =
    let same : ps ≡ many = one_list _ _ _ _ has.are are in
    let few : length many ≤ 4096 = subst (λ (l : List PairData). length l ≤ 4096) same has.few in
    omega (arith, few, more)

-- what is told of the system in the file holds of the one that is read, and its pairs
told_holds : (s : Shelves) (file : List ℕ) (d : SystemData) (ps : List PairData) (P : SystemData → List PairData → Type 0)
    → HoldsSystem s file d ps → ToldSystem (s.held file) P → P d ps
told_holds s file d ps P holds told = by (told holds.bytes holds.read.told)
  where
    by : (length holds.bytes ≤ system_limit) × (e : SystemData) × (es : List PairData) × Reads holds.bytes e × HasPairs e es × P e es
        → P d ps
    by (within, e, es, reads, has, p) =
        let same : e ≡ d = one_reading holds.bytes e d reads holds.reads in
        let pairs : es ≡ ps = pairs_one d es ps (subst (λ x. HasPairs x es) same has) holds.has in
        subst (P d) pairs (subst (λ x. P x es) same p)

-- so does what is told of the system alone
text_holds : (s : Shelves) (file : List ℕ) (d : SystemData) (P : SystemData → Type 0) → HoldsText s file d → ToldText (s.held file) P → P d
text_holds s file d P holds told = by (told holds.bytes holds.read.told)
  where
    by : (length holds.bytes ≤ system_limit) × (e : SystemData) × Reads holds.bytes e × P e → P d
    by (within, e, reads, p) = subst P (one_reading holds.bytes e d reads holds.reads) p

-- the text of the system file is not refused
text_not_refused : (s : Shelves) (file : List ℕ) (d : SystemData) (at : ℕ) (word : ReasonWord) → HoldsText s file d
    → IsRefusedText (s.held file) word at → ⊥
text_not_refused s file d at TooManyPairs holds refused = refused
text_not_refused s file d at word holds refused =
    let (within, r, is, place, refuses) = refused holds.bytes holds.read.told in
    read_or_refused holds.bytes d r holds.reads refuses

-- nor does it decide any other answer
not_by_text : (s : Shelves) (file : List ℕ) (d : SystemData) (o : Report) → HoldsText s file d → StandsByText s file o → ⊥
not_by_text s file d (ReadFault System) holds rose = holds.read.calm rose
not_by_text s file d (TooLong System) holds long =
    let more = long holds.bytes holds.read.told in
    omega (arith, more, holds.read.within)
not_by_text s file d (Refused word at) holds refused = text_not_refused s file d at word holds refused
not_by_text s file d o holds stands = stands

text_held : (s : Shelves) (file : List ℕ) (d : SystemData) (ps : List PairData) → HoldsSystem s file d ps → HoldsText s file d
text_held s file d ps holds = record { bytes = holds.bytes; read = holds.read; reads = holds.reads }

-- the system file is not refused
not_refused : (s : Shelves) (file : List ℕ) (d : SystemData) (ps : List PairData) (at : ℕ) (word : ReasonWord) → HoldsSystem s file d ps
    → IsRefusedFor (s.held file) word at → ⊥
not_refused s file d ps at TooManyPairs holds (first, many) =
    let (within, e, reads, more) = many holds.bytes holds.read.told in
    not_too_many d ps holds.has (subst HasTooManyPairs (one_reading holds.bytes e d reads holds.reads) more)
not_refused s file d ps at word holds refused = text_not_refused s file d at word (text_held s file d ps holds) refused

-- nor does it decide any other answer alone
not_by_system : (s : Shelves) (file : List ℕ) (d : SystemData) (ps : List PairData) (o : Report) → HoldsSystem s file d ps
    → StandsBySystem s file o → ⊥
not_by_system s file d ps (Refused word at) holds refused = not_refused s file d ps at word holds refused
not_by_system s file d ps o holds stands = not_by_text s file d o (text_held s file d ps holds) stands

-- what the certificate's file was told to come to, its bytes come to
checked_judged : (held : Option (List ℕ)) (d : SystemData) (ps : List PairData) (bytes : List ℕ) (o : Report) → held ≡ Some bytes
    → Checked held d ps o → Judged d ps bytes o
checked_judged held d ps bytes (Rejected (Syntax at)) told checked = (checked bytes told).1
checked_judged held d ps bytes o told (c, weighed, text) = (c, (text bytes told).1, weighed)

check_judged : (s : Shelves) (file cert : List ℕ) (d : SystemData) (ps : List PairData) (bytes : List ℕ) (o : Report)
    → HoldsSystem s file d ps → IsRead s cert certificate_limit bytes → Stands s file cert o → Judged d ps bytes o
check_judged s file cert d ps bytes o holds read stands = by o stands
  where
    judged : (o : Report) → ToldSystem (s.held file) (λ e es. Checked (s.held cert) e es o) → Judged d ps bytes o
    judged o told = checked_judged (s.held cert) d ps bytes o read.told
        (told_holds s file d ps (λ e es. Checked (s.held cert) e es o) holds told)

    by : (o : Report) → Stands s file cert o → Judged d ps bytes o
    by (ReadFault Certificate) stands = absurd (read.calm stands.0)
    by (TooLong Certificate) stands = let more = stands.0 bytes read.told in absurd (omega (arith, more, read.within))
    by Yes stands = judged Yes stands
    by No stands = judged No stands
    by (Rejected named) stands = judged (Rejected named) stands
    by (Overflow k) stands = judged (Overflow k) stands
    by (TooLarge k) stands = judged (TooLarge k) stands
    by o stands = absurd (not_by_system s file d ps o holds stands)

-- a check of the text that a search writes accepts it
found_judged : (d : SystemData) (ps : List PairData) (o : Options) (text : List ℕ) → IsFoundText d ps o text
    → Judged d ps text Yes ⊎ Judged d ps text No
found_judged d ps o text (inl ((c, is, spelled), begins)) = inl (c, spelled, (same_yes c is.yes, is.valid, is.small))
found_judged d ps o text (inr ((c, is, spelled), begins)) = inr (c, spelled, (same_no c is.no, loop_is_valid d ps o.depth c is.loops))

search_told : (s : Shelves) (file : List ℕ) (d : SystemData) (ps : List PairData) (options : Options) (o : Report) → HoldsSystem s file d ps
    → StandsForSearch s file options o → IsNotFound d ps options o
search_told s file d ps options (Maybe named) holds stands =
    told_holds s file d ps (λ e es. IsNotFound e es options (Maybe named)) holds stands
search_told s file d ps options (TooLong Output) holds stands =
    told_holds s file d ps (λ e es. IsNotFound e es options (TooLong Output)) holds stands
search_told s file d ps options o holds stands = absurd (not_by_system s file d ps o holds stands)

-- a generated system is not refused
never_refused : (n : ℕ) (o : Report) → 1 ≤ n → n ≤ 200 → StandsForGenerated n o → ⊥
never_refused n (Refused TooManyPairs at) some few (first, many) = few_pairs n some few many
never_refused n o some few stands = stands

-- a term is rejected only for its text
reduction_told : (s : Shelves) (file term : List ℕ) (d : SystemData) (o : Report) → HoldsText s file d → StandsForReduction s file term o
    → IsNotReduced d term o
reduction_told s file term d (Rejected NotATerm) holds stands =
    text_holds s file d (λ e. IsNotReduced e term (Rejected NotATerm)) holds stands
reduction_told s file term d o holds stands = absurd (not_by_text s file d o holds stands)

-- so is that of a loop, which is upgraded to itself
loop_judged : (d : SystemData) (ps : List PairData) (text : List ℕ) (c : Cert) → IsNo c → CertText text (upgraded (length d.rules) c)
    → IsValidCert d ps c → Judged d ps text No
loop_judged d ps text (yes version ranks pairs nodes) is spelled valid = absurd is
loop_judged d ps text (no term steps at puts) is spelled valid = (no term steps at puts, spelled, (tt, valid))

-- a check of the text of an upgraded certificate accepts it
upgraded_judged : (d : SystemData) (ps : List PairData) (bytes text : List ℕ) (c : Cert) → CertText bytes c
    → CertText text (upgraded (length d.rules) c) → IsAccepted d ps c → Judged d ps text Yes ⊎ Judged d ps text No
upgraded_judged d ps bytes text c read spelled (inl (is, valid, small)) = inl (
  upgraded (length d.rules) c,
  spelled,
  (
    upgraded_yes (length d.rules) c is,
    (as_valid d ps c read.fits).1 valid,
    (as_small d ps c read.fits).1 small,
  ),
)
upgraded_judged d ps bytes text c read spelled (inr (is, valid)) = inr (loop_judged d ps text c is spelled valid)

upgrade_told : (s : Shelves) (file cert : List ℕ) (d : SystemData) (ps : List PairData) (bytes : List ℕ) (o : Report)
    → HoldsSystem s file d ps → IsRead s cert certificate_limit bytes → StandsForUpgrade s file cert o → IsNotUpgraded d ps bytes o
upgrade_told s file cert d ps bytes o holds read stands = by o stands
  where
    by : (o : Report) → StandsForUpgrade s file cert o → IsNotUpgraded d ps bytes o
    by Yes stands = absurd stands
    by No stands = absurd stands
    by (TooLong Output) stands =
        let (c, why, told) = told_holds s file d ps (λ e es. Certified (s.held cert) (λ c. IsNotUpgradedFor e es c (TooLong Output))) holds stands in
        (c, (told bytes read.told).1, why)
    by (Rejected (Syntax at)) stands = check_judged s file cert d ps bytes (Rejected (Syntax at)) holds read stands
    by o stands = check_judged s file cert d ps bytes o holds read stands

complete : (s : Shelves) (words : List (List ℕ)) (request : Request) (status : Status) (text : List ℕ) → Asks words request
    → Replies s request status text → IsComplete s request status text
complete s words (check file cert) status text asks reply = λ d ps bytes holds read. record {
  report = reply.report;
  stands = check_judged s file cert d ps bytes reply.report holds read reply.stands;
  status_is = reply.status_is;
  text_is = reply.text_is;
}
complete s words (prove file b) status text asks (inl shows) = λ d ps holds.
    inl (
      shows.status_is,
      shows.within,
      found_judged d ps (options_of b) text
          (told_holds s file d ps (λ e es. IsFoundText e es (options_of b) text) holds shows.found),
    )
complete s words (prove file b) status text asks (inr tells) = λ d ps holds. inr (record {
  report = tells.report;
  stands = search_told s file d ps (options_of b) tells.report holds tells.stands;
  status_is = tells.status_is;
  text_is = tells.text_is;
})
complete s words (show file) status text asks (inl shows) = λ d ps holds.
    (shows.status_is, (told_holds s file d ps (IsShown text) holds shows.system).0)
complete s words (show file) status text asks (inr tells) = λ d ps holds.
    absurd (not_by_system s file d ps tells.report holds tells.stands)
complete s words (gen n) status text asks (inl shows) = shows.status_is
complete s words (gen n) status text asks (inr tells) =
    let (some, few) = count_asked words n asks in
    absurd (never_refused n tells.report some few tells.stands)
complete s words (reduce file term n) status text asks (inl shows) = λ d holds.
    inl (shows.status_is, text_holds s file d (λ e. TellsReduced e term n text) holds shows.told)
complete s words (reduce file term n) status text asks (inr tells) = λ d holds. inr (record {
  report = tells.report;
  stands = reduction_told s file term d tells.report holds tells.stands;
  status_is = tells.status_is;
  text_is = tells.text_is;
})
complete s words (upgrade file cert) status text asks (inl shows) = λ d ps bytes holds read.
    let (c, (is, spelled), told) = told_holds s file d ps (λ e es. Certified (s.held cert) (λ c. IsUpgradedText e es c text)) holds shows.found in
    let of_bytes = (told bytes read.told).1 in
    inl (shows.status_is, shows.within, (c, of_bytes, (is, spelled)), upgraded_judged d ps bytes text c of_bytes spelled is)
complete s words (upgrade file cert) status text asks (inr tells) = λ d ps bytes holds read. inr (record {
  report = tells.report;
  stands = upgrade_told s file cert d ps bytes tells.report holds read tells.stands;
  status_is = tells.status_is;
  text_is = tells.text_is;
})
complete s words (refute file n) status text asks (inl shows) = λ d ps holds.
    (shows.status_is, told_holds s file d ps (λ e es. TellsRefuted e es (options_with n) text) holds shows.told)
complete s words (refute file n) status text asks (inr tells) = λ d ps holds.
    absurd (not_by_system s file d ps tells.report holds tells.stands)

-- what is asked is served
pub served : (s : Shelves) (words : List (List ℕ)) (request : Request) (status : Status) (text : List ℕ) → Asks words request
    → Replies s request status text → Served s words status text
served s words request status text asks reply = record {
  request = request;
  asks = asks;
  reply = reply;
  complete = complete s words request status text asks reply;
}
