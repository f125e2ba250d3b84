-- What an output means that begins with YES or with NO.
use Rattle.std.proofs.Common.{◌≡◌, ℕ, ◌≤◌, ◌⊎◌, inl, inr, List, length, [], ◌∷◌, ◌++◌, Option, Some, refl, sym, ap, ◌∙◌, subst, arith, append-nil, Bool, true, false, cond, ◌==◌}
use Rattle.std.specs.Prelude.{codes}
use Rattle.std.proofs.lemmas.List.{append_cancel_left}
use Rattle.wh_types.specs.Limits.{system_limit}
use Rattle.wh_terms.specs.Tree.{Tm}
use Rattle.wh_terms.specs.Typing.{WellTyped}
use Rattle.wh_step.specs.Reduction.{Bounded}
use Rattle.wh_system.specs.Systems.{SystemData}
use Rattle.wh_pairs.specs.PairData.{PairData}
use Rattle.wh_pairs.specs.SystemPairs.{HasPairs}
use Rattle.wh_read.specs.Reading.{Reads}
use Rattle.wh_read.proofs.OneSystem.{one_reading}
use Rattle.wh_read.proofs.ProperParts.{system_read}
use Rattle.wh_cert.specs.Written.{Cert, yes, no}
use Rattle.wh_cert.specs.CertText.{CertText}
use Rattle.wh_no.proofs.Valid.{valid-unbounded}
use Rattle.wh_proof.specs.Valid.{IsValidCert}
use Rattle.wh_checker.proofs.Bounded.{valid_yes-bounded}
use Rattle.wh_prover.specs.Answers as proofs
use Rattle.wh_top_naming.specs.declared.status.Status.{Status}
use Rattle.wh_answer.specs.Texts.{report_text}
use Rattle.wh_answer.specs.declared.report.Report.{Report}
use Rattle.wh_answer.specs.declared.report.Report.TheVariants.{Yes, No, Rejected, Maybe, Refused, BadWords, ReadFault, OutOfMemory, TooLong, Overflow, TooLarge}
use Rattle.wh_top_words.specs.Words.{Bounds, Request, check, prove, show, gen, reduce, upgrade, refute, Asks}
use Rattle.wh_top_replies.specs.Words.{AsksWhether, options_of}
use Rattle.wh_top_judging.specs.Outcomes.{Shelves, Told, IsYes, IsNo, BeginsWith, Checked, Certified, Weighed, Stands, StandsBySystem}
use Rattle.wh_prover.specs.declared.answer.Options.{Options}
use Rattle.wh_prover.proofs.LoopLemmas.{loop_is_valid}
use Rattle.wh_top_replies.specs.Proving.{IsFoundText, ShowsFound, StandsForSearch}
use Rattle.wh_top_replies.specs.Generating.{StandsForGenerated}
use Rattle.wh_top_replies.specs.Reducing.{StandsForReduction}
use Rattle.wh_top_judging.specs.Texts.{Tells}
use Rattle.wh_cert_upgrade.specs.Upgraded.{upgraded}
use Rattle.wh_top_upgrading.specs.Upgrading.{IsAccepted, IsUpgradedText, StandsForUpgrade}
use Rattle.wh_cert.specs.Text.{text as spelling}
use Rattle.wh_top_replies.specs.Run.{Answers, EndsWith, MeansYes, MeansNo, Replies, SaysNo, TextSaysNo, ShowsUpgraded}

-- a system that is read and has a valid YES certificate
pub yes_means : (system : List ℕ) (d : SystemData) (ps : List PairData) (c : Cert) → Reads system d → HasPairs d ps → IsYes c
    → IsValidCert d ps c → MeansYes system
yes_means system d ps c reads has is valid = record {
  data_read = d;
  reads = reads;
  one = λ other r. one_reading system other d r reads;
  bounded = by c is valid;
}
  where
    by : (c : Cert) → IsYes c → IsValidCert d ps c → (t : Tm) → WellTyped d.symbols t → Bounded d.rules t
    by (yes version ranks pairs nodes) is valid = valid_yes-bounded d ps ranks pairs nodes (system_read system d reads) has valid
    by (no term steps at puts) is valid = absurd is

-- a valid NO certificate that is read for a system that is read
pub no_means : (system cert : List ℕ) (d : SystemData) (ps : List PairData) (c : Cert) → Reads system d → CertText cert c → IsNo c
    → IsValidCert d ps c → MeansNo system cert
no_means system cert d ps (yes version ranks pairs nodes) reads text is valid = absurd is
no_means system cert d ps (no term steps at puts) reads text is (claim, says, valid) = record {
  data_read = d;
  reads = reads;
  one = λ other r. one_reading system other d r reads;
  certificate = no term steps at puts;
  certified = text;
  claim = claim;
  claims = says;
  unbounded = valid-unbounded d.symbols d.rules claim (system_read system d reads).rules valid;
}

first_byte : (a b : ℕ) (xs ys : List ℕ) → a ∷ xs ≡ b ∷ ys → a ≡ b
first_byte a b xs ys e = cc

pub not_byte : (n a : ℕ) (xs rest : List ℕ) → (a ≡ n → ⊥) → a ∷ xs ≡ n ∷ rest → ⊥
not_byte n a xs rest differs e = differs (first_byte a n xs rest e)

-- of the texts of answers only that of YES begins so
only_yes : (o : Report) (rest : List ℕ) → report_text o ≡ 89 ∷ rest → o ≡ Yes
only_yes Yes rest e = refl
only_yes No rest e = absurd (not_byte 89 78 _ rest (λ d. omega arith) e)
only_yes (Rejected r) rest e = absurd (not_byte 89 82 _ rest (λ d. omega arith) e)
only_yes (Maybe c) rest e = absurd (not_byte 89 77 _ rest (λ d. omega arith) e)
only_yes (Refused r at) rest e = absurd (not_byte 89 82 _ rest (λ d. omega arith) e)
only_yes BadWords rest e = absurd (not_byte 89 66 _ rest (λ d. omega arith) e)
only_yes (ReadFault role) rest e = absurd (not_byte 89 82 _ rest (λ d. omega arith) e)
only_yes OutOfMemory rest e = absurd (not_byte 89 79 _ rest (λ d. omega arith) e)
only_yes (TooLong role) rest e = absurd (not_byte 89 84 _ rest (λ d. omega arith) e)
only_yes (Overflow k) rest e = absurd (not_byte 89 79 _ rest (λ d. omega arith) e)
only_yes (TooLarge k) rest e = absurd (not_byte 89 84 _ rest (λ d. omega arith) e)

-- of the texts of answers only that of NO begins so
only_no : (o : Report) (rest : List ℕ) → report_text o ≡ 78 ∷ rest → o ≡ No
only_no Yes rest e = absurd (not_byte 78 89 _ rest (λ d. omega arith) e)
only_no No rest e = refl
only_no (Rejected r) rest e = absurd (not_byte 78 82 _ rest (λ d. omega arith) e)
only_no (Maybe c) rest e = absurd (not_byte 78 77 _ rest (λ d. omega arith) e)
only_no (Refused r at) rest e = absurd (not_byte 78 82 _ rest (λ d. omega arith) e)
only_no BadWords rest e = absurd (not_byte 78 66 _ rest (λ d. omega arith) e)
only_no (ReadFault role) rest e = absurd (not_byte 78 82 _ rest (λ d. omega arith) e)
only_no OutOfMemory rest e = absurd (not_byte 78 79 _ rest (λ d. omega arith) e)
only_no (TooLong role) rest e = absurd (not_byte 78 84 _ rest (λ d. omega arith) e)
only_no (Overflow k) rest e = absurd (not_byte 78 79 _ rest (λ d. omega arith) e)
only_no (TooLarge k) rest e = absurd (not_byte 78 84 _ rest (λ d. omega arith) e)

some_same : (a b : List ℕ) → Some a ≡ Some b → a ≡ b
some_same a b e = cc

-- what was written is a front part of the text
pub output_front : (old new : Option (List ℕ)) (f g : ℕ) (status result : Status) (before text output : List ℕ)
    → EndsWith old new f g status text result → old ≡ Some before → new ≡ Some (before ++ output) → (back : List ℕ) × (text ≡ output ++ back)
output_front old new f g status result before text output (inl (same, wrote, faults)) e h =
    let both = some_same (before ++ text) (before ++ output) (sym (wrote before e) ∙ h) in
    ([], append_cancel_left before text output both ∙ sym (append-nil output))
output_front old new f g status result before text output (inr (fault, (front, back, some, cut, wrote), rose)) e h =
    let same = append_cancel_left before front output (some_same (before ++ front) (before ++ output) (sym (wrote before e) ∙ h)) in
    (back, cut ∙ ap (λ x. x ++ back) same)

-- what an answer can be whose text begins with a letter: the answer o to a check, the text of a proof or of a loop, or that of an
-- upgraded certificate
abbrev IsAnswerTo : Shelves → List (List ℕ) → Status → List ℕ → Report → Type 0
IsAnswerTo s words status text o =
    ((file cert : List ℕ) × Asks words (check file cert) × Stands s file cert o)
    ⊎ ((file : List ℕ) × (b : Bounds) × Asks words (prove file b) × ShowsFound s file (options_of b) status text)
    ⊎ ((file cert : List ℕ) × Asks words (upgrade file cert) × ShowsUpgraded s file cert status text)

-- it is one of these where no other answer has a text that begins so, and o is none of the system file alone, of a search, of a
-- generated system, of a term that is to be reduced, of a certificate that is not upgraded or of a refutation
only_answer : (s : Shelves) (words : List (List ℕ)) (status : Status) (text rest : List ℕ) (letter : ℕ) (o : Report)
    → ((p : Report) (more : List ℕ) → report_text p ≡ letter ∷ more → p ≡ o)
    → ((file : List ℕ) → StandsBySystem s file o → ⊥) → ((file : List ℕ) (options : Options) → StandsForSearch s file options o → ⊥)
    → ((n : ℕ) → StandsForGenerated n o → ⊥) → ((file term : List ℕ) → StandsForReduction s file term o → ⊥)
    → ((file cert : List ℕ) → StandsForUpgrade s file cert o → ⊥)
    → (83 ≡ letter → ⊥) → (82 ≡ letter → ⊥) → (85 ≡ letter → ⊥) → (71 ≡ letter → ⊥) → (66 ≡ letter → ⊥) → (79 ≡ letter → ⊥) → Answers s words status text → text ≡ letter ∷ rest
    → IsAnswerTo s words status text o
only_answer s words status text rest letter o only never never_found never_made never_reduced never_upgraded show_differs reduced_differs un_differs made_differs words_differ memory_differs (inl served) e =
    by served.request served.asks served.reply
  where
    told : (P : Report → Type 0) → Tells P status text → P o
    told P tells = subst P (only tells.report rest (sym tells.text_is ∙ e)) tells.stands

    by : (r : Request) → Asks words r → Replies s r status text → IsAnswerTo s words status text o
    by (check file cert) asks reply = inl (file, cert, asks, told (Stands s file cert) reply)
    by (prove file b) asks (inl shows) = inr (inl (file, b, asks, shows))
    by (prove file b) asks (inr tells) = absurd (never_found file (options_of b) (told (StandsForSearch s file (options_of b)) tells))
    by (show file) asks (inl shows) = absurd (not_byte letter 83 _ rest show_differs (sym shows.begins.1 ∙ e))
    by (show file) asks (inr tells) = absurd (never file (told (StandsBySystem s file) tells))
    by (gen n) asks (inl shows) = absurd (not_byte letter 71 _ rest made_differs (sym shows.text_is ∙ e))
    by (gen n) asks (inr tells) = absurd (never_made n (told (StandsForGenerated n) tells))
    by (reduce file term n) asks (inl shows) = absurd (not_byte letter 82 _ rest reduced_differs (sym shows.begins.1 ∙ e))
    by (reduce file term n) asks (inr tells) = absurd (never_reduced file term (told (StandsForReduction s file term) tells))
    by (upgrade file cert) asks (inl shows) = inr (inr (file, cert, asks, shows))
    by (upgrade file cert) asks (inr tells) = absurd (never_upgraded file cert (told (StandsForUpgrade s file cert) tells))
    by (refute file n) asks (inl shows) = elim shows.begins [
      | inl begins ↦ absurd (not_byte letter 82 _ rest reduced_differs (sym begins.1 ∙ e))
      | inr begins ↦ absurd (not_byte letter 85 _ rest un_differs (sym begins.1 ∙ e))
    ]
    by (refute file n) asks (inr tells) = absurd (never file (told (StandsBySystem s file) tells))
only_answer s words status text rest letter o only never never_found never_made never_reduced never_upgraded show_differs reduced_differs un_differs made_differs words_differ memory_differs (inr (inl misspoken)) e =
    absurd (not_byte letter 66 _ rest words_differ (sym misspoken.text_is ∙ e))
only_answer s words status text rest letter o only never never_found never_made never_reduced never_upgraded show_differs reduced_differs un_differs made_differs words_differ memory_differs (inr (inr starved)) e =
    absurd (not_byte letter 79 _ rest memory_differs (sym starved.text_is ∙ e))

only_yes_answers : (s : Shelves) (words : List (List ℕ)) (status : Status) (text rest : List ℕ) → Answers s words status text
    → text ≡ 89 ∷ rest → IsAnswerTo s words status text Yes
only_yes_answers s words status text rest answers e =
    only_answer s words status text rest 89 Yes only_yes (λ file h. h) (λ file options h. h) (λ n h. h) (λ file term h. h) (λ file cert h. h)
    (λ d. omega arith) (λ d. omega arith) (λ d. omega arith) (λ d. omega arith) (λ d. omega arith) (λ d. omega arith) answers e

only_no_answers : (s : Shelves) (words : List (List ℕ)) (status : Status) (text rest : List ℕ) → Answers s words status text
    → text ≡ 78 ∷ rest → IsAnswerTo s words status text No
only_no_answers s words status text rest answers e =
    only_answer s words status text rest 78 No only_no (λ file h. h) (λ file options h. h) (λ n h. h) (λ file term h. h) (λ file cert h. h)
    (λ d. omega arith) (λ d. omega arith) (λ d. omega arith) (λ d. omega arith) (λ d. omega arith) (λ d. omega arith) answers e

-- a certificate of termination, in the words of the search and of the check
pub same_yes : (c : Cert) → proofs.IsYes c → IsYes c
same_yes (yes version ranks pairs nodes) is = tt
same_yes (no term steps at puts) is = absurd is

pub same_no : (c : Cert) → proofs.IsNo c → IsNo c
same_no (yes version ranks pairs nodes) is = absurd is
same_no (no term steps at puts) is = tt

-- what begins the text of a certificate of termination, and that the upgraded one is one, too
yes_spelled : (c : Cert) → IsYes c → (rest : List ℕ) × (spelling c ≡ 89 ∷ rest)
yes_spelled (yes version ranks pairs nodes) is = (_, refl)
yes_spelled (no term steps at puts) is = absurd is

one_yes : (b : Bool) (c e : Cert) → IsYes c → IsYes e → IsYes (cond b c e)
one_yes true c e is also = is
one_yes false c e is also = also

pub upgraded_yes : (n : ℕ) (c : Cert) → IsYes c → IsYes (upgraded n c)
upgraded_yes n (yes version ranks pairs nodes) is = one_yes (version == 1) _ _ tt tt
upgraded_yes n (no term steps at puts) is = absurd is

-- the text of an upgraded certificate of termination begins with another letter than that of a loop
yes_letter : (n : ℕ) (c : Cert) (bytes rest : List ℕ) → IsYes c → CertText bytes (upgraded n c) → bytes ≡ 78 ∷ rest → ⊥
yes_letter n c bytes rest is spelled e =
    let (more, begins) = yes_spelled (upgraded n c) (upgraded_yes n c is) in
    not_byte 78 89 more rest (λ d. omega arith) (sym begins ∙ sym spelled.spelled ∙ e)

no_letter : (n : ℕ) (c : Cert) (bytes rest : List ℕ) → IsNo c → CertText bytes (upgraded n c) → bytes ≡ 89 ∷ rest → ⊥
no_letter n (yes version ranks pairs nodes) bytes rest is spelled e = absurd is
no_letter n (no term steps at puts) bytes rest is spelled e = not_byte 89 78 _ rest (λ d. omega arith) (sym spelled.spelled ∙ e)

-- a certificate of a loop is upgraded to itself
same_loop : (n : ℕ) (c : Cert) (bytes : List ℕ) → IsNo c → CertText bytes (upgraded n c) → CertText bytes c
same_loop n (yes version ranks pairs nodes) bytes is spelled = absurd is
same_loop n (no term steps at puts) bytes is spelled = spelled

-- an output that begins with YES means what it says
pub termination : (s : Shelves) (words : List (List ℕ)) (status : Status) (text : List ℕ) (old new : Option (List ℕ)) (f g : ℕ)
    (result : Status) → Answers s words status text → EndsWith old new f g status text result
    → (before output : List ℕ) → old ≡ Some before → new ≡ Some (before ++ output) → BeginsWith (codes "YES") output
    → (file : List ℕ) × AsksWhether words file × Told (s.held file) MeansYes
termination s words status text old new f g result answers ends before output e h (rest, begins) =
    let (back, cut) = output_front old new f g status result before text output ends e h in
    let begun = cut ∙ ap (λ x. x ++ back) begins in
    by _ begun (only_yes_answers s words status text _ answers begun)
  where
    by_check : (cert system : List ℕ) → (length system ≤ system_limit)
        × (d : SystemData) × (ps : List PairData) × Reads system d × HasPairs d ps × Checked (s.held cert) d ps Yes → MeansYes system
    by_check cert system (within, d, ps, reads, has, (c, (is, valid, small), told)) = yes_means system d ps c reads has is valid

    by_found : (options : Options) (system more : List ℕ) → text ≡ 89 ∷ more → (length system ≤ system_limit)
        × (d : SystemData) × (ps : List PairData) × Reads system d × HasPairs d ps × IsFoundText d ps options text → MeansYes system
    by_found options system more begun (within, d, ps, reads, has, inl ((c, is, spelled), first)) = yes_means system d ps c reads has (same_yes c is.yes) is.valid
    by_found options system more begun (within, d, ps, reads, has, inr (loops, first)) = absurd (not_byte 89 78 _ more (λ d. omega arith) (sym first.1 ∙ begun))

    accepted : (system more : List ℕ) (d : SystemData) (ps : List PairData) (c : Cert) → text ≡ 89 ∷ more → Reads system d → HasPairs d ps
        → CertText text (upgraded (length d.rules) c) → IsAccepted d ps c → MeansYes system
    accepted system more d ps c begun reads has spelled (inl (is, valid, small)) = yes_means system d ps c reads has is valid
    accepted system more d ps c begun reads has spelled (inr (is, valid)) = absurd (no_letter (length d.rules) c text more is spelled begun)

    by_upgraded : (cert system more : List ℕ) → text ≡ 89 ∷ more → (length system ≤ system_limit)
        × (d : SystemData) × (ps : List PairData) × Reads system d × HasPairs d ps × Certified (s.held cert) (λ c. IsUpgradedText d ps c text)
        → MeansYes system
    by_upgraded cert system more begun (within, d, ps, reads, has, (c, (is, spelled), told)) =
        accepted system more d ps c begun reads has spelled is

    by : (more : List ℕ) → text ≡ 89 ∷ more → IsAnswerTo s words status text Yes → (file : List ℕ) × AsksWhether words file × Told (s.held file) MeansYes
    by more begun (inl (file, cert, asks, stands)) = (file, inl (cert, asks), λ system held. by_check cert system (stands system held))
    by more begun (inr (inl (file, b, asks, shows))) =
        (file, inr (inl (b, asks)), λ system held. by_found (options_of b) system more begun (shows.found system held))
    by more begun (inr (inr (file, cert, asks, shows))) =
        (file, inr (inr (cert, asks)), λ system held. by_upgraded cert system more begun (shows.found system held))

-- a text that answers and begins with NO means what it says
pub text_says_no : (s : Shelves) (words : List (List ℕ)) (status : Status) (text : List ℕ) → Answers s words status text
    → BeginsWith (codes "NO") text → TextSaysNo s words text
text_says_no s words status text answers (rest, begun) = by _ begun (only_no_answers s words status text _ answers begun)
  where
    by_system : (cert system certificate : List ℕ) → s.held cert ≡ Some certificate → (length system ≤ system_limit)
        × (d : SystemData) × (ps : List PairData) × Reads system d × HasPairs d ps × Checked (s.held cert) d ps No
        → MeansNo system certificate
    by_system cert system certificate certified (within, d, ps, reads, has, (c, (is, valid), told)) =
        no_means system certificate d ps c reads (told certificate certified).1 is valid

    by_found : (options : Options) (system more : List ℕ) → text ≡ 78 ∷ more → (length system ≤ system_limit)
        × (d : SystemData) × (ps : List PairData) × Reads system d × HasPairs d ps × IsFoundText d ps options text → MeansNo system text
    by_found options system more begun (within, d, ps, reads, has, inl (proof, first)) = absurd (not_byte 78 89 _ more (λ d. omega arith) (sym first.1 ∙ begun))
    by_found options system more begun (within, d, ps, reads, has, inr ((c, is, spelled), first)) =
        no_means system text d ps c reads spelled (same_no c is.no) (loop_is_valid d ps options.depth c is.loops)

    accepted : (system more : List ℕ) (d : SystemData) (ps : List PairData) (c : Cert) → text ≡ 78 ∷ more → Reads system d
        → CertText text (upgraded (length d.rules) c) → IsAccepted d ps c → MeansNo system text
    accepted system more d ps c begun reads spelled (inl (is, valid, small)) =
        absurd (yes_letter (length d.rules) c text more is spelled begun)
    accepted system more d ps c begun reads spelled (inr (is, valid)) =
        no_means system text d ps c reads (same_loop (length d.rules) c text is spelled) is valid

    by_upgraded : (cert system more : List ℕ) → text ≡ 78 ∷ more → (length system ≤ system_limit)
        × (d : SystemData) × (ps : List PairData) × Reads system d × HasPairs d ps × Certified (s.held cert) (λ c. IsUpgradedText d ps c text)
        → MeansNo system text
    by_upgraded cert system more begun (within, d, ps, reads, has, (c, (is, spelled), told)) = accepted system more d ps c begun reads spelled is

    by : (more : List ℕ) → text ≡ 78 ∷ more → IsAnswerTo s words status text No → TextSaysNo s words text
    by more begun (inl (file, cert, asks, stands)) =
        inl (file, cert, asks, λ system held certificate certified. by_system cert system certificate certified (stands system held))
    by more begun (inr (inl (file, b, asks, shows))) =
        inr (file, inl (b, asks), λ system held. by_found (options_of b) system more begun (shows.found system held))
    by more begun (inr (inr (file, cert, asks, shows))) =
        inr (file, inr (cert, asks), λ system held. by_upgraded cert system more begun (shows.found system held))

-- an output that begins with NO means what it says
pub non_termination : (s : Shelves) (words : List (List ℕ)) (status : Status) (text : List ℕ) (old new : Option (List ℕ)) (f g : ℕ)
    (result : Status) → Answers s words status text → EndsWith old new f g status text result
    → (before output : List ℕ) → old ≡ Some before → new ≡ Some (before ++ output) → BeginsWith (codes "NO") output
    → SaysNo s words output
non_termination s words status text old new f g result answers ends before output e h (rest, begins) =
    let (back, cut) = output_front old new f g status result before text output ends e h in
    (text, (back, cut), text_says_no s words status text answers (rest ++ back, cut ∙ ap (λ x. x ++ back) begins))
