-- What is answered where nothing goes wrong outside: all files are read, and the system is one, where they are asked
-- for with few enough pairs.
use Rattle.std.specs.Prelude.{ℕ, ◌≡◌, ◌≤◌, ◌⊎◌, List, length, Some}
use Rattle.wh_types.specs.Limits.{system_limit, certificate_limit}
use Rattle.wh_io.specs.Outside.{Rose}
use Rattle.wh_system.specs.Systems.{SystemData}
use Rattle.wh_pairs.specs.PairData.{PairData}
use Rattle.wh_pairs.specs.SystemPairs.{HasPairs}
use Rattle.wh_read.specs.Reading.{Reads}
use Rattle.wh_answer.specs.declared.report.Report.{Report}
use Rattle.wh_answer.specs.declared.report.Report.TheVariants.{Yes, No, Overflow, TooLarge}
use Rattle.wh_top_words.specs.Words.{Bounds, Request, check, prove, show, gen, reduce, upgrade, refute}
use Rattle.wh_top_naming.specs.declared.status.Status.{Status}
use Rattle.wh_top_naming.specs.declared.status.Status.TheVariants.{Answered}
use Rattle.wh_top_replies.specs.Words.{options_of}
use Rattle.wh_top_judging.specs.Texts.{shown_text, Tells}
use Rattle.wh_top_naming.specs.Status.{status_of}
use Rattle.wh_top_judging.specs.Outcomes.{Shelves, Judged}
use Rattle.wh_top_replies.specs.Proving.{IsNotFound}
use Rattle.wh_top_replies.specs.Reducing.{IsNotReduced}
use Rattle.wh_top_replies.specs.Refuting.{TellsRefuted, options_with}
use Rattle.wh_top_reducing.specs.Telling.{TellsReduced}
use Rattle.wh_cert.specs.Written.{Cert}
use Rattle.wh_cert.specs.CertText.{CertText}
use Rattle.wh_top_upgrading.specs.Upgrading.{IsUpgradedText, IsNotUpgraded}

-- the file was read without a fault, and these are its bytes, within the limit
pub record IsRead (s : Shelves) (file : List ℕ) (limit : ℕ) (bytes : List ℕ) : Type 0 where
  pub told : s.held file ≡ Some bytes
  pub calm : Rose (s.before file) (s.after file) → ⊥
  pub within : length bytes ≤ limit

-- the file was read, and is a text of this system
pub record HoldsText (s : Shelves) (file : List ℕ) (d : SystemData) : Type 0 where
  pub bytes : List ℕ
  pub read : IsRead s file system_limit bytes
  pub reads : Reads bytes d

-- the file was read, and is a text of this system, which has these pairs
pub record HoldsSystem (s : Shelves) (file : List ℕ) (d : SystemData) (ps : List PairData) : Type 0 where
  pub bytes : List ℕ
  pub read : IsRead s file system_limit bytes
  pub reads : Reads bytes d
  pub has : HasPairs d ps

-- the answer where nothing goes wrong outside. A check answers what the certificate comes to; a search writes a
-- certificate that a check accepts, or says why there is none; a system is shown; a generated system is always
-- answered; a term is reduced where the word is the text of one, and else rejected; a certificate that a check accepts
-- is upgraded to one that it accepts, if that is not too long; and the search for a refutation is always told of (ours)
abbrev pub IsComplete : Shelves → Request → Status → List ℕ → Type 0
IsComplete s (check file cert) status text =
    (d : SystemData) (ps : List PairData) (bytes : List ℕ) → HoldsSystem s file d ps → IsRead s cert certificate_limit bytes
    → Tells (Judged d ps bytes) status text
IsComplete s (prove file b) status text =
    (d : SystemData) (ps : List PairData) → HoldsSystem s file d ps
    → ((status ≡ Answered) × (length text ≤ certificate_limit) × (Judged d ps text Yes ⊎ Judged d ps text No))
    ⊎ Tells (IsNotFound d ps (options_of b)) status text
IsComplete s (show file) status text =
    (d : SystemData) (ps : List PairData) → HoldsSystem s file d ps → (status ≡ Answered) × (text ≡ shown_text d ps)
IsComplete s (gen n) status text = status ≡ Answered
IsComplete s (reduce file term n) status text =
    (d : SystemData) → HoldsText s file d → ((status ≡ Answered) × TellsReduced d term n text) ⊎ Tells (IsNotReduced d term) status text
IsComplete s (upgrade file cert) status text =
    (d : SystemData) (ps : List PairData) (bytes : List ℕ) → HoldsSystem s file d ps → IsRead s cert certificate_limit bytes
    → ((status ≡ Answered) × (length text ≤ certificate_limit) × ((c : Cert) × CertText bytes c × IsUpgradedText d ps c text)
    × (Judged d ps text Yes ⊎ Judged d ps text No)) ⊎ Tells (IsNotUpgraded d ps bytes) status text
IsComplete s (refute file n) status text =
    (d : SystemData) (ps : List PairData) → HoldsSystem s file d ps → (status ≡ Answered) × TellsRefuted d ps (options_with n) text

-- a value exceeds a limit in the node with that number
abbrev pub IsTooBigAt : ℕ → Report → Type 0
IsTooBigAt k (Overflow m) = m ≡ k
IsTooBigAt k (TooLarge m) = m ≡ k
IsTooBigAt k _ = ⊥

-- two answers are one, but that values may exceed both limits in one node (ours)
abbrev pub AreOneAnswer : Report → Report → Type 0
AreOneAnswer a b = (a ≡ b) ⊎ ((k : ℕ) × IsTooBigAt k a × IsTooBigAt k b)
