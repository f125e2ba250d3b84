-- How the text of a proof or of a loop that was found begins.
use Rattle.std.proofs.Common.{◌≡◌, ℕ, ◌⊎◌, inl, inr, List, [], ◌∷◌, ◌++◌, codes, Result, Ok, Err, IfOk, refl, ◌∙◌}
use Rattle.wh_types.specs.Outcome.{MatchOr}
use Rattle.wh_types.specs.declared.want.Or.{Or}
use Rattle.wh_types.specs.declared.want.Or.TheVariants.{NoMemory, Because}
use Rattle.wh_pairs.specs.PairData.{PairData}
use Rattle.std.specs.Fmt.{decimal}
use Rattle.wh_system.specs.Systems.{SystemData}
use Rattle.wh_pairs.specs.PairData.{PairData}
use Rattle.wh_cert.specs.Text.{put_line, put_nodes, text}
use Rattle.wh_cert.specs.Text.{put_path, put_steps, put_puts}
use Rattle.wh_cert.specs.Written.{Cert, yes, no}
use Rattle.wh_cert.specs.CertText.{CertText}
use Rattle.wh_text.specs.Spelling.{put_term}
use Rattle.wh_prover.specs.Answers.{IsYes, IsNo, IsProof, IsLoopProof}
use Rattle.wh_prover.specs.declared.answer.Options.{Options}
use Rattle.wh_answer.specs.declared.report.Role.TheVariants.{Output}
use Rattle.wh_answer.specs.declared.report.Report.{Report}
use Rattle.wh_answer.specs.declared.report.Report.TheVariants.{TooLong}
use Rattle.wh_top_judging.specs.Outcomes.{BeginsWith}
use Rattle.wh_top_upgrading.specs.Output.{IsTextOf}
use Rattle.wh_top_replies.specs.Proving.{IsFoundText, IsNotFound}

-- it begins with the word
yes_begins : (c : Cert) → IsYes c → BeginsWith (codes "YES ") (text c)
yes_begins (yes version ranks pairs nodes) is = (
  decimal version ++ (10 ∷ (codes "ranks" ++ put_line ranks (codes "pairs " ++ (decimal pairs ++ (10 ∷ put_nodes nodes (codes "end" ++ (10 ∷ []))))))),
  refl,
)
yes_begins (no t steps at puts) is = absurd is

pub proof_begins : (d : SystemData) (ps : List PairData) (c : Cert) (bytes : List ℕ) → IsProof d ps c → bytes ≡ text c
    → BeginsWith (codes "YES ") bytes
proof_begins d ps c bytes is printed =
    let (rest, begins) = yes_begins c is.yes in
    (rest, printed ∙ begins)

-- so does that of a loop
no_begins : (c : Cert) → IsNo c → BeginsWith (codes "NO 1") (text c)
no_begins (no t steps at puts) is =
    (10 ∷ (codes "term " ++ put_term t (10 ∷ put_steps steps (codes "at /" ++ put_path at (10 ∷ put_puts puts (codes "end" ++ (10 ∷ [])))))), refl)
no_begins (yes version ranks pairs nodes) is = absurd is

pub loop_begins : (d : SystemData) (depth : ℕ) (c : Cert) (bytes : List ℕ) → IsLoopProof d depth c → bytes ≡ text c
    → BeginsWith (codes "NO 1") bytes
loop_begins d depth c bytes is printed =
    let (rest, begins) = no_begins c is.no in
    (rest, printed ∙ begins)

-- the text of a proof or of a loop is what was to be found, or is too long

found_or_long : (d : SystemData) (ps : List PairData) (o : Options) (c : Cert) (r : Result (List ℕ) (Or Report))
    → ((bytes : List ℕ) → CertText bytes c → IsFoundText d ps o bytes) → IsTextOf c r → MatchOr r (IsFoundText d ps o) (IsNotFound d ps o)
found_or_long d ps o c (Ok bytes) found is = found bytes is.0
found_or_long d ps o c (Err NoMemory) found is = tt
found_or_long d ps o c (Err (Because (TooLong Output))) found (bytes, spelled, long) = (bytes, found bytes spelled, long)
found_or_long d ps o c (Err (Because r)) found is = absurd is

pub proof_found : (d : SystemData) (ps : List PairData) (o : Options) (c : Cert) (r : Result (List ℕ) (Or Report))
    → IsProof d ps c → IsTextOf c r → MatchOr r (IsFoundText d ps o) (IsNotFound d ps o)
proof_found d ps o c r is text = found_or_long d ps o c r (λ bytes spelled. inl ((c, is, spelled), proof_begins d ps c bytes is spelled.spelled)) text

pub loop_found : (d : SystemData) (ps : List PairData) (o : Options) (c : Cert) (r : Result (List ℕ) (Or Report))
    → IsLoopProof d o.depth c → IsTextOf c r → MatchOr r (IsFoundText d ps o) (IsNotFound d ps o)
loop_found d ps o c r is text = found_or_long d ps o c r (λ bytes spelled. inr ((c, is, spelled), loop_begins d o.depth c bytes is spelled.spelled)) text

-- how what was found begins
pub found_begins : (d : SystemData) (ps : List PairData) (o : Options) (bytes : List ℕ) → IsFoundText d ps o bytes
    → BeginsWith (codes "YES ") bytes ⊎ BeginsWith (codes "NO 1") bytes
found_begins d ps o bytes (inl (proof, begins)) = inl begins
found_begins d ps o bytes (inr (loops, begins)) = inr begins

-- so does what was found where it is not too long
pub begins_if_found : (d : SystemData) (ps : List PairData) (o : Options) (r : Result (List ℕ) (Or Report)) → MatchOr r (IsFoundText d ps o) (IsNotFound d ps o)
    → IfOk r (λ bytes. BeginsWith (codes "YES ") bytes ⊎ BeginsWith (codes "NO 1") bytes)
begins_if_found d ps o (Ok bytes) found = found_begins d ps o bytes found
begins_if_found d ps o (Err e) found = tt
