-- The certificate of a loop is valid.
use Rattle.std.proofs.Common.{ℕ, List}
use Rattle.wh_system.specs.Systems.{SystemData}
use Rattle.wh_pairs.specs.PairData.{PairData}
use Rattle.wh_cert.specs.Written.{Cert, yes, no}
use Rattle.wh_proof.specs.Valid.{IsValidCert, IsSmallCert}
use Rattle.wh_loop_starts.specs.Found.{IsLoopCertificate}
use Rattle.wh_prover.specs.Answers.{IsNo}

-- it is one of non-termination
pub loop_says_no : (d : SystemData) (depth : ℕ) (c : Cert) → IsLoopCertificate d depth c → IsNo c
loop_says_no d depth (yes version ranks pairs lines) is = absurd is.says
loop_says_no d depth (no t steps at puts) is = tt

-- it is valid
pub loop_is_valid : (d : SystemData) (ps : List PairData) (depth : ℕ) (c : Cert) → IsLoopCertificate d depth c → IsValidCert d ps c
loop_is_valid d ps depth (yes version ranks pairs lines) is = absurd is.says
loop_is_valid d ps depth (no t steps at puts) is = (is.claim, is.says, is.valid)

-- and it has no values that exceed a limit
pub loop_is_small : (d : SystemData) (ps : List PairData) (depth : ℕ) (c : Cert) → IsLoopCertificate d depth c → IsSmallCert d ps c
loop_is_small d ps depth (yes version ranks pairs lines) is = absurd is.says
loop_is_small d ps depth (no t steps at puts) is = tt
