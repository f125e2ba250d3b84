use Rattle.std.proofs.Common.{List}
use Rattle.wh_system.specs.Systems.{SystemData}
use Rattle.wh_pairs.specs.PairData.{PairData}
use Rattle.wh_cert.specs.Written.{Cert, yes, no}
use Rattle.wh_prover.specs.Answers.{IsProof}
use Rattle.wh_checker.specs.Accepted.{AreBounded}
use Rattle.wh_top.proofs.laws.proofs_mean_bounded.Goals as goal

pub returns : goal.returns
returns c d ps cert made pairs is = by cert is
  where
    by : (e : Cert) → IsProof d ps e → AreBounded d
    by (yes version ranks count lines) proof =
        c.valid_certificates_mean_bounded.ensures d ps ranks count lines made pairs proof.valid
    by (no t steps at puts) proof = absurd proof.yes
