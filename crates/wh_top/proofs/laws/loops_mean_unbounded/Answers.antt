use Rattle.wh_system.specs.Systems.{SystemData}
use Rattle.wh_cert.specs.Written.{Cert, yes, no}
use Rattle.wh_prover.specs.Answers.{IsLoopProof}
use Rattle.wh_checker.specs.Accepted.{IsUnbounded}
use Rattle.wh_top.proofs.laws.loops_mean_unbounded.Goals as goal

pub returns : goal.returns
returns c d depth cert made is = by cert is
  where
    by : (e : Cert) → IsLoopProof d depth e → IsUnbounded d e
    by (yes version ranks count lines) proof = absurd proof.no
    by (no t steps at puts) proof =
        let claim = proof.loops.claim in
        (claim.term, proof.loops.says.term, c.valid_claims_are_unbounded.ensures d.symbols d.rules claim made.rules proof.loops.valid)
