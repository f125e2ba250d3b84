-- What a valid certificate of termination means.
use Rattle.std.proofs.Common.{ℕ, List}
use Rattle.wh_system.specs.Systems.{SystemData}
use Rattle.wh_pairs.specs.PairData.{PairData}
use Rattle.wh_system.specs.WellMade.{IsWellMadeSystem}
use Rattle.wh_pairs.specs.SystemPairs.{HasPairs}
use Rattle.wh_cert.specs.Written as w
use Rattle.wh_proof_nodes.proofs.SystemLaws.{proved_systems_end}
use Rattle.wh_checker.specs.Accepted.{AreBounded}
use Rattle.wh_proof.specs.Valid.{IsValidYes}

-- each well-typed term of the system is bounded
pub valid_yes-bounded : (d : SystemData) (ps : List PairData) (ranks : List ℕ) (pairs : ℕ) (nodes : List w.Node) → IsWellMadeSystem d → HasPairs d ps → IsValidYes d ps ranks pairs nodes → AreBounded d
valid_yes-bounded d ps ranks pairs nodes made has valid =
    proved_systems_end d made ranks valid.passing ps has.are valid.set valid.nodes valid.proves (λ n below. (valid.whole.each n).1 below)
