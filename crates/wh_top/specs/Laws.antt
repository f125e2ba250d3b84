-- Laws of what the search writes: the check accepts it, and it means what it says.
use Rattle.std.specs.Prelude.{ℕ, ◌≡◌, List}
use Rattle.wh_system.specs.Systems.{SystemData}
use Rattle.wh_pairs.specs.PairData.{PairData}
use Rattle.wh_system.specs.WellMade.{IsWellMadeSystem}
use Rattle.wh_pairs.specs.SystemPairs.{HasPairs}
use Rattle.wh_cert.specs.Written.{Cert}
use Rattle.wh_cert.specs.CertText.{CertText}
use Rattle.wh_polycheck.specs.Small.{with_limits}
use Rattle.wh_checker.specs.Accepted.{AreBounded, IsUnbounded}
use Rattle.wh_checker.specs.Faults.{IsFirstFault}
use Rattle.wh_checker.specs.declared.rejected.CheckFault.{CheckFault}
use Rattle.wh_loop_starts.specs.Found.{IsLoopCertificate}
use Rattle.wh_prover.specs.Answers.{IsProof, IsLoopProof}

-- the text of a proof is that of no other certificate, and no fault is the first of it, also where values have limits
abbrev pub ProofsAreAccepted : Type 0
ProofsAreAccepted = (d : SystemData) (ps : List PairData) (c : Cert) (bytes : List ℕ) → IsWellMadeSystem d → HasPairs d ps
    → IsProof d ps c → CertText bytes c
    → ((e : Cert) → CertText bytes e → e ≡ c) × ((f : CheckFault) → IsFirstFault with_limits d ps c f → ⊥)

-- the text of a loop's certificate is that of no other certificate, and no fault is the first of it, also where values
-- have limits
abbrev pub LoopsAreAccepted : Type 0
LoopsAreAccepted = (d : SystemData) (ps : List PairData) (depth : ℕ) (c : Cert) (bytes : List ℕ) → IsWellMadeSystem d
    → IsLoopCertificate d depth c → CertText bytes c
    → ((e : Cert) → CertText bytes e → e ≡ c) × ((f : CheckFault) → IsFirstFault with_limits d ps c f → ⊥)

-- where the search finds a proof, each well-typed term is bounded
abbrev pub ProofsMeanBounded : Type 0
ProofsMeanBounded = (d : SystemData) (ps : List PairData) (c : Cert) → IsWellMadeSystem d → HasPairs d ps → IsProof d ps c → AreBounded d

-- where it finds a loop, the term of the certificate has reductions of every length
abbrev pub LoopsMeanUnbounded : Type 0
LoopsMeanUnbounded = (d : SystemData) (depth : ℕ) (c : Cert) → IsWellMadeSystem d → IsLoopProof d depth c → IsUnbounded d c
