-- When a certificate is valid for a system and its dependency pairs, and when it is small.
use Rattle.std.specs.Prelude.{ℕ, ◌≡◌, List, [], ◌∷◌, length}
use Rattle.wh_system.specs.Systems.{SystemData}
use Rattle.wh_access.specs.Passing.{IsPassing}
use Rattle.wh_pairs.specs.PairData.{PairData}
use Rattle.wh_pairs.specs.Sets.{IsWhole}
use Rattle.wh_cert.specs.Written as w
use Rattle.wh_cert.specs.Written.{Cert, yes, no}
use Rattle.wh_no.specs.Faults.{IsValidNo}
use Rattle.wh_proof.specs.Nodes.{Node}
use Rattle.wh_proof.specs.Proves.{Proves}
use Rattle.wh_proof.specs.Looked.{SayNodes}
use Rattle.wh_proof.specs.Small.{IsSmallYes}

-- a YES certificate with these parts is valid: the system is passing under its ranks, its count of the pairs is right,
-- and its nodes prove the set of all pairs (Kop 2012; Fuhs and Kop 2012 and 2019; the form is ours)
pub record IsValidYes (d : SystemData) (ps : List PairData) (ranks : List ℕ) (pairs : ℕ) (lines : List w.Node) : Type 0 where
  pub rank_count : length ranks ≡ d.symbols.sorts
  pub passing : IsPassing d ranks
  pub pair_count : pairs ≡ length ps
  pub set : List ℕ
  pub whole : IsWhole ps set
  pub nodes : List Node
  pub says : SayNodes d lines nodes
  pub proves : Proves d.symbols d.rules ps (set ∷ []) nodes

-- the certificate is valid for the system and its pairs
abbrev pub IsValidCert : SystemData → List PairData → Cert → Type 0
IsValidCert d ps (yes version ranks pairs lines) = IsValidYes d ps ranks pairs lines
IsValidCert d ps (no t steps at puts) = IsValidNo d (no t steps at puts)

-- the certificate is small: no value exceeds a limit where the sides are evaluated; a NO certificate has no nodes
abbrev pub IsSmallCert : SystemData → List PairData → Cert → Type 0
IsSmallCert d ps (yes version ranks pairs lines) = IsSmallYes d ps lines
IsSmallCert d ps (no t steps at puts) = Unit {0}
