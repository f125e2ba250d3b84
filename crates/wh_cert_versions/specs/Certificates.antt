-- The certificate of a tree of nodes: of the first version where that says them all, else of the second one.
use Rattle.std.specs.Prelude.{ℕ, List, All, map}
use Rattle.wh_cert.specs.Written.{Node, Cert, yes}
use Rattle.wh_cert.specs.Limits.{IsOfVersion}
use Rattle.wh_cert.specs.Said.{said_node}
use Rattle.wh_cert.specs.declared.certificate.Node as code
use Rattle.wh_cert_upgrade.specs.Upgraded.{upgraded_node}

-- the node is one of the first version
abbrev pub IsFirst : code.Node → Type 0
IsFirst node = IsOfVersion 1 (said_node node)

-- the certificate of these nodes for a system with `rules` rules: of the first version where each node is of it; else
-- of the second one, where each node of interpretations that lists no rules gets the list of all
pub data IsCertificateOf (rules : ℕ) (ranks : List ℕ) (pairs : ℕ) (lines : List Node) : Cert → Type 0 where
  first : All (IsOfVersion 1) lines → IsCertificateOf rules ranks pairs lines (yes 1 ranks pairs lines)
  second : (All (IsOfVersion 1) lines → ⊥) → IsCertificateOf rules ranks pairs lines (yes 2 ranks pairs (map (upgraded_node rules) lines))
