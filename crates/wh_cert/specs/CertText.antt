-- Which bytes are the text of which certificate, and where other bytes stop being the beginning of one (ours). The
-- grammar stands at the head of Text.
use Rattle.std.specs.Prelude.{ℕ, ◌≡◌, ◌≤◌, List, ◌++◌, length, take}
use Rattle.wh_cert.specs.Written.{Cert}
use Rattle.wh_cert.specs.Text.{text}
use Rattle.wh_cert.specs.Limits.{IsCert}

-- the bytes are the text of the certificate, which is within the limits
pub record CertText (bytes : List ℕ) (c : Cert) : Type 0 where
  pub fits : IsCert c
  pub spelled : bytes ≡ text c

-- the bytes begin the text of some certificate
abbrev pub Begins : List ℕ → Type 0
Begins p = (c : Cert) × (r : List ℕ) × CertText (p ++ r) c

-- n is the length of the longest prefix of the bytes that begins the text of some certificate
pub record SyntaxAt (bytes : List ℕ) (n : ℕ) : Type 0 where
  pub within : n ≤ length bytes
  pub begins : Begins (take n bytes)
  pub longest : (m : ℕ) → m ≤ length bytes → Begins (take m bytes) → m ≤ n

-- the bytes are no certificate text, and that is found at n
pub record FaultAt (bytes : List ℕ) (n : ℕ) : Type 0 where
  pub no_text : (c : Cert) → CertText bytes c → ⊥
  pub place : SyntaxAt bytes n
