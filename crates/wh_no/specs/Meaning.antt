-- What a certificate claims over a system, once its names are looked up.
use Rattle.std.specs.Prelude.{ℕ, ◌≡◌, List, [], ◌∷◌, Some}
use Rattle.wh_terms.specs.declared.path.Step as taken
use Rattle.wh_text.specs.RawTree.{RTm}
use Rattle.wh_system_parts.specs.Naming.{type_meant}
use Rattle.wh_system.specs.Systems.{SystemData}
use Rattle.wh_system_making.specs.Resolve.{Means}
use Rattle.wh_cert.specs.Written as written
use Rattle.wh_cert.specs.Written.{Cert, yes, no}
use Rattle.wh_no.specs.Claim.{Put, Claim}

-- a line `put` says this: its names stand for a type and for a well-typed term (ours)
pub record SaysPut (d : SystemData) (line : written.Put) (p : Put) : Type 0 where
  pub number : p.number ≡ line.number
  pub kind : type_meant d.sort_names line.kind ≡ Some p.kind
  pub value : Means d line.term p.value

-- the lines say these, one after another
abbrev pub SayPuts : SystemData → List written.Put → List Put → Type 0
SayPuts d [] [] = Unit {0}
SayPuts d (line ∷ lines) (p ∷ puts) = SaysPut d line p × SayPuts d lines puts
SayPuts d _ _ = ⊥

-- a certificate with these parts claims c over the system d (ours)
pub record Claims (d : SystemData) (raw : RTm) (all : List taken.Step) (path : List ℕ) (lines : List written.Put) (c : Claim) : Type 0 where
  pub term : Means d raw c.term
  pub steps : c.steps ≡ all
  pub at : c.at ≡ path
  pub puts : SayPuts d lines c.puts

-- the certificate claims c over the system d; a YES certificate claims nothing of the kind
abbrev pub Says : SystemData → Cert → Claim → Type 0
Says d (no t steps at lines) c = Claims d t steps at lines c
Says d (yes version ranks pairs nodes) c = ⊥
