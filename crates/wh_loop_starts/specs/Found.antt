-- Certificates of loops that the search found: which start, steps and instance they have.
use Rattle.std.specs.Prelude.{ℕ, ◌≤◌, length, All}
use Rattle.wh_terms.specs.Tree.{Tm}
use Rattle.wh_terms.specs.Typing.{Symbols}
use Rattle.wh_terms.specs.Sight.{Lacks}
use Rattle.wh_system.specs.Systems.{SystemData}
use Rattle.wh_cert.specs.Written.{Cert}
use Rattle.wh_cert.specs.Limits.{IsCert}
use Rattle.wh_no.specs.Claim.{Put, Claim}
use Rattle.wh_no.specs.Entry.{entry_puts}
use Rattle.wh_no.specs.Valid.{IsPutOver, IsBelow, HoldsInstance, IsValid}
use Rattle.wh_no.specs.Meaning.{Says}
use Rattle.std.specs.Prelude.{AllPairs}
use Rattle.wh_loop_starts.specs.Starts.{IsSomeStart}
use Rattle.wh_loop_starts.specs.declared.instance.Instance.{Instance}

-- the put is for a variable of the term: one with its number and its type stands there (ours)
abbrev pub IsPutFor : Tm → Put → Type 0
IsPutFor t p = Lacks p.number p.kind t → ⊥

-- the instance of t in u: where it stands, and what is put for variables of t there (ours)
pub record IsInstanceIn (S : Symbols) (t u : Tm) (i : Instance) : Type 0 where
  pub typed : All (IsPutOver S) (entry_puts i.puts.items)
  pub increasing : AllPairs IsBelow (entry_puts i.puts.items)
  pub for_variables : All (IsPutFor t) (entry_puts i.puts.items)
  pub holds : HoldsInstance t (entry_puts i.puts.items) i.at u

-- the claim is of the search's space: its term is the start of a rule, there are at most `depth` steps, and what is put
-- is put for variables of the term (ours)
pub record IsSearchedClaim (d : SystemData) (depth : ℕ) (c : Claim) : Type 0 where
  pub start : IsSomeStart d.rules c.term
  pub few : length c.steps ≤ depth
  pub for_variables : All (IsPutFor c.term) c.puts

-- the certificate is within the limits of its format, and says a valid claim of the search's space (ours)
pub record IsLoopCertificate (d : SystemData) (depth : ℕ) (c : Cert) : Type 0 where
  pub fits : IsCert c
  pub claim : Claim
  pub says : Says d c claim
  pub valid : IsValid d.symbols d.rules claim
  pub searched : IsSearchedClaim d depth claim
