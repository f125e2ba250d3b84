-- Where the reader of certificates stands behind a whole certificate.
use Rattle.std.specs.Prelude.{◌≡◌}
use Rattle.wh_cert.specs.Written.{Cert, yes, no}
use Rattle.wh_cert_machines.specs.LineMachine.{finished, placed, Standing, stands, stands_yes}
use Rattle.wh_cert_machines.specs.YesMachine as y

-- all of the certificate was read
abbrev pub IsEnd : Standing → Cert → Type 0
IsEnd s (no t steps at puts) = s ≡ stands (placed t steps at puts) finished
IsEnd s (yes version ranks pairs nodes) = s ≡ stands_yes (y.so_far version ranks pairs nodes 0) y.finished
