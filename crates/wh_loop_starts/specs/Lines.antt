-- The lines of a certificate that say what is put for variables.
use Rattle.wh_system.specs.Systems.{SystemData}
use Rattle.wh_system.specs.Canonical.{raw_type_of, raw_of}
use Rattle.wh_system.specs.CanonicalView.{names_of_system}
use Rattle.wh_cert.specs.Written as written
use Rattle.wh_no.specs.Claim.{Put}

-- the canonical line of a put: its type and its term by their names (ours)
abbrev pub line_of : SystemData → Put → written.Put
line_of d p = record { number = p.number; kind = raw_type_of d.sort_names p.kind; term = raw_of (names_of_system d) p.value }
