-- The terms for variables that entries of a substitution stand for.
use Rattle.std.specs.Prelude.{List, Option, Some, None, map}
use Rattle.wh_types.specs.Erase.{ty}
use Rattle.wh_terms.specs.Erase.{tm}
use Rattle.wh_terms.specs.declared.subst.SubstEntry.{SubstEntry}
use Rattle.wh_system.specs.Systems.{SystemData}
use Rattle.wh_cert.specs.Written as written
use Rattle.wh_no.specs.Claim.{Put}
use Rattle.wh_no.specs.Valid.{IsPutOver}
use Rattle.wh_no.specs.Meaning.{SaysPut}

-- the put that an entry stands for
abbrev pub entry_put : SubstEntry → Put
entry_put e = record { number = e.number; kind = ty e.kind; value = tm e.value }

abbrev pub entry_puts : List SubstEntry → List Put
entry_puts = map entry_put

-- the entry is the typed put that the line says, or the line says none (ours)
abbrev pub SaysTyped : SystemData → written.Put → Option SubstEntry → Type 0
SaysTyped d line (Some e) = SaysPut d line (entry_put e) × IsPutOver d.symbols (entry_put e)
SaysTyped d line None = (p : Put) → SaysPut d line p → IsPutOver d.symbols p → ⊥
