-- The canonical text of a well-made system reads as that system.
use Rattle.std.proofs.Common.{refl, sym}
use Rattle.wh_system.specs.Systems.{SystemData}
use Rattle.wh_system.specs.WellMade.{IsWellMadeSystem}
use Rattle.wh_system_making.specs.CanonicalParts.{canonical}
use Rattle.wh_system_making.proofs.UnplacedParts.{places_pass, places_say}
use Rattle.wh_system_making.proofs.CanonicalLaw.{canonical_passes, canonical_says}
use Rattle.wh_system_print.specs.SystemText.{system_text}
use Rattle.wh_read.specs.Raw.{said}
use Rattle.wh_read.specs.Reading.{Reads}
use Rattle.wh_system_print.proofs.Lines.{SystemWritten, system_written}
use Rattle.wh_system_print.proofs.SpelledSystem.{system_spelled}

-- the tokens of the text spell what says the canonical parts, but for places, and places do not matter
pub text_read_back : (d : SystemData) → IsWellMadeSystem d → Reads (system_text d) d
text_read_back d w =
    let s : SystemWritten d = system_written d (system_spelled d w) in
    record {
      tokens = s.tokens;
      cut = s.cut;
      parts = said s.written;
      parses = record { written = s.written; fits = s.fits; spelling = s.spelling; parts_are = refl };
      passes = places_pass (canonical d) (said s.written) (sym s.says) (canonical_passes d w);
      says = places_say (canonical d) (said s.written) d (sym s.says) (canonical_says d w);
    }
