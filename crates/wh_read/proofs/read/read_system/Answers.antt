use Rattle.std.proofs.Common.{rules}
use Rattle.wh_text.specs.Erase.{tokens}
use Rattle.wh_text.specs.Pieces.{IsCutInto}
use Rattle.wh_system_parts.specs.Erase.{rparts}
use Rattle.wh_read.specs.Parsing.{Parses}
use Rattle.wh_read.specs.SyntaxFaults.{letters}
use Rattle.wh_read.proofs.ProperParts.{parsed_parts_are_proper}
use Rattle.wh_read.proofs.read.read_system.Goals as goal

pub system_of-requires : goal.system_of-requires
system_of-requires c =
    let bytes = c.args.bytes.now in
    let found = c.as_slice.result.now in
    let parts = rparts c.in-Ok-parse.parts in
    let cut : IsCutInto bytes found = search rules in
    let parses : Parses (letters bytes found) parts = search rules in
    parsed_parts_are_proper bytes (tokens bytes found) parts cut parses
