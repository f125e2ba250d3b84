use Rattle.std.proofs.Common.{◌∙◌, sym}
use Rattle.wh_system_parts.proofs.RawTypes.{place_some, place_none}
use Rattle.wh_system_parts.proofs.types.+offset_of_type.Goals as goal

pub returns-in-Some : goal.returns-in-Some
returns-in-Some t c =
    c.offset_of_type.ensures ∙ place_some c.args.kind.now c.as_slice.result.now c.in-Some.first.now c.as_slice.ensures (sym c.in-Some.ensures.value)

pub returns-in-None : goal.returns-in-None
returns-in-None t c = place_none c.args.kind.now c.as_slice.result.now c.as_slice.ensures (sym c.in-None.ensures.value)
