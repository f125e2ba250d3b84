use Rattle.wh_cert_parts.proofs.TypeCode.{room_last}
use Rattle.wh_cert_parts.proofs.type_reader.has_room.Goals as goal

pub returns-in-Some : goal.returns-in-Some
returns-in-Some c =
    room_last c.args.stack.now c.in-Some.args.now c.as_slice.result.now c.in-Some.ensures.item.0 c.in-Some.ensures.item.1 c.as_slice.ensures
