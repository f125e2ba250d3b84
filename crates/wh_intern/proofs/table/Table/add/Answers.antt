use Rattle.wh_intern.proofs.PartsJoined.{parts_joined}
use Rattle.wh_intern.proofs.table.Table.add.Goals as goal

pub returns-clause-parts : goal.returns-clause-parts
returns-clause-parts c = parts_joined _ _ _ _ c.in_ok-number.ensures.number c.insert.ensures.grows c.has_parts.ensures.there
