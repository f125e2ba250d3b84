use Rattle.std.proofs.Common.{refl, length}
use Rattle.std.proofs.lemmas.Option.{slice_get_read}
use Rattle.wh_system_parts.specs.Parts.{RRule}
use Rattle.wh_system_parts.specs.Erase.{rrule}
use Rattle.wh_system_parts.proofs.DeclarationLemmas.{count_over, count_under}
use Rattle.wh_system_parts.proofs.declarations.check_rule_count.Goals as goal

pub returns-in-Some : goal.returns-in-Some
returns-in-Some c =
    let xs = c.args.rules.now in
    count_over rrule (λ (r : RRule). r.at) 1024 xs c.in-Some.extra.now (slice_get_read xs (length xs) 1024 c.in-Some.extra.now refl c.in-Some.ensures.lookup.3.0 c.in-Some.ensures.lookup.1)

pub returns-in-None : goal.returns-in-None
returns-in-None c = count_under rrule (λ (r : RRule). r.at) 1024 c.args.rules.now c.in-None.ensures.lookup.3
