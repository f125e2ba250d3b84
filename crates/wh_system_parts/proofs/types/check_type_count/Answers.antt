use Rattle.std.proofs.Common.{ap, sym, ◌∙◌, refl, length, Some, slice_get, ◌≡◌}
use Rattle.std.proofs.lemmas.Option.{slice_get_read}
use Rattle.wh_text.specs.Erase.{rtys}
use Rattle.wh_system_parts.specs.Faults.{first_fault}
use Rattle.wh_system_parts.specs.Tests.{count_of_types}
use Rattle.wh_system_parts.specs.declared.fault.SystemFault.TheVariants.{TooMany}
use Rattle.wh_system_parts.proofs.RawTypes.{count_past, count_within}
use Rattle.wh_system_parts.proofs.types.check_type_count.Goals as goal

pub returns-in-Some : goal.returns-in-Some
returns-in-Some c =
    let found : slice_get c.as_slice.result.now 32 ≡ Some c.in-Some.kind.now =
    slice_get_read c.as_slice.result.now (length c.as_slice.result.now) 32 c.in-Some.kind.now refl c.in-Some.ensures.lookup.3.0 c.in-Some.ensures.lookup.1 in
    ap (λ xs. first_fault (count_of_types 0 (rtys xs))) (sym c.as_slice.ensures)
    ∙ count_past c.as_slice.result.now 32 0 c.in-Some.kind.now refl found ∙ ap (λ at. Some (TooMany at)) (sym c.offset_of_type.ensures)

pub returns-in-None : goal.returns-in-None
returns-in-None c =
    ap (λ xs. first_fault (count_of_types 0 (rtys xs))) (sym c.as_slice.ensures)
    ∙ count_within c.as_slice.result.now 32 0 refl c.in-None.ensures.lookup.3
