-- The numbers increase, so only the first entry that is not below can be for the variable.
use Rattle.std.proofs.Common.{length, refl, ap, sym, ◌∙◌, arith}
use Rattle.std.proofs.lemmas.Option.{slice_get_read, slice_get_within}
use Rattle.wh_types.specs.Erase.{ty}
use Rattle.wh_terms.proofs.TypingLaws.{some_one}
use Rattle.wh_no.proofs.SearchLemmas.{entry_found, no_entry}
use Rattle.wh_no.proofs.search.value_for.Goals as goal

pub returns-then-place-entries : goal.returns-then-place-entries
returns-then-place-entries c =
    let es = c.args.entries.now in
    let r = c.first_from-place.result in
    no_entry es c.args.number (ty c.args.kind.now) r c.requires c.first_from-place.ensures.before c.first_from-place.ensures.after
    (λ e at n k. absurd (omega (arith, slice_get_within es r e at, c.if-place-entries.true)))

pub returns-then-is_for : goal.returns-then-is_for
returns-then-is_for c =
    let es = c.args.entries.now in
    let r = c.first_from-place.result in
    let e = c.index-entries-place.result in
    let at = slice_get_read es (length es) r e refl (omega (arith, c.if-place-entries.false, c.first_from-place.ensures.within)) c.index-entries-place.is in
    let found = c.is_for.ensures.0 c.if-is_for.true in
    entry_found es c.args.number (ty c.args.kind.now) r e c.first_from-place.ensures.before at found.0 found.1

pub returns-else-is_for : goal.returns-else-is_for
returns-else-is_for c =
    let es = c.args.entries.now in
    let r = c.first_from-place.result in
    let at = slice_get_read es (length es) r c.index-entries-place.result refl (omega (arith, c.if-place-entries.false, c.first_from-place.ensures.within)) c.index-entries-place.is in
    no_entry es c.args.number (ty c.args.kind.now) r c.requires c.first_from-place.ensures.before c.first_from-place.ensures.after
    (λ e here n k.
    let same = some_one (sym here ∙ at) in
    let yes = c.is_for.ensures.1 (ap (λ d. d.number) (sym same) ∙ n, ap (λ d. ty d.kind) (sym same) ∙ k) in
    let no_match = c.if-is_for.false in
    absurd (cc))
