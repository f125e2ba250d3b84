-- A term has one type, so another one than was found is none of its types.
use Rattle.std.proofs.Common.{[], refl}
use Rattle.wh_types.specs.Erase.{ty}
use Rattle.wh_terms.specs.Erase.{tm, symbols}
use Rattle.wh_terms.proofs.TypeWalk.{told_some, told_none}
use Rattle.wh_no.proofs.PutLemmas.{told_over, typed_same}
use Rattle.wh_loop_starts.proofs.entries.has_type.Goals as goal

pub returns-in-Some : goal.returns-in-Some
returns-in-Some c =
    let S = symbols c.args.signature.now in
    let t = tm c.args.term.now in
    let told = told_over S S c.new-no_metas.result t c.in_ok-found.field-0 refl c.new-no_metas.ensures c.in_ok-found.ensures in
    typed_same S t (ty c.args.kind.now) (ty c.in-Some.found) c.same_type.result (told_some S [] [] t c.in_ok-found.field-0 c.in-Some.found c.in-Some.is told) c.same_type.ensures

pub returns : goal.returns
returns c =
    let S = symbols c.args.signature.now in
    let t = tm c.args.term.now in
    let told = told_over S S c.new-no_metas.result t c.in_ok-found.field-0 refl c.new-no_metas.ensures c.in_ok-found.ensures in
    told_none S [] [] t c.in_ok-found.field-0 c.in-None.is told (ty c.args.kind.now)
