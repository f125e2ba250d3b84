use Rattle.std.proofs.Common.{[]}
use Rattle.wh_terms.specs.Erase.{tm}
use Rattle.wh_terms.proofs.TypeWalk.{told_some}
use Rattle.wh_terms.proofs.TypingLaws.{typed_loose, typed_term}
use Rattle.wh_system.specs.SystemView.{system_data}
use Rattle.wh_no.proofs.PutLemmas.{told_over}
use Rattle.wh_tell_parts.proofs.stepping.term_after.Goals as goal

pub step_at-requires-clause-shut : goal.step_at-requires-clause-shut
step_at-requires-clause-shut c =
    let S = (system_data c.args.system.now).symbols in
    let t = tm c.args.term.now in
    let told = told_over _ S c.new-no_metas.result t c.in_ok-found.field-0 c.signature.ensures c.new-no_metas.ensures c.in_ok-found.ensures in
    typed_loose (told_some S [] [] t c.in_ok-found.field-0 c.in-Some.found c.in-Some.is told)

pub step_at-requires-clause-plain : goal.step_at-requires-clause-plain
step_at-requires-clause-plain c =
    let S = (system_data c.args.system.now).symbols in
    let t = tm c.args.term.now in
    let told = told_over _ S c.new-no_metas.result t c.in_ok-found.field-0 c.signature.ensures c.new-no_metas.ensures c.in_ok-found.ensures in
    typed_term t (told_some S [] [] t c.in_ok-found.field-0 c.in-Some.found c.in-Some.is told)
