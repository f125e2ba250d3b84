use Rattle.std.proofs.Common.{◌≡◌, List, [], Bool, None, sym, subst}
use Rattle.wh_types.specs.declared.want.Or.TheVariants.{NoMemory, Because}
use Rattle.wh_terms.specs.Erase.{tm}
use Rattle.wh_text.specs.Erase.{rtm}
use Rattle.wh_system_parts.specs.Faults.{first_fault}
use Rattle.wh_system_parts.specs.RuleTests.{new_meta_tests}
use Rattle.wh_system_resolve.specs.Marks.{AreMarked}
use Rattle.wh_system_resolve.proofs.AnswerLemmas.{matched_err}
use Rattle.wh_system_resolve.proofs.MarkLemmas.{are_marked}
use Rattle.wh_system_resolve.proofs.new_metas.check_new_metas.Goals as goal

pub returns-in_err-marks : goal.returns-in_err-marks
returns-in_err-marks c = λ s l known m fits.
    let tests = new_meta_tests s l [] (rtm c.args.raw.now) in
    matched_err (λ _. first_fault tests ≡ None) tests c.from_residual.result NoMemory c.from_residual.ensures.1 tt

pub returns-in_err-check_marked : goal.returns-in_err-check_marked
returns-in_err-check_marked c = λ s l known m fits.
    let tests = new_meta_tests s l [] (rtm c.args.raw.now) in
    let marked = are_marked s l (tm c.args.left.now) c.in_ok-marks.marks.items c.args.metas c.in_ok-marks.ensures known fits in
    matched_err (λ _. first_fault tests ≡ None) tests c.from_residual-in_err-check_marked.result (Because c.in_err-check_marked.field-0.0) c.from_residual-in_err-check_marked.ensures.1
    (c.in_err-check_marked.ensures s l [] (subst (λ (flags : List Bool). AreMarked s l flags) (sym c.deref.ensures.value) marked) m)

pub returns : goal.returns
returns c = λ s l known m fits.
    let marked = are_marked s l (tm c.args.left.now) c.in_ok-marks.marks.items c.args.metas c.in_ok-marks.ensures known fits in
    c.in_ok-check_marked.ensures s l [] (subst (λ (flags : List Bool). AreMarked s l flags) (sym c.deref.ensures.value) marked) m
