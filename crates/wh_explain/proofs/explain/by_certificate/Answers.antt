use Rattle.std.proofs.Common.{◌∙◌, subst}
use Rattle.wh_system.specs.SystemView.{system_data}
use Rattle.wh_pairs.specs.Views.{pairs_data}
use Rattle.wh_top_judging.specs.Outcomes.{Shelves, outside, Stands, StandsBySystem, Judged}
use Rattle.wh_top_judging.specs.Unread.{CertificateFault}
use Rattle.wh_top_judging.proofs.Standing.{carry, certificate_stands, judged_stands}
use Rattle.wh_explain.specs.Meaning.{IsUnweighed}
use Rattle.wh_explain.proofs.Texts.{carry_cause, means_loop, means_proof, unweighed_certificate, unweighed_system}
use Rattle.wh_explain.proofs.explain.by_certificate.Goals as goal

pub returns-in_err-certificate-clause-says : goal.returns-in_err-certificate-clause-says
returns-in_err-certificate-clause-says g c =
    let s : Shelves = outside (g.S.Shelf.held c.args.shelf.now) (g.S.Shelf.faults c.args.shelf.now) (g.S.Shelf.faults c.certificate_in.new.shelf) in
    let mid = c.problem_in.new.shelf in
    carry c.from_residual-in_err-certificate.result c.in_err-certificate.field-0.0 _ (CertificateFault (g.S.Shelf.held mid c.args.cert.now) (g.S.Shelf.faults mid c.args.cert.now) (g.S.Shelf.faults c.certificate_in.new.shelf c.args.cert.now))
    (Stands s c.args.file.now c.args.cert.now) _ c.from_residual-in_err-certificate.ensures.1 c.in_err-certificate.ensures.read
    (λ o fault. certificate_stands s c.args.file.now c.args.cert.now (system_data c.in_ok-problem.problem.system) (pairs_data c.in_ok-problem.problem.pairs) (g.S.Shelf.held mid c.args.cert.now) (g.S.Shelf.faults mid c.args.cert.now) o c.in_ok-problem.ensures.read
    (c.in_ok-problem.ensures.kept c.args.cert.now) (c.in_ok-problem.ensures.later c.args.cert.now) fault)

pub returns-clause-says : goal.returns-clause-says
returns-clause-says g c =
    let s : Shelves = outside (g.S.Shelf.held c.args.shelf.now) (g.S.Shelf.faults c.args.shelf.now) (g.S.Shelf.faults c.certificate_in.new.shelf) in
    let d = system_data c.in_ok-problem.problem.system in
    let ps = pairs_data c.in_ok-problem.problem.pairs in
    let said = c.in_ok-explained.ensures.says in (
      said.0,
      judged_stands s c.args.file.now c.args.cert.now d ps c.in_ok-certificate.certificate said.0 c.in_ok-problem.ensures.read
          (λ bytes h. c.in_ok-certificate.ensures.read bytes (c.in_ok-problem.ensures.kept c.args.cert.now ∙ h))
          (subst (λ b. Judged d ps b said.0) c.as_slice.ensures said.1),
      said.2,
    )

pub returns-clause-proof : goal.returns-clause-proof
returns-clause-proof g c =
    means_proof (g.S.Shelf.held c.args.shelf.now c.args.file.now) (system_data c.in_ok-problem.problem.system) c.in_ok-explained.field-0
    c.in_ok-problem.ensures.read.0 c.in_ok-explained.ensures.means

pub returns-clause-endless : goal.returns-clause-endless
returns-clause-endless g c =
    means_loop (g.S.Shelf.held c.args.shelf.now c.args.file.now) (system_data c.in_ok-problem.problem.system) c.in_ok-explained.field-0
    c.in_ok-problem.ensures.read.0 c.in_ok-explained.ensures.means

pub returns-in_err-problem-clause-unweighed : goal.returns-in_err-problem-clause-unweighed
returns-in_err-problem-clause-unweighed g c =
    let s : Shelves = outside (g.S.Shelf.held c.args.shelf.now) (g.S.Shelf.faults c.args.shelf.now) (g.S.Shelf.faults c.problem_in.new.shelf) in
    carry_cause c.from_residual.result c.in_err-problem.field-0.0 _ (StandsBySystem s c.args.file.now) IsUnweighed c.from_residual.ensures.1
    c.in_err-problem.ensures.read (unweighed_system s c.args.file.now)

pub returns-in_err-certificate-clause-unweighed : goal.returns-in_err-certificate-clause-unweighed
returns-in_err-certificate-clause-unweighed g c =
    let mid = c.problem_in.new.shelf in
    let held = g.S.Shelf.held mid c.args.cert.now in
    let before = g.S.Shelf.faults mid c.args.cert.now in
    let after = g.S.Shelf.faults c.certificate_in.new.shelf c.args.cert.now in
    carry_cause c.from_residual-in_err-certificate.result c.in_err-certificate.field-0.0 _ (CertificateFault held before after) IsUnweighed
    c.from_residual-in_err-certificate.ensures.1 c.in_err-certificate.ensures.read (unweighed_certificate held before after)
