use Rattle.std.proofs.Common.{◌∙◌, subst}
use Rattle.wh_system.specs.SystemView.{system_data}
use Rattle.wh_pairs.specs.Views.{pairs_data}
use Rattle.wh_top_judging.specs.Outcomes.{Shelves, outside}
use Rattle.wh_top_judging.specs.Unread.{CertificateFault}
use Rattle.wh_top_judging.proofs.Standing.{carry}
use Rattle.wh_types.specs.Outcome.{MatchOr}
use Rattle.wh_cert.specs.Written.{Cert}
use Rattle.wh_cert.specs.CertText.{CertText}
use Rattle.wh_top_upgrading.specs.Upgrading.{IsUpgradedText, IsNotUpgraded, StandsForUpgrade}
use Rattle.wh_top_upgrading.proofs.Standing.{fault_upgrade, upgrade_stands}
use Rattle.wh_top_upgrading.proofs.upgrading.upgrade_files.Goals as goal

pub returns-in_err-certificate-clause-upgraded : goal.returns-in_err-certificate-clause-upgraded
returns-in_err-certificate-clause-upgraded g c =
    let s : Shelves = outside (g.S.Shelf.held c.args.shelf.now) (g.S.Shelf.faults c.args.shelf.now) (g.S.Shelf.faults c.certificate_in.new.shelf) in
    let mid = c.problem_in.new.shelf in
    carry c.from_residual-in_err-certificate.result c.in_err-certificate.field-0.0 _ (CertificateFault (g.S.Shelf.held mid c.args.cert.now) (g.S.Shelf.faults mid c.args.cert.now) (g.S.Shelf.faults c.certificate_in.new.shelf c.args.cert.now))
    (StandsForUpgrade s c.args.file.now c.args.cert.now) _ c.from_residual-in_err-certificate.ensures.1 c.in_err-certificate.ensures.read
    (λ o fault. fault_upgrade s c.args.file.now c.args.cert.now (system_data c.in_ok-problem.problem.system) (pairs_data c.in_ok-problem.problem.pairs) (g.S.Shelf.held mid c.args.cert.now) (g.S.Shelf.faults mid c.args.cert.now) o c.in_ok-problem.ensures.read
    (c.in_ok-problem.ensures.kept c.args.cert.now) (c.in_ok-problem.ensures.later c.args.cert.now) fault)

pub returns-clause-upgraded : goal.returns-clause-upgraded
returns-clause-upgraded g c =
    let s : Shelves = outside (g.S.Shelf.held c.args.shelf.now) (g.S.Shelf.faults c.args.shelf.now) (g.S.Shelf.faults c.certificate_in.new.shelf) in
    let d = system_data c.in_ok-problem.problem.system in
    let ps = pairs_data c.in_ok-problem.problem.pairs in
    upgrade_stands s c.args.file.now c.args.cert.now d ps c.in_ok-certificate.certificate c.upgraded_text.result c.in_ok-problem.ensures.read
    (λ bytes h. c.in_ok-certificate.ensures.read bytes (c.in_ok-problem.ensures.kept c.args.cert.now ∙ h))
    (subst (λ b. MatchOr c.upgraded_text.result (λ text. (e : Cert) × CertText b e × IsUpgradedText d ps e text) (IsNotUpgraded d ps b))
    c.as_slice.ensures c.upgraded_text.ensures.upgraded)
