use Rattle.wh_system.specs.SystemView.{system_data}
use Rattle.wh_pairs.specs.Views.{pairs_data}
use Rattle.wh_cert.specs.Said.{said}
use Rattle.wh_explain.proofs.Texts.{begun_means, of_report, said_so, weighed_means}
use Rattle.wh_explain.proofs.explain.weighed.Goals as goal

pub returns-clause-says : goal.returns-clause-says
returns-clause-says c =
    said_so (system_data c.args.problem.now.system) (pairs_data c.args.problem.now.pairs) (said c.args.certificate.now) c.in_ok-report.report
    c.headed.result c.in_ok-report.ensures (of_report c.in_ok-report.report c.verdict_of-verdict.result c.headed.result c.verdict_of-verdict.ensures c.headed.ensures)

pub returns-clause-means : goal.returns-clause-means
returns-clause-means c =
    let d = system_data c.args.problem.now.system in
    let ps = pairs_data c.args.problem.now.pairs in
    begun_means d _ c.headed.result
    (weighed_means d ps (said c.args.certificate.now) c.in_ok-report.report c.valid_certificates_mean_bounded.ensures c.valid_claims_are_unbounded.ensures
    c.is_well_made.ensures c.requires.pairs c.in_ok-report.ensures)
    (of_report c.in_ok-report.report c.verdict_of-verdict.result c.headed.result c.verdict_of-verdict.ensures c.headed.ensures)
