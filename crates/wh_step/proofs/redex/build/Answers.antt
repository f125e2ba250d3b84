use Rattle.std.proofs.Common.{◌≡◌, ◌∙◌, ap, sym}
use Rattle.wh_terms.specs.Erase.{tm}
use Rattle.wh_terms.specs.Entries.{bodies}
use Rattle.wh_terms.specs.Value.{Value}
use Rattle.wh_terms.proofs.Results.{IfOk-map}
use Rattle.wh_terms.proofs.ValuedLaws.{valued_of_value}
use Rattle.wh_step.specs.Contracta.{result_of}
use Rattle.wh_step.proofs.redex.build.Goals as goal

pub returns-in-Instance : goal.returns-in-Instance
returns-in-Instance c =
    IfOk-map (λ r. Value (bodies c.in-Instance.bodies) (tm c.in-Instance.right.now) (tm r)) (λ r. tm r ≡ result_of c.args.contractum.now) c.apply_meta.result
    (λ r value. valued_of_value (bodies c.in-Instance.bodies) (tm c.in-Instance.right.now) (tm r) value ∙ ap result_of (sym c.in-Instance.is)) c.apply_meta.ensures
