use Rattle.std.specs.Prelude.{◌≡◌}
use Rattle.wh_terms.specs.Erase.{tm}
use Rattle.wh_terms.specs.Entries.{bodies}
use Rattle.wh_terms.specs.Value.{Value}
use Rattle.wh_terms.specs.Valued.{valued}
use Rattle.wh_terms.proofs.Results.{IfOk-map}
use Rattle.wh_terms.proofs.ValuedLaws.{value_of_covered}
use Rattle.wh_terms.proofs.apply.apply_meta.Goals as goal

pub returns : goal.returns
returns c =
    IfOk-map (λ r. tm r ≡ valued 0 (bodies c.args.by.now) (tm c.args.term.now)) (λ r. Value (bodies c.args.by.now) (tm c.args.term.now) (tm r)) c.value_under.result
    (λ r is. value_of_covered c.args.by.now (tm c.args.term.now) (tm r) c.requires.covered is) c.value_under.ensures
