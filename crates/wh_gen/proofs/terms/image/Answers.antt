use Rattle.std.proofs.Common.{ap, ap₂, ◌∙◌}
use Rattle.wh_text.specs.RawTree.{meta}
use Rattle.wh_text.specs.Erase.{rtms}
use Rattle.wh_text.proofs.RawLemmas.{rtm_meta}
use Rattle.wh_gen.proofs.terms.image.Goals as goal

pub returns : goal.returns
returns c =
    rtm_meta c.in_ok-new.field-0 c.in_ok-arguments.arguments 0 ∙ ap₂ (λ z us. meta z us 0) c.in_ok-new.ensures (ap rtms c.in_ok-arguments.ensures)
