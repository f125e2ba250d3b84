use Rattle.std.proofs.Common.{◌≡◌, [], IfOk, ap, subst, ◌∙◌}
use Rattle.wh_text.specs.RawTree.{RTy, raw_type}
use Rattle.wh_text.specs.Erase.{rtys}
use Rattle.wh_text.proofs.RawLemmas.{rty_made}
use Rattle.wh_read.specs.Held as held
use Rattle.wh_read.specs.Reader as r
use Rattle.wh_read.proofs.types.sort_in_type.Goals as goal

pub returns : goal.returns
returns c =
    subst (λ (a : RTy). IfOk c.had_atype.result (λ step. (parts : _) → held.state parts step ≡ r.had_atype parts (held.purpose c.args.purpose) (rtys c.args.started.args) (held.types_in [] c.args.started.outer.items) a))
    (rty_made c.new-args.result c.args.sort c.args.at ∙ ap (λ ts. raw_type (rtys ts) c.args.sort c.args.at) c.new-args.ensures) c.had_atype.ensures
