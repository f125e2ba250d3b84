use Rattle.std.proofs.Common.{List, ℕ, ap, ◌∙◌}
use Rattle.wh_text.specs.RawTree.{raw_type}
use Rattle.wh_text.specs.Erase.{rtys}
use Rattle.wh_text.proofs.RawLemmas.{rty_made}
use Rattle.wh_gen.proofs.types.over.Goals as goal

pub returns : goal.returns
returns c = rty_made c.args.args c.in_ok-sort.sort 0 ∙ ap (λ (s : List ℕ). raw_type (rtys c.args.args) s 0) c.in_ok-sort.ensures
