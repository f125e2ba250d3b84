use Rattle.std.proofs.Common.{ap, ◌∙◌}
use Rattle.wh_terms.specs.Tree.{meta}
use Rattle.wh_terms.specs.Erase.{tms}
use Rattle.wh_terms.proofs.TermLemmas.{tm_meta}
use Rattle.wh_pairs_making.proofs.freed.nullary.Goals as goal

pub returns : goal.returns
returns c = tm_meta c.args.meta c.new.result ∙ ap (λ ts. meta c.args.meta (tms ts)) c.new.ensures
