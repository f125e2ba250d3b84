use Rattle.wh_terms.specs.Erase.{tm, symbols}
use Rattle.wh_step_laws.specs.Ranks.{rank_of}
use Rattle.wh_access.proofs.CheckLemmas.{passes_told}
use Rattle.wh_access.proofs.check.passes.Goals as goal

pub returns : goal.returns
returns c =
    passes_told (symbols c.args.signature.now) (rank_of c.args.ranks.now) (tm c.args.left.now) c.args.meta c.is_open_in_left.result c.eq.result c.is_open_in_left.ensures c.eq.ensures
