use Rattle.std.proofs.Common.{refl}
use Rattle.wh_intern.specs.Trees.{tree_at}
use Rattle.wh_intern_pairs.proofs.PartsByNumber.{not_of_itself}
use Rattle.wh_intern_pairs.proofs.parts.nothing_asked.Goals as goal

pub returns : goal.returns
returns c = λ ts. (λ no_way. cc, λ part. absurd (not_of_itself (tree_at ts 0) (tree_at ts 0) refl part))
