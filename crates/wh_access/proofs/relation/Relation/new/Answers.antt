use Rattle.std.proofs.Common.{arith, ◌*◌, ◌+◌}
use Rattle.wh_access.proofs.RelationLemmas.{unset}
use Rattle.wh_access.proofs.relation.Relation.new.Goals as goal

pub returns : goal.returns
returns c s t from to =
    unset c.in_ok-vec.field-0.items 65536 (s * 256 + t) (c.in_ok-vec.ensures.items_if_clones_equal (λ y e. e)) (omega arith)
