use Rattle.wh_pairs.specs.PairData.{pair_data}
use Rattle.wh_pairs.proofs.MemberLemmas.{image_there}
use Rattle.wh_system_print.proofs.pairs.print_lines.Goals as goal

pub print_pair-requires : goal.print_pair-requires
print_pair-requires c =
    c.requires (pair_data c.index-pairs-k.result) (image_there pair_data c.args.pairs.now c.loop-k.k c.index-pairs-k.result c.loop-k-test.true c.index-pairs-k.is)
