use Rattle.wh_order_sides.proofs.MetaLemmas.{meta_alone}
use Rattle.wh_order_sides.proofs.metas.nullary.Goals as goal

pub returns : goal.returns
returns c = meta_alone c.args.number c.new.result c.new.ensures
