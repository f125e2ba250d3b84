use Rattle.wh_order_text.proofs.FilterWhole.{one_filter}
use Rattle.wh_order_text.proofs.laws.one_filter.Goals as goal

pub returns : goal.returns
returns c = one_filter
