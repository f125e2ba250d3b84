use Rattle.wh_order_text.proofs.FilterWhole.{reads_filter}
use Rattle.wh_order_text.proofs.laws.filter_read.Goals as goal

pub returns : goal.returns
returns c = reads_filter
