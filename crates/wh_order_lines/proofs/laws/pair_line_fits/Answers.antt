use Rattle.wh_order_lines.proofs.FitLemmas.{pair_fits}
use Rattle.wh_order_lines.proofs.laws.pair_line_fits.Goals as goal

pub returns : goal.returns
returns c = λ d D p i made filters good within. pair_fits d made D filters p i good within
