use Rattle.wh_order_lines.proofs.FitLemmas.{rule_fits}
use Rattle.wh_order_lines.proofs.laws.rule_line_fits.Goals as goal

pub returns : goal.returns
returns c = λ d D r i made filters good within. rule_fits d made D filters r i good within
