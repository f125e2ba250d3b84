-- The symbol at the index.
use Rattle.wh_hopoly.proofs.ValuedLaws.{reading_alone}
use Rattle.wh_hopoly.proofs.table.symbol_at.Goals as goal

pub returns : goal.returns
returns c = reading_alone c.args.symbols.now c.args.symbol c.index-symbols-symbol.result c.requires c.index-symbols-symbol.is
