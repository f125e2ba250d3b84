-- The reading at the symbol's number.
use Rattle.std.proofs.Common.{ap, sym, subst, ◌∙◌}
use Rattle.wh_hopoly.specs.Evaluation.{interpretation_at}
use Rattle.wh_hopoly.specs.Valued.{readings, IsKnown}
use Rattle.wh_hopoly.proofs.ValuedLaws.{reading_left, known_below, reading_last}
use Rattle.wh_hopoly.proofs.table.polynomial_of.Goals as goal

pub symbol_at-requires : goal.symbol_at-requires
symbol_at-requires c = known_below c.in-Alone.symbols.now c.args.symbol (subst (λ table. IsKnown (readings table) c.args.symbol) c.in-Alone.is c.requires)

pub returns-in-Alone : goal.returns-in-Alone
returns-in-Alone c = sym (ap (λ s. s.polynomial) (ap (λ table. interpretation_at (readings table) c.args.symbol) c.in-Alone.is ∙ c.symbol_at.ensures))

pub returns-then-symbol-symbols : goal.returns-then-symbol-symbols
returns-then-symbol-symbols c = sym (ap (λ s. s.polynomial) (ap (λ table. interpretation_at (readings table) c.args.symbol) c.in-With.is
    ∙ reading_left c.in-With.symbols.now _ c.args.symbol c.if-symbol-symbols.true ∙ c.symbol_at-then-symbol-symbols.ensures))

pub returns-else-symbol-symbols : goal.returns-else-symbol-symbols
returns-else-symbol-symbols c =
    sym (ap (λ s. s.polynomial) (ap (λ table. interpretation_at (readings table) c.args.symbol) c.in-With.is
    ∙ reading_last c.in-With.symbols.now _ c.args.symbol c.if-symbol-symbols.false (subst (λ table. IsKnown (readings table) c.args.symbol) c.in-With.is c.requires)))
