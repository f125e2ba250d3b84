use Rattle.wh_poly_guesses.proofs.GuessLemmas.{readings_in}
use Rattle.wh_poly_ranges.proofs.testing.fails_at.Goals as goal

pub is_rule_out-requires-clause-low : goal.is_rule_out-requires-clause-low
is_rule_out-requires-clause-low c = readings_in c.args.task.now c.readings.result c.args.guess.now c.requires.guess c.readings.ensures.symbols c.readings.ensures.marks

pub is_rule_out-requires-clause-high : goal.is_rule_out-requires-clause-high
is_rule_out-requires-clause-high c = readings_in c.args.task.now c.readings-2.result c.args.guess.now c.requires.guess c.readings-2.ensures.symbols c.readings-2.ensures.marks

pub is_pair_out-requires-clause-low : goal.is_pair_out-requires-clause-low
is_pair_out-requires-clause-low c = readings_in c.args.task.now c.readings.result c.args.guess.now c.requires.guess c.readings.ensures.symbols c.readings.ensures.marks

pub is_pair_out-requires-clause-high : goal.is_pair_out-requires-clause-high
is_pair_out-requires-clause-high c = readings_in c.args.task.now c.readings-2.result c.args.guess.now c.requires.guess c.readings-2.ensures.symbols c.readings-2.ensures.marks
