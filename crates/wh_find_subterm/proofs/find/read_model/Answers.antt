use Rattle.std.proofs.Common.{List, ℕ, false, get_or, map, sym, ap, subst, ◌∙◌}
use Rattle.wh_pairs.specs.PairData.{IsIncreasing}
use Rattle.wh_subterm.specs.declared.projection.Choice as code
use Rattle.wh_subterm.specs.SubtermRows.{chosen, chosen_symbols}
use Rattle.wh_find_subterm.proofs.Models.{symbols_by}
use Rattle.wh_find_subterm.proofs.find.read_model.Goals as goal

pub below_under-requires-clause-args : goal.below_under-requires-clause-args
below_under-requires-clause-args c =
    let symbols = ap (λ (cs : List code.Choice). chosen_symbols (map chosen cs)) c.as_slice.ensures ∙ (ap chosen_symbols c.in_ok-args.ensures ∙ symbols_by (λ (x : ℕ). get_or c.args.values.now x false) c.args.rows.now) in
    subst IsIncreasing (sym symbols) c.requires.symbols
