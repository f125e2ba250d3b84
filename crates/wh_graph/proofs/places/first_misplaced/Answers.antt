use Rattle.std.proofs.Common.{ℕ, Option, sym, subst}
use Rattle.wh_graph.specs.Blocks.{IsMisplaced}
use Rattle.wh_graph.specs.Least.{LeastOf}
use Rattle.wh_graph.specs.Times.{IsStray, IsUneven}
use Rattle.wh_graph.proofs.LeastLemmas.{least_smaller}
use Rattle.wh_graph.proofs.TimesLemmas.{stray_misplaced, uneven_misplaced, misplaced_cases}
use Rattle.wh_graph.proofs.places.first_misplaced.Goals as goal

pub returns : goal.returns
returns c =
    let set = c.args.set.now in
    let blocks = c.args.blocks.now in
    subst (λ (o : Option ℕ). LeastOf (IsMisplaced set blocks) o) (sym c.smaller.ensures)
    (least_smaller (IsStray set blocks) (IsUneven set blocks) (IsMisplaced set blocks) (stray_misplaced set blocks) (uneven_misplaced set blocks) (misplaced_cases set blocks)
    c.least_stray.result c.least_uneven.result c.least_stray.ensures c.least_uneven.ensures)
