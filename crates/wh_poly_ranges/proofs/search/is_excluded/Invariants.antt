use Rattle.wh_poly_ranges.specs.Out.{AllOut, IsSpanOut}
use Rattle.wh_poly_ranges.proofs.search.is_excluded.Given as goal

abbrev pub invariant-spans : goal.invariant-spans
invariant-spans l = AllOut l.task l.strict l.spans.items → IsSpanOut l.task l.strict l.fn.first
