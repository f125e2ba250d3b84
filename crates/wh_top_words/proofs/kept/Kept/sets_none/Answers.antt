use Rattle.std.proofs.Common.{sym, ◌∙◌}
use Rattle.std.proofs.lemmas.Bool.{false≢true}
use Rattle.wh_top_words.proofs.Keeping.{sets_none_where, no_bounds}
use Rattle.wh_top_words.proofs.kept.Kept.sets_none.Goals as goal

pub returns-then-sets_no_bounds : goal.returns-then-sets_no_bounds
returns-then-sets_no_bounds c =
    sets_none_where c.args.self.now (c.sets_no_bounds.ensures.0 c.if-sets_no_bounds.true) _ c.is_none.ensures

pub returns-else-sets_no_bounds : goal.returns-else-sets_no_bounds
returns-else-sets_no_bounds c = (
  λ t. absurd (false≢true (sym c.if-sets_no_bounds.false ∙ t)),
  λ none. c.sets_no_bounds.ensures.1 (no_bounds c.args.self.now none),
)
