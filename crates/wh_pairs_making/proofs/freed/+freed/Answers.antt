use Rattle.std.proofs.Common.{ap, sym, ◌∙◌}
use Rattle.wh_terms.specs.Tree.{meta, free}
use Rattle.wh_terms.specs.Scope.{scope}
use Rattle.wh_terms.specs.Under.{ups, ups_free}
use Rattle.wh_terms.proofs.TermLemmas.{tm_meta}
use Rattle.wh_terms.proofs.WalkLemmas.{act_at_meta}
use Rattle.wh_pairs.specs.Candidates.{freed}
use Rattle.wh_pairs_making.proofs.freed.+freed.Goals as goal

pub freed_under-returns-in_ok-freed_each-in-Meta : goal.freed_under-returns-in_ok-freed_each-in-Meta
freed_under-returns-in_ok-freed_each-in-Meta t c =
    tm_meta c.in-Meta.meta c.in_ok-freed_each-in-Meta.field-0
    ∙ ap (meta c.in-Meta.meta) c.in_ok-freed_each-in-Meta.ensures
    ∙ sym (act_at_meta (ups c.args.depth (freed c.args.by.now.first (scope c.args.by.now.binders.now))) (ups_free c.args.depth free) c.args.term.now c.in-Meta.meta c.in-Meta.items c.in-Meta.is)
