use Rattle.std.proofs.Common.{ap, sym, ◌∙◌}
use Rattle.wh_terms.specs.Tree.{meta}
use Rattle.wh_terms.specs.Under.{ups, ups_free}
use Rattle.wh_terms.proofs.TermLemmas.{tm_meta}
use Rattle.wh_terms.proofs.WalkLemmas.{act_at_meta}
use Rattle.wh_terms.proofs.walk.+act.Goals as goal

pub act_under-returns-in_ok-act_each-in-Meta : goal.act_under-returns-in_ok-act_each-in-Meta
act_under-returns-in_ok-act_each-in-Meta g t c =
    tm_meta c.in-Meta.meta c.in_ok-act_each-in-Meta.field-0
    ∙ ap (meta c.in-Meta.meta) c.in_ok-act_each-in-Meta.ensures
    ∙ sym (act_at_meta (ups c.args.depth (g.R.Replace.for_bound c.args.by.now)) (ups_free c.args.depth (g.R.Replace.for_free c.args.by.now)) c.args.term.now c.in-Meta.meta c.in-Meta.items c.in-Meta.is)
