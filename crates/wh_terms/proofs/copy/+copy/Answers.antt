use Rattle.std.proofs.Common.{ap, sym, ◌∙◌}
use Rattle.wh_terms.specs.Tree.{meta}
use Rattle.wh_terms.proofs.TermLemmas.{tm_meta, tm_of_meta}
use Rattle.wh_terms.proofs.copy.+copy.Goals as goal

pub copy_term-returns-in_ok-copy_terms-in-Meta : goal.copy_term-returns-in_ok-copy_terms-in-Meta
copy_term-returns-in_ok-copy_terms-in-Meta t c =
    tm_meta c.in-Meta.meta c.in_ok-copy_terms-in-Meta.field-0
    ∙ ap (meta c.in-Meta.meta) c.in_ok-copy_terms-in-Meta.ensures
    ∙ sym (tm_of_meta c.args.t.now c.in-Meta.meta c.in-Meta.items c.in-Meta.is)
