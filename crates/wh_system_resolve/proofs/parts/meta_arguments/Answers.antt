use Rattle.std.proofs.Common.{Some, ap, sym, ◌∙◌}
use Rattle.wh_terms.specs.Erase.{tms}
use Rattle.wh_terms.proofs.TermLemmas.{tm_of_meta}
use Rattle.wh_system_resolve.specs.Form.{arguments_in}
use Rattle.wh_system_resolve.proofs.parts.meta_arguments.Goals as goal

pub returns-in-Meta : goal.returns-in-Meta
returns-in-Meta c = ap (λ xs. Some (tms xs)) c.as_slice.ensures ∙ sym (ap arguments_in (tm_of_meta c.args.term.now c.in-Meta.field-0 c.in-Meta.items c.in-Meta.is))
