use Rattle.std.proofs.Common.{ap, sym, ◌∙◌}
use Rattle.std.specs.Prelude.{◌&&◌}
use Rattle.wh_terms.specs.Erase.{tm}
use Rattle.wh_text.specs.Erase.{rtms}
use Rattle.wh_system_resolve.specs.Form.{arguments_in, have_distinct, are_names}
use Rattle.wh_system_resolve.proofs.form.has_distinct.Goals as goal

pub returns-then-not-are_names : goal.returns-then-not-are_names
returns-then-not-are_names c =
    sym (ap (λ b. b && have_distinct (arguments_in (tm c.args.term.now)))
    (ap (λ xs. are_names (rtms xs)) (sym c.as_slice.ensures) ∙ sym c.are_names.ensures ∙ c.if-not-are_names.true))
