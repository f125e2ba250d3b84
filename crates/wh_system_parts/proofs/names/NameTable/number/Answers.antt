use Rattle.std.proofs.Common.{ap, sym, ◌∙◌}
use Rattle.wh_system_parts.specs.Naming.{number_of}
use Rattle.wh_system_parts.proofs.NameLemmas.{number_of-turned}
use Rattle.wh_system_parts.proofs.names.NameTable.number.Goals as goal

pub returns-in_err-number : goal.returns-in_err-number
returns-in_err-number c =
    c.from_residual.ensures ∙ sym c.in_err-number.was ∙ c.get_index_of.ensures.index ∙ number_of-turned c.self.inside.names.keys c.args.name.now
    ∙ ap (λ names. number_of names c.args.name.now) c.self.view_is

pub returns : goal.returns
returns c =
    sym c.in_ok-number.was ∙ c.get_index_of.ensures.index ∙ number_of-turned c.self.inside.names.keys c.args.name.now
    ∙ ap (λ names. number_of names c.args.name.now) c.self.view_is
