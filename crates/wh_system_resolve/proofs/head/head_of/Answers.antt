use Rattle.std.proofs.Common.{ap, sym, ◌∙◌}
use Rattle.wh_terms.specs.Erase.{tm}
use Rattle.wh_text.specs.Erase.{rtm}
use Rattle.wh_system_parts.specs.declared.fault.SystemFault.TheVariants.{HeadNotFun}
use Rattle.wh_system_resolve.proofs.HeadLemmas.{head_symbol_meant}
use Rattle.wh_system_resolve.proofs.head.head_of.Goals as goal

pub returns-in-Some : goal.returns-in-Some
returns-in-Some c = λ s m. head_symbol_meant s (rtm c.args.raw.now) (tm c.args.left.now) m ∙ sym c.symbol_of.ensures ∙ c.in-Some.is

pub returns-in-None : goal.returns-in-None
returns-in-None c =
    λ s m. (head_symbol_meant s (rtm c.args.raw.now) (tm c.args.left.now) m ∙ sym c.symbol_of.ensures ∙ c.in-None.is, ap HeadNotFun c.offset.ensures)
