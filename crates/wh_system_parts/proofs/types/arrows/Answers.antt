use Rattle.std.proofs.Common.{ap, sym, ◌∙◌}
use Rattle.wh_types.specs.Ty.{◌⇒◌}
use Rattle.wh_types.specs.Erase.{ty, tys}
use Rattle.wh_system_parts.specs.Naming.{arrows_over}
use Rattle.wh_system_parts.proofs.TypeLemmas.{arrows_pop}
use Rattle.wh_system_parts.proofs.types.arrows.Goals as goal

pub loop-domain-preserved : goal.loop-domain-preserved
loop-domain-preserved c =
    (λ i. arrows_over (tys c.pop.new.self.items) (ty (c.in_ok-new.ensures.ok i) ⇒ ty (c.in_ok-new-2.ensures.ok i)))
    ∙ sym (arrows_pop c.pop.new.self.items c.in-Some.domain (ty c.loop-domain.whole))
    ∙ ap (λ xs. arrows_over (tys xs) (ty c.loop-domain.whole)) (sym c.in-Some.ensures.items) ∙ c.loop-domain.invariant
