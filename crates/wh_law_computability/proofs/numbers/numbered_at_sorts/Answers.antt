-- It is the definition.
use Rattle.wh_law_computability.proofs.numbers.numbered_at_sorts.Goals as goal

pub returns : goal.returns
returns c S rules rank s t = (λ h. h, λ h. h)
