-- By induction on the list, and on its first member.
use Rattle.std.proofs.lemmas.List.Elements.{recursion_from_All}
use Rattle.wh_step.specs.Reduction.{Bounded}
use Rattle.wh_step_laws.proofs.SystemSteps.{list-bounded}
use Rattle.wh_step_laws.proofs.bounds.lists_of_bounded_terms_end.Goals as goal

pub returns : goal.returns
returns c rules ts h = list-bounded rules ts (recursion_from_All (Bounded rules) ts h)
