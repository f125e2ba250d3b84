-- By induction on steps and direct subterms.
use Rattle.wh_terms.proofs.TypingLaws.{typed_loose, typed_term}
use Rattle.wh_step_laws.proofs.SystemSteps.{bounded-ends}
use Rattle.wh_usable_calls.proofs.BoundLaws.{ending_bound}
use Rattle.wh_usable_calls.proofs.bounds.bounded_terms_have_bounds.Goals as goal

pub returns : goal.returns
returns c S rules listed symbols t made (a, typed) bounded =
    ending_bound S rules listed symbols made t (typed_loose typed, typed_term t typed) (bounded-ends t bounded)
