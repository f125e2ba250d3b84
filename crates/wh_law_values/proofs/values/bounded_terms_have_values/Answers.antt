-- By induction on steps and direct subterms together.
use Rattle.wh_terms.proofs.TypingLaws.{typed_loose, typed_term}
use Rattle.wh_step_laws.proofs.SystemSteps.{bounded-ends}
use Rattle.wh_law_values.proofs.TermValues.{ending_value}
use Rattle.wh_law_values.proofs.values.bounded_terms_have_values.Goals as goal

pub returns : goal.returns
returns k S rules listed symbols t made (a, typed) bounded =
    ending_value S rules listed symbols made t (typed_loose typed, typed_term t typed) (bounded-ends t bounded)
