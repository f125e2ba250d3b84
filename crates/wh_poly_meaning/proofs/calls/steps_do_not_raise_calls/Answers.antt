-- The value of the argument does not rise, and the interpretation is monotone.
use Rattle.wh_poly_meaning.proofs.PairsEnd.{arguments_worth}
use Rattle.wh_poly_meaning.proofs.calls.steps_do_not_raise_calls.Goals as goal

pub returns : goal.returns
returns c S rules R d e well proper covered typed s = arguments_worth S rules R proper well covered d e typed s
