-- The reading counts as it does once it is renumbered.
use Rattle.std.proofs.Common.{◌+◌, [], ◌∙◌}
use Rattle.wh_poly.specs.Arithmetic.{renumber}
use Rattle.wh_poly.specs.Erase.{poly}
use Rattle.wh_hopoly.proofs.RenumberLaws.{moved_from_start}
use Rattle.wh_hopoly.proofs.RunLaws.{first_is_there, within_one}
use Rattle.wh_hopoly.proofs.ValuedLaws.{exceeds_renumbered, exceeds_before}
use Rattle.wh_hopoly.proofs.valued.value_of_symbol.Goals as goal

pub returns-in-Err-clause-fault : goal.returns-in-Err-clause-fault
returns-in-Err-clause-fault c =
    let r = poly c.args.reading.now in
    (renumber (λ i. c.args.count + i) r, first_is_there _ [], exceeds_renumbered c.in-Err.excess (λ i. c.args.count + i) r c.in-Err.ensures)

pub returns-clause-ok : goal.returns-clause-ok
returns-clause-ok c =
    let r = poly c.args.reading.now in
    ((c.in_ok-value.ensures ∙ moved_from_start c.args.count r, within_one (renumber (λ i. c.args.count + i) r) (λ h. c.in_default.ensures (exceeds_before (λ i. c.args.count + i) r h))), c.in_ok-copy.ensures)
