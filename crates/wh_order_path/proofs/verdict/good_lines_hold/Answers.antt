-- By induction on the inferences.
use Rattle.wh_order_path.proofs.VerdictLaws.{line_holds}
use Rattle.wh_order_path.proofs.verdict.good_lines_hold.Goals as goal

pub returns : goal.returns
returns c F prec M s t a b i one p q n m f g e = line_holds F prec M one s t a b i p q n m f g e
