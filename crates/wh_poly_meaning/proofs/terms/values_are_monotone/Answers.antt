-- By recursion on the tree.
use Rattle.wh_poly_meaning.proofs.TermValues.{value_mono, value_le}
use Rattle.wh_poly_meaning.proofs.terms.values_are_monotone.Goals as goal

pub returns : goal.returns
returns c = record {
  mono = λ S m scope t v a k h. value_mono S _ m k t scope v h a;
  grow = λ S m scope t v w a k h j l. value_le S _ m k t scope v w h j l a;
}
