-- The extended sides of rules, as the program makes them.
use Rattle.std.specs.Prelude.{◌≡◌, ◌≤◌}
use Rattle.wh_types.specs.Limits.{greatest_size}
use Rattle.wh_terms.specs.Tree.{Tm}
use Rattle.wh_terms.specs.Typing.{Symbols}
use Rattle.wh_terms.specs.Rules.{RewriteRule}
use Rattle.wh_terms.specs.Erase.{declared_metas, tm}
use Rattle.wh_terms.specs.Measures.{size}
use Rattle.wh_order_extended.specs.ExtendedSides.{extended_metas, extended_side}
use Rattle.wh_order_sides.specs.declared.sides.WideSide.{WideSide}

-- w is the side t of the rule, extended, over the meta-variables of the rule's extended sides, and has at most 65,536
-- nodes
pub record IsWideSide (S : Symbols) (r : RewriteRule) (t : Tm) (w : WideSide) : Type 0 where
  pub same : tm w.term ≡ extended_side S r t
  pub metas : declared_metas w.metas ≡ extended_metas S r
  pub narrow : size (extended_side S r t) ≤ greatest_size
