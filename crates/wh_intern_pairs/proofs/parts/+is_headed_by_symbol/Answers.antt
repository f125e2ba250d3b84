use Rattle.std.proofs.Common.{zero, Contains, refl, sym, subst, arith}
use Rattle.wh_intern.specs.Parts.{part_tree}
use Rattle.wh_intern.specs.Trees.{numbers}
use Rattle.wh_intern_pairs.proofs.parts.+is_headed_by_symbol.Goals as goal

pub is_headed_by_symbol-requires : goal.is_headed_by_symbol-requires
is_headed_by_symbol-requires t c =
    let low = c.part.ensures.below c.in-App.function
    (subst (λ p. Contains (numbers (part_tree p)) c.in-App.function) (sym c.in-App.is) (zero, omega arith, refl)) in
    (omega (arith, low), omega (arith, low, c.requires))
