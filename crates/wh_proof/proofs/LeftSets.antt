-- How many sets a node leaves.
use Rattle.std.proofs.Common.{◌≡◌, ℕ, suc, List, [], ◌∷◌, length, refl, sym, ap, ◌∙◌}
use Rattle.wh_system.specs.Systems.{SystemData}
use Rattle.wh_pairs.specs.PairData.{PairData}
use Rattle.wh_cert.specs.Written as w
use Rattle.wh_cert.specs.Written.{children}
use Rattle.wh_proof.specs.Nodes.{Node, done, alone, blocks, subterm, poly, order, AreSetsOf, no_sets, more_sets, Leaves, by_done, by_alone, by_blocks, by_subterm, by_poly, by_order}
use Rattle.wh_proof.specs.Looked.{SaysNode}

pub sets_count : (parts sets : List (List ℕ)) → AreSetsOf parts sets → length sets ≡ length parts
sets_count [] [] no_sets = refl
sets_count (part ∷ parts) (set ∷ sets) (more_sets is rest) = ap suc (sets_count parts sets rest)
sets_count [] (set ∷ sets) none = elim none [ ]
sets_count (part ∷ parts) [] none = elim none [ ]

-- a node leaves as many sets as its line has children
pub leaves_count : (d : SystemData) (ps : List PairData) (set : List ℕ) (line : w.Node) (node : Node) (left : List (List ℕ))
    → SaysNode d line node → Leaves d.symbols d.rules ps set node left → length left ≡ children line
leaves_count d ps set w.done done [] says by_done = refl
leaves_count d ps set w.alone alone [] says (by_alone free) = refl
leaves_count d ps set (w.blocks listed) (blocks parts) left says (by_blocks are sets) = sets_count parts left sets ∙ ap length (sym says)
leaves_count d ps set (w.subterm lines listed) (subterm args drop) left says (by_subterm is rest) = refl
leaves_count d ps set (w.interpretations usable funs lines rules pairs listed) (poly covered R E) left says
    (by_poly is all rest) = refl
leaves_count d ps set (w.order funs lines rules pairs listed) (order D E) left says (by_order is rest) = refl
leaves_count d ps set w.done done (_ ∷ _) says leaves = elim leaves [ ]
leaves_count d ps set w.alone alone (_ ∷ _) says leaves = elim leaves [ ]
leaves_count d ps set w.done alone left says leaves = absurd says
leaves_count d ps set w.done (blocks parts) left says leaves = absurd says
leaves_count d ps set w.done (subterm args drop) left says leaves = absurd says
leaves_count d ps set w.done (poly covered R E) left says leaves = absurd says
leaves_count d ps set w.done (order D E) left says leaves = absurd says
leaves_count d ps set w.alone done left says leaves = absurd says
leaves_count d ps set w.alone (blocks parts) left says leaves = absurd says
leaves_count d ps set w.alone (subterm args drop) left says leaves = absurd says
leaves_count d ps set w.alone (poly covered R E) left says leaves = absurd says
leaves_count d ps set w.alone (order D E) left says leaves = absurd says
leaves_count d ps set (w.blocks listed) done left says leaves = absurd says
leaves_count d ps set (w.blocks listed) alone left says leaves = absurd says
leaves_count d ps set (w.blocks listed) (subterm args drop) left says leaves = absurd says
leaves_count d ps set (w.blocks listed) (poly covered R E) left says leaves = absurd says
leaves_count d ps set (w.blocks listed) (order D E) left says leaves = absurd says
leaves_count d ps set (w.subterm lines listed) done left says leaves = absurd says
leaves_count d ps set (w.subterm lines listed) alone left says leaves = absurd says
leaves_count d ps set (w.subterm lines listed) (blocks parts) left says leaves = absurd says
leaves_count d ps set (w.subterm lines listed) (poly covered R E) left says leaves = absurd says
leaves_count d ps set (w.subterm lines listed) (order D E) left says leaves = absurd says
leaves_count d ps set (w.interpretations usable funs lines rules pairs listed) done left says leaves = absurd says
leaves_count d ps set (w.interpretations usable funs lines rules pairs listed) alone left says leaves = absurd says
leaves_count d ps set (w.interpretations usable funs lines rules pairs listed) (blocks parts) left says leaves = absurd says
leaves_count d ps set (w.interpretations usable funs lines rules pairs listed) (subterm args drop) left says leaves = absurd says
leaves_count d ps set (w.interpretations usable funs lines rules pairs listed) (order D E) left says leaves = absurd says
leaves_count d ps set (w.order funs lines rules pairs listed) done left says leaves = absurd says
leaves_count d ps set (w.order funs lines rules pairs listed) alone left says leaves = absurd says
leaves_count d ps set (w.order funs lines rules pairs listed) (blocks parts) left says leaves = absurd says
leaves_count d ps set (w.order funs lines rules pairs listed) (subterm args drop) left says leaves = absurd says
leaves_count d ps set (w.order funs lines rules pairs listed) (poly covered R E) left says leaves = absurd says
